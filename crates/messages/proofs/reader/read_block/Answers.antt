-- `messages::read_block` meets its contract: each return is the outcome of the first place that refuses, and for a codeword block of a plan of
-- at most 512 edges the whole message is written.
use Rattle.std.proofs.Common.{not, ◌≡◌, ◌≤◌, ◌<◌, length, refl, sym, ap, ◌∙◌, arith}
use Rattle.inner_code.proofs.Replies.{passed-on}
use Rattle.wiring.specs.Plan.{edge_count, left, right}
use Rattle.wiring.specs.Block.{block_bytes}
use Rattle.wiring.specs.PlanParts.{plan_in}
use Rattle.wiring.proofs.Plans.{plan-accepted, plan-refused}
use Rattle.wiring.proofs.VertexAccess.{codes-readable}
use Rattle.wiring.proofs.Blocks.{block_room}
use Rattle.messages.specs.Position.{message_bits}
use Rattle.messages.specs.Columns.{no_columns, StoredPlan}
use Rattle.messages.proofs.Answers.{read-plan, read-long, read-block, read-stranger, read-output, read_done}
use Rattle.messages.proofs.LiveRows.{stored-bits}
use Rattle.messages.proofs.Outcomes.{located-codeword}
use Rattle.messages.proofs.Solving.{plan-stored}
use Rattle.messages.proofs.Written.{taken-read}
use Rattle.messages.proofs.reader.read_block.Goals as goal
use Rattle.messages.proofs.reader.read_block.Goals.{After-solve}

-- the rows of the plan
rows : (c : After-solve) → StoredPlan (plan_in c.in_ok-checked.checked.parts) c.edges-edges.result c.solve.new.columns
rows c = plan-stored c.in_ok-checked.checked _ c.edges-edges.ensures c.if-edges-gt-MAX_EDGES.false _ c.solve.ensures

pub returns-in_err-checked : goal.returns-in_err-checked
returns-in_err-checked c =
    let back = read-plan _ c.args.block.now c.args.output.now _ _ (plan-refused _ _ c.check_plan.ensures _ c.in_err-checked.was) in
    rw (passed-on _ _ c.from_residual.ensures.1) (record { result_value = sym back.answer; output_after = sym back.leaves })

pub returns-then-edges-gt-MAX_EDGES : goal.returns-then-edges-gt-MAX_EDGES
returns-then-edges-gt-MAX_EDGES c =
    let r = c.in_ok-checked.checked in
    let large : 512 < edge_count (plan_in r.parts) = omega (arith, c.edges-edges.ensures) in
    let long = read-long (plan_in r.parts) c.args.block.now c.args.output.now r.passed large in
    rw (← c.in_ok-checked.ensures.parts) (record { result_value = sym long.answer; output_after = sym long.leaves })

pub returns-in_err-check_block : goal.returns-in_err-check_block
returns-in_err-check_block c =
    let r = c.in_ok-checked.checked in
    let wrong = rw c.edges-edges.ensures at (sym c.in_err-check_block.ensures) in
    let short : edge_count (plan_in r.parts) ≤ 512 = omega (arith, c.edges-edges.ensures) in
    let back = read-block (plan_in r.parts) c.args.block.now c.args.output.now r.passed short _ _ wrong in
    rw (passed-on _ _ c.from_residual-in_err-check_block.ensures.1, ← c.in_ok-checked.ensures.parts)
    (record { result_value = sym back.answer; output_after = sym back.leaves })

pub first_unsatisfied-requires : goal.first_unsatisfied-requires
first_unsatisfied-requires c =
    let p = plan-accepted c.in_ok-checked.checked in
    codes-readable _ p.plan-done _ (block_room _ _ (rw c.edges-edges.ensures at (sym c.in_ok-check_block.ensures))) (p.code_is left) (p.code_is right)

pub returns-then-is_some : goal.returns-then-is_some
returns-then-is_some c =
    let r = c.in_ok-checked.checked in
    let passes = rw c.edges-edges.ensures at (sym c.in_ok-check_block.ensures) in
    let short : edge_count (plan_in r.parts) ≤ 512 = omega (arith, c.edges-edges.ensures) in
    let other = located-codeword (plan-accepted r) _ _ c.first_unsatisfied.ensures ∙ ap not (sym c.if-is_some.ensures) in
    let back = read-stranger (plan_in r.parts) c.args.block.now c.args.output.now r.passed short passes other in
    rw (← c.in_ok-checked.ensures.parts) (record { result_value = sym back.answer; output_after = sym back.leaves })

pub solve-requires-clause-columns_value : goal.solve-requires-clause-columns_value
unfolding no_columns
solve-requires-clause-columns_value c = refl

pub returns-then-output-bytes : goal.returns-then-output-bytes
unfolding block_bytes
returns-then-output-bytes c =
    let r = c.in_ok-checked.checked in
    let s = rows (goal.at.returns-then-output-bytes c).After-solve in
    let passes = rw c.edges-edges.ensures at (sym c.in_ok-check_block.ensures) in
    let codeword = located-codeword (plan-accepted r) _ _ c.first_unsatisfied.ensures ∙ ap not (sym c.if-is_some.ensures) in
    let few : length c.args.output.now < block_bytes (message_bits (plan_in r.parts)) = omega (arith, stored-bits s) in
    let back = read-output (plan_in r.parts) c.args.block.now c.args.output.now r.passed (rw s.edges at s.short) passes codeword few in
    rw (← c.in_ok-checked.ensures.parts) (record { result_value = sym back.answer; output_after = sym back.leaves })

pub returns : goal.returns
unfolding block_bytes
returns c =
    let r = c.in_ok-checked.checked in
    let s = rows (goal.at.returns c).After-solve in
    let passes = rw c.edges-edges.ensures at (sym c.in_ok-check_block.ensures) in
    let codeword = located-codeword (plan-accepted r) _ _ c.first_unsatisfied.ensures ∙ ap not (sym c.if-is_some.ensures) in
    let sized : c.div_ceil-bytes.result ≡ block_bytes (message_bits (plan_in r.parts)) =
    omega (arith, c.div_ceil-bytes.ensures, c.count_live.ensures, stored-bits s) in
    let enough : block_bytes (message_bits (plan_in r.parts)) ≤ length c.args.output.now = omega (arith, sized, c.if-output-bytes.false) in
    let whole = read_done (plan_in r.parts) c.args.block.now c.args.output.now r.passed (rw s.edges at s.short) passes codeword enough in
    let taken = taken-read s c.args.block.now c.args.output.now _ (rw (c.clear.ensures, sized) at c.take_bits.ensures) in
    rw (← c.in_ok-checked.ensures.parts) (record { result_value = sym whole.answer; output_after = taken ∙ sym whole.leaves })
