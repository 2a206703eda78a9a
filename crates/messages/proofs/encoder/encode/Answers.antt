-- `messages::encode` meets its contract: each return is the outcome of the first place that refuses, and with a plan of at most 512 edges the
-- whole block is written.
use Rattle.std.proofs.Common.{◌≡◌, ◌≤◌, ◌<◌, length, refl, sym, ◌∙◌, arith}
use Rattle.inner_code.proofs.Replies.{passed-on}
use Rattle.wiring.specs.Plan.{edge_count}
use Rattle.wiring.specs.Block.{block_bytes}
use Rattle.wiring.specs.PlanParts.{plan_in}
use Rattle.wiring.proofs.Plans.{plan-refused}
use Rattle.messages.specs.Columns.{no_columns, StoredPlan}
use Rattle.messages.proofs.Answers.{encode-plan, encode-long, encode-message, encode-output, encode-done}
use Rattle.messages.proofs.LiveRows.{stored-bits}
use Rattle.messages.proofs.Solving.{plan-stored}
use Rattle.messages.proofs.Written.{put-encoded}
use Rattle.messages.proofs.encoder.encode.Goals as goal
use Rattle.messages.proofs.encoder.encode.Goals.{After-solve}

-- the rows of the plan
rows : (c : After-solve) → StoredPlan (plan_in c.in_ok-checked.checked.parts) c.edges-edges.result c.solve.new.columns
rows c = plan-stored c.in_ok-checked.checked _ c.edges-edges.ensures c.if-edges-gt-MAX_EDGES.false _ c.solve.ensures

pub returns-in_err-checked : goal.returns-in_err-checked
returns-in_err-checked c =
    let back = encode-plan _ c.args.message.now c.args.output.now _ _ (plan-refused _ _ c.check_plan.ensures _ c.in_err-checked.was) in
    rw (passed-on _ _ c.from_residual.ensures.1) (record { result_value = sym back.answer; output_after = sym back.leaves })

pub returns-then-edges-gt-MAX_EDGES : goal.returns-then-edges-gt-MAX_EDGES
returns-then-edges-gt-MAX_EDGES c =
    let r = c.in_ok-checked.checked in
    let large : 512 < edge_count (plan_in r.parts) = omega (arith, c.edges-edges.ensures) in
    let long = encode-long (plan_in r.parts) c.args.message.now c.args.output.now r.passed large in
    rw (← c.in_ok-checked.ensures.parts) (record { result_value = sym long.answer; output_after = sym long.leaves })

pub solve-requires-clause-columns_value : goal.solve-requires-clause-columns_value
unfolding no_columns
solve-requires-clause-columns_value c = refl

pub returns-in_err-check_message : goal.returns-in_err-check_message
returns-in_err-check_message c =
    let r = c.in_ok-checked.checked in
    let s = rows (goal.at.returns-in_err-check_message c).After-solve in
    let wrong = rw (c.count_live.ensures, stored-bits s) at (sym c.in_err-check_message.ensures) in
    let back = encode-message (plan_in r.parts) c.args.message.now c.args.output.now r.passed (rw s.edges at s.short) _ _ wrong in
    rw (passed-on _ _ c.from_residual-in_err-check_message.ensures.1, ← c.in_ok-checked.ensures.parts)
    (record { result_value = sym back.answer; output_after = sym back.leaves })

pub returns-then-output-bytes : goal.returns-then-output-bytes
unfolding block_bytes
returns-then-output-bytes c =
    let r = c.in_ok-checked.checked in
    let s = rows (goal.at.returns-then-output-bytes c).After-solve in
    let passes = rw (c.count_live.ensures, stored-bits s) at (sym c.in_ok-check_message.ensures) in
    let few : length c.args.output.now < block_bytes (edge_count (plan_in r.parts)) = omega (arith, s.edges) in
    let back = encode-output (plan_in r.parts) c.args.message.now c.args.output.now r.passed (rw s.edges at s.short) passes few in
    rw (← c.in_ok-checked.ensures.parts) (record { result_value = sym back.answer; output_after = sym back.leaves })

pub returns : goal.returns
unfolding block_bytes
returns c =
    let r = c.in_ok-checked.checked in
    let s = rows (goal.at.returns c).After-solve in
    let passes = rw (c.count_live.ensures, stored-bits s) at (sym c.in_ok-check_message.ensures) in
    let sized : c.div_ceil-bytes.result ≡ block_bytes c.edges-edges.result = omega (arith, c.div_ceil-bytes.ensures) in
    let enough : block_bytes (edge_count (plan_in r.parts)) ≤ length c.args.output.now = omega (arith, s.edges, c.if-output-bytes.false) in
    let whole = encode-done (plan_in r.parts) c.args.message.now c.args.output.now r.passed (rw s.edges at s.short) passes enough in
    let put = put-encoded s c.args.message.now _ c.args.output.now _ c.choose-chosen.ensures (rw (c.clear.ensures, sized) at c.put_bits.ensures) in
    rw (← c.in_ok-checked.ensures.parts) (record { result_value = sym whole.answer; output_after = put ∙ sym whole.leaves })
