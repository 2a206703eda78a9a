-- `wiring::locate` meets its contract: each return is the outcome of the first of plan and block that refuses, and by an accepted plan's
-- bases the search finds the definition's vertex.
use Rattle.std.proofs.Common.{sym, ap}
use Rattle.inner_code.specs.Reply.{done}
use Rattle.inner_code.proofs.Replies.{passed-on}
use Rattle.wiring.specs.Plan.{left, right}
use Rattle.wiring.specs.PlanParts.{plan_in}
use Rattle.wiring.proofs.Plans.{plan-accepted, plan-refused}
use Rattle.wiring.proofs.Locating.{answer-plan-refused, answer-block-refused, answer-located}
use Rattle.wiring.proofs.VertexAccess.{codes-readable}
use Rattle.wiring.proofs.Blocks.{block_room}
use Rattle.wiring.proofs.locator.locate.Goals as goal

pub returns-in_err-checked : goal.returns-in_err-checked
returns-in_err-checked c =
    rw (passed-on _ _ c.from_residual.ensures.1) (sym (answer-plan-refused _ _ _ _ (plan-refused _ _ c.check_plan.ensures _ c.in_err-checked.was)))

pub returns-in_err-check_block : goal.returns-in_err-check_block
returns-in_err-check_block c =
    let r = c.in_ok-checked.checked in
    rw (passed-on _ _ c.from_residual-in_err-check_block.ensures.1, ← c.in_ok-checked.ensures.parts)
    (sym (answer-block-refused (plan_in r.parts) c.args.block.now r (plan-accepted r) _ c.edges.ensures _ _ (sym c.in_err-check_block.ensures)))

pub first_unsatisfied-requires : goal.first_unsatisfied-requires
first_unsatisfied-requires c =
    let r = c.in_ok-checked.checked in
    let p = plan-accepted r in
    codes-readable _ p.plan-done _ (block_room _ _ (rw c.edges.ensures at (sym c.in_ok-check_block.ensures))) (p.code_is left) (p.code_is right)

pub returns : goal.returns
returns c =
    let r = c.in_ok-checked.checked in
    rw (← c.in_ok-checked.ensures.parts)
    (answer-located (plan_in r.parts) c.args.block.now r (plan-accepted r) _ c.edges.ensures (sym c.in_ok-check_block.ensures) _ (ap done c.first_unsatisfied.ensures))
