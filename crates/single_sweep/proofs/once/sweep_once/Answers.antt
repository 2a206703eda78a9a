-- `single_sweep::sweep_once` meets its contract: each return is the outcome of the first of plan and block that refuses, or the sweep of the side
-- that is named.
use Rattle.std.proofs.Common.{sym}
use Rattle.inner_code.proofs.Replies.{passed-on}
use Rattle.wiring.specs.PlanParts.{plan_in}
use Rattle.wiring.proofs.Plans.{plan-refused}
use Rattle.single_sweep.proofs.Answers.{check-plan, check-block, once-refused, once-swept}
use Rattle.single_sweep.proofs.once.sweep_once.Goals as goal

pub returns-in_err-checked : goal.returns-in_err-checked
returns-in_err-checked c =
    rw (passed-on _ _ c.from_residual.ensures.1)
    (once-refused _ _ _ (check-plan _ _ (plan-refused _ _ c.check_plan.ensures _ c.in_err-checked.was)))

pub returns-in_err-check_block : goal.returns-in_err-check_block
returns-in_err-check_block c =
    let r = c.in_ok-checked.checked in
    rw (passed-on _ _ c.from_residual-in_err-check_block.ensures.1, ← c.in_ok-checked.ensures.parts)
    (once-refused (plan_in r.parts) _ _ (check-block _ _ r.passed (rw c.edges.ensures at (sym c.in_err-check_block.ensures))))

pub sweep_side-requires : goal.sweep_side-requires
sweep_side-requires c = rw c.edges.ensures at (sym c.in_ok-check_block.ensures)

pub returns : goal.returns
returns c =
    let r = c.in_ok-checked.checked in
    rw (← c.in_ok-checked.ensures.parts)
    (once-swept (plan_in r.parts) _ c.args.side (check-block _ _ r.passed (rw c.edges.ensures at (sym c.in_ok-check_block.ensures)))
    c.sweep_side.ensures.value c.sweep_side.ensures.block_after)
