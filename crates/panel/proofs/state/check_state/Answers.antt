-- `panel::check_state` meets its contract: a state that has the bytes before a block is refused or passes as its plan and then its block are.
use Rattle.std.proofs.Common.{sym, ap₂, ◌∙◌}
use Rattle.inner_code.proofs.Replies.{passed-on, and_then-passed, and_then-refused}
use Rattle.wiring.specs.Block.{block_check}
use Rattle.wiring.specs.PlanParts.{plan_in}
use Rattle.wiring.proofs.Plans.{plan-refused}
use Rattle.panel.proofs.States.{block-lent}
use Rattle.panel.proofs.Answers.{state-long}
use Rattle.panel.proofs.state.check_state.Goals as goal

pub returns-in_err-checked : goal.returns-in_err-checked
returns-in_err-checked c =
    let plan = plan_in c.args.plan in
    rw (passed-on _ _ c.from_residual.ensures.1)
    (sym (state-long plan c.args.state.now c.requires ∙ and_then-refused _ _ _ _ (plan-refused plan _ c.check_plan.ensures _ c.in_err-checked.was)))

pub returns : goal.returns
returns c =
    let r = c.in_ok-checked.checked in
    rw (← c.in_ok-checked.ensures.parts)
    (c.check_block.ensures ∙ ap₂ block_check c.edges.ensures (block-lent c.args.state.now)
    ∙ sym (state-long (plan_in r.parts) c.args.state.now c.requires ∙ and_then-passed _ _ _ r.passed))
