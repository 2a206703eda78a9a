-- `panel::refuse_short` meets its contract: it answers with the plan's refusal, and with 11 where there is none.
use Rattle.std.proofs.Common.{sym}
use Rattle.inner_code.proofs.Replies.{and_then-passed, and_then-refused}
use Rattle.wiring.proofs.Plans.{plan-checked, plan-refused}
use Rattle.panel.proofs.state.refuse_short.Goals as goal

pub returns-in-Err : goal.returns-in-Err
returns-in-Err c = sym (and_then-refused _ _ _ _ (plan-refused _ _ c.check_plan.ensures _ c.in-Err.is))

pub returns-in-Ok : goal.returns-in-Ok
returns-in-Ok c = sym (and_then-passed _ _ _ (plan-checked _ _ c.check_plan.ensures _ c.in-Ok.is).plan-done)
