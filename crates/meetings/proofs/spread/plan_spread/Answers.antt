-- `meetings::plan_spread` meets its contract: a refusal of the plan's check is handed on, and of an accepted plan the measure gives the
-- spread.
use Rattle.std.proofs.Common.{sym}
use Rattle.inner_code.proofs.Replies.{passed-on}
use Rattle.wiring.proofs.Plans.{plan-accepted, plan-refused}
use Rattle.meetings.proofs.Answers.{spread-refused, spread-done}
use Rattle.meetings.proofs.spread.plan_spread.Goals as goal

pub measured_spread-requires : goal.measured_spread-requires
measured_spread-requires c = (plan-accepted c.in_ok-check_plan.field-0).plan-wired

pub returns-in_err-check_plan : goal.returns-in_err-check_plan
returns-in_err-check_plan c =
    rw (passed-on _ _ c.from_residual.ensures.1) (sym (spread-refused _ _ _ (plan-refused _ _ c.check_plan.ensures _ c.in_err-check_plan.was)))

pub returns : goal.returns
returns c =
    let r = c.in_ok-check_plan.field-0 in
    rw (← c.in_ok-check_plan.ensures.parts) (spread-done _ r.passed _ c.measured_spread.ensures)
