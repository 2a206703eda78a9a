-- `radius::plan_numbers` meets its contract: a refusal of the plan's check is handed on, and an accepted plan's numbers are measured.
use Rattle.std.proofs.Common.{sym}
use Rattle.inner_code.proofs.Replies.{passed-on}
use Rattle.wiring.proofs.Plans.{plan-refused}
use Rattle.radius.proofs.MeasuredNumbers.{numbers-refused, numbers-answered}
use Rattle.radius.proofs.numbers.plan_numbers.Goals as goal

pub returns-in_err-check_plan : goal.returns-in_err-check_plan
returns-in_err-check_plan c =
    rw (passed-on _ _ c.from_residual.ensures.1) (sym (numbers-refused _ _ _ (plan-refused _ _ c.check_plan.ensures _ c.in_err-check_plan.was)))

pub returns : goal.returns
returns c =
    let r = c.in_ok-check_plan.field-0 in
    rw (← c.in_ok-check_plan.ensures.parts) (numbers-answered _ r.passed _ c.measured_numbers.ensures)
