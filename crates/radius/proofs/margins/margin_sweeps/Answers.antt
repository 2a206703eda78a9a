-- `radius::margin_sweeps` meets its contract: each return is the outcome of the first test that holds, and what is measured past the tests
-- is the margin.
use Rattle.std.proofs.Common.{◌≤◌, sym, ◌∙◌}
use Rattle.inner_code.proofs.Replies.{passed-on}
use Rattle.wiring.specs.Plan.{edge_count}
use Rattle.wiring.specs.PlanParts.{plan_in}
use Rattle.wiring.proofs.Plans.{plan-refused}
use Rattle.radius.proofs.Answers.{margin-plan, margin-over, margin-uncovered, margin-covered}
use Rattle.radius.proofs.margins.margin_sweeps.Goals as goal
use Rattle.radius.proofs.margins.margin_sweeps.Goals.{Else-edges-flips}

pub returns-in_err-checked : goal.returns-in_err-checked
returns-in_err-checked c =
    rw (passed-on _ _ c.from_residual.ensures.1) (sym (margin-plan _ _ _ _ (plan-refused _ _ c.check_plan.ensures _ c.in_err-checked.was)))

pub returns-then-edges-flips : goal.returns-then-edges-flips
returns-then-edges-flips c =
    let r = c.in_ok-checked.checked in
    rw (← c.in_ok-checked.ensures.parts) (sym (margin-over _ _ r.passed (rw c.edges-edges.ensures at c.if-edges-flips.true)))

within : (c : Else-edges-flips) → c.args.flips ≤ edge_count (plan_in c.in_ok-checked.checked.parts)
within c = rw c.edges-edges.ensures at c.if-edges-flips.false

pub returns-then-sweeps-eq0 : goal.returns-then-sweeps-eq0
returns-then-sweeps-eq0 c =
    let r = c.in_ok-checked.checked in
    let inside = within (goal.at.returns-then-sweeps-eq0 c).Else-edges-flips in
    rw (← c.in_ok-checked.ensures.parts) (sym (margin-uncovered _ _ r.passed inside (sym c.measured_sweeps-sweeps.ensures ∙ c.if-sweeps-eq0.true)))

pub returns : goal.returns
returns c =
    let r = c.in_ok-checked.checked in
    let inside = within (goal.at.returns c).Else-edges-flips in
    let named = c.measured_sweeps-sweeps.ensures in
    rw (← c.in_ok-checked.ensures.parts, named) (sym (margin-covered _ _ r.passed inside (λ z. c.if-sweeps-eq0.false (named ∙ z))))
