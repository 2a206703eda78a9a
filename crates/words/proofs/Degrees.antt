-- The sides of a checked plan as the code holds them: their degrees are those of the sheets, and each side fits the wiring.
use Rattle.std.proofs.Common.{◌≡◌, ap}
use Rattle.inner_code.specs.Sheet.{degree}
use Rattle.wiring.specs.Checking.{Fitted}
use Rattle.wiring.specs.Plan.{left, right}
use Rattle.wiring.specs.PlanParts.{plan_in}
use Rattle.wiring.specs.declared.parts.CheckedPlan.{CheckedPlan}
use Rattle.wiring.specs.declared.side.SideCode.{SideCode}
use Rattle.wiring.proofs.Plans.{plan-fits}

module _ (p : CheckedPlan) where
  pub left-degree : p.left.d ≡ degree p.parts.left_sheet.now
  left-degree = ap (λ (x : SideCode). x.d) p.left_is

  pub right-degree : p.right.d ≡ degree p.parts.right_sheet.now
  right-degree = ap (λ (x : SideCode). x.d) p.right_is

  pub left-fits : Fitted p.left.d p.parts.nl p.parts.wiring.now
  left-fits = rw left-degree (plan-fits (plan_in p.parts) p.passed left)

  pub right-fits : Fitted p.right.d p.parts.nr p.parts.wiring.now
  right-fits = rw right-degree (plan-fits (plan_in p.parts) p.passed right)
