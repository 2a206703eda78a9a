-- `CheckedPlan::edges` meets its contract: an accepted plan has few edges, and the left side has them all.
use Rattle.std.proofs.Common.{arith, ap, ◌≡◌, ◌*◌}
use Rattle.wiring.specs.Plan.{edge_count}
use Rattle.wiring.specs.PlanParts.{plan_in}
use Rattle.wiring.specs.declared.side.SideCode.{SideCode}
use Rattle.wiring.specs.declared.parts.CheckedPlan.{CheckedPlan}
use Rattle.wiring.proofs.Plans.{plan-few}
use Rattle.wiring.proofs.parts.CheckedPlan.edges.Goals as goal

product : (p : CheckedPlan) → p.left.n * p.left.d ≡ edge_count (plan_in p.parts)
product p = ap (λ (x : SideCode). x.n * x.d) p.left_is

pub overflow_mul-result : goal.overflow_mul-result
overflow_mul-result c = let p = c.args.self.now in omega (arith, product p, plan-few (plan_in p.parts) p.passed)

pub returns : goal.returns
returns c = product c.args.self.now
