-- `radius::measured_numbers` meets its contract: a checked plan has n, d and k of its sides, and the measures give the distances and the spread.
use Rattle.wiring.specs.Plan.{left, right}
use Rattle.wiring.specs.PlanParts.{plan_in}
use Rattle.wiring.proofs.Plans.{plan-accepted}
use Rattle.radius.proofs.MeasuredNumbers.{distance_is}
use Rattle.radius.proofs.numbers.measured_numbers.Goals as goal

pub measured_spread-requires : goal.measured_spread-requires
measured_spread-requires c = (plan-accepted c.args.plan).plan-wired

pub returns : goal.returns
returns c =
    let r = c.args.plan in
    let p = plan-accepted r in
    rw (
      distance_is (plan_in r.parts) left (p.sheet-sound left) _ (rw r.left_is at c.measured_distance.ensures),
      distance_is (plan_in r.parts) right (p.sheet-sound right) _ (rw r.right_is at c.measured_distance-2.ensures),
      c.measured_spread.ensures,
      r.left_is,
      r.right_is,
    )
