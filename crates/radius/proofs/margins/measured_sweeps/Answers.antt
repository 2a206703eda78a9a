-- `radius::measured_sweeps` meets its contract: where the first b is 0 one sweep is named, and else the sweeps named for an accepted plan's
-- numbers are the margin's.
use Rattle.std.proofs.Common.{◌≡◌, sym, ◌∙◌, arith}
use Rattle.inner_code.proofs.InnerDistance.{distance-pos}
use Rattle.wiring.specs.Plan.{side_of, left}
use Rattle.wiring.specs.PlanParts.{plan_in}
use Rattle.wiring.proofs.Plans.{plan-accepted, plan-few}
use Rattle.radius.specs.Answer.{distance_of, measures_of}
use Rattle.radius.proofs.MarginChain.{named-one}
use Rattle.radius.proofs.MeasuredNumbers.{distance_is}
use Rattle.radius.proofs.PlanRanges.{plan-within}
use Rattle.radius.proofs.margins.measured_sweeps.Goals as goal
use Rattle.radius.proofs.margins.measured_sweeps.Goals.{After-measured_distance-distance}

distance : (c : After-measured_distance-distance) → c.measured_distance-distance.result ≡ distance_of (side_of (plan_in c.args.plan.parts) left)
distance c =
    let r = c.args.plan in
    distance_is (plan_in r.parts) left ((plan-accepted r).sheet-sound left) _ (rw r.left_is at c.measured_distance-distance.ensures)

pub first_bound-requires : goal.first_bound-requires
first_bound-requires c = (rw (distance c) (distance-pos _ _), omega (arith, c.requires, plan-few _ c.args.plan.passed))

pub returns-then-first_bound-eq0 : goal.returns-then-first_bound-eq0
returns-then-first_bound-eq0 c =
    let told = distance (goal.at.returns-then-first_bound-eq0 c).After-measured_distance-distance in
    sym (named-one (measures_of (plan_in c.args.plan.parts)) _ c.requires (rw (← told) (sym c.first_bound.ensures ∙ c.if-first_bound-eq0.true)))

pub sweeps_named-requires : goal.sweeps_named-requires
sweeps_named-requires c = rw c.measured_numbers.ensures (plan-within _ c.args.plan.passed)
