-- `meetings::measured_spread` meets its contract: the vertices that are noted are those of the wiring, and the walks over them count the
-- meeting numbers.
use Rattle.std.proofs.Common.{arith, ◌≤◌, ℕ, length, replicate}
use lib.ListN.{length-replicate}
use Rattle.inner_code.specs.Sheet.{degree}
use Rattle.wiring.specs.Plan.{Plan, edge_count}
use Rattle.wiring.specs.PlanParts.{plan_in}
use Rattle.wiring.specs.Checking.{WiredPlan}
use Rattle.wiring.proofs.EdgeEnds.{wired-notable}
use Rattle.wiring.proofs.Permutation.{fitted-edges}
use Rattle.wiring.proofs.Plans.{fitted-sheet}
use Rattle.meetings.proofs.Walks.{noted-walk, walked-spread}
use Rattle.meetings.proofs.spread.measured_spread.Goals as goal

-- the arrays have room for all edges
room : (plan : Plan) → WiredPlan plan → edge_count plan ≤ length (replicate {A = ℕ} 32768 0)
room plan w = rw length-replicate (fitted-edges w.left-fits)

pub bounds-plan-0 : goal.bounds-plan-0
bounds-plan-0 c = fitted-sheet _ c.requires.left-fits

pub bounds-plan-0-2 : goal.bounds-plan-0-2
bounds-plan-0-2 c = fitted-sheet _ c.requires.right-fits

pub overflow_mul-plan : goal.overflow_mul-plan
unfolding degree
overflow_mul-plan c = omega (arith, fitted-edges c.requires.left-fits)

pub note_ends-requires : goal.note_ends-requires
unfolding degree
note_ends-requires c =
    let plan = plan_in c.args.plan in
    let wired : WiredPlan plan = c.requires in
    let fits = room plan wired in
    wired-notable wired fits fits

-- ---- past the notes of all edges

pub invariant_of-largest_unevenness : goal.invariant_of-largest_unevenness
unfolding degree
invariant_of-largest_unevenness c =
    let plan = plan_in c.args.plan in
    let wired : WiredPlan plan = c.requires in
    let fits = room plan wired in
    record { listed = noted-walk plan wired c.note_ends.ensures.noted (rw c.note_ends.auto.lefts fits) (rw c.note_ends.auto.rights fits) }

pub returns : goal.returns
unfolding degree
returns c = walked-spread (plan_in c.args.plan) c.requires c.note_ends.ensures.noted _ c.largest_unevenness.ensures
