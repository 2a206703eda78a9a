-- `single_sweep::sweep_side` meets its contract: the finder is prepared for the side's sheet, and from the left the places of all edges are noted.
use Rattle.std.proofs.Common.{refl, arith}
use Rattle.wiring.specs.PlanParts.{plan_in}
use Rattle.wiring.proofs.Plans.{plan-few, plan-entries, plan-permuted}
use Rattle.sweeps.proofs.Visiting.{side-preparable}
use Rattle.single_sweep.proofs.once.sweep_side.Goals as goal

pub prepare_finder-requires : goal.prepare_finder-requires
prepare_finder-requires c =
    rw c.sheet.ensures (side-preparable (plan_in c.args.plan.parts) c.args.plan.passed c.args.side c.side-code.ensures refl)

pub note_places-requires : goal.note_places-requires
note_places-requires c =
    let accepted = c.args.plan.passed in
    let entries = plan-entries (plan_in c.args.plan.parts) accepted in
    let few = plan-few (plan_in c.args.plan.parts) accepted in
    record {
      permuted = plan-permuted (plan_in c.args.plan.parts) accepted;
      wiring_len_bound = omega (arith, entries, few);
      wiring_in_bounds = omega (arith, entries, few);
    }
