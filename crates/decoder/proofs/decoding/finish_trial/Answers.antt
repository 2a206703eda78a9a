-- `decoder::finish_trial` meets its contract: the part of the buffer that is swept on is the trial's block, and it comes back to its place.
use Rattle.std.proofs.Common.{arith}
use Rattle.wiring.proofs.Plans.{plan-few, plan-entries, plan-permuted}
use Rattle.decoder.proofs.Trials.{part-front, part-stands}
use Rattle.decoder.proofs.decoding.finish_trial.Goals as goal

pub places_for-noted-requires : goal.places_for-noted-requires
places_for-noted-requires c =
    let accepted = c.args.plan.now.passed in
    let entries = plan-entries _ accepted in record {
      permuted = plan-permuted _ accepted;
      wiring_len_bound = omega (arith, entries, plan-few _ accepted);
      wiring_in_bounds = omega (arith, entries, c.requires.plan_in_bounds);
      places_noted = c.requires.places_noted;
    }

pub finish-settling-requires : goal.finish-settling-requires
finish-settling-requires c = record {
  ready = c.requires.ready;
  opened_some = c.requires.opened_some;
  places_noted = λ e. c.places_for-noted.ensures.places_noted_after (c.places_for-noted.ensures.value e);
}

pub returns-then-is_empty-clause-room_after : goal.returns-then-is_empty-clause-room_after
returns-then-is_empty-clause-room_after c = part-stands _ _ c.requires.received_in_bounds _ c.finish-settling.auto.block

pub returns-then-is_empty-clause-settles : goal.returns-then-is_empty-clause-settles
returns-then-is_empty-clause-settles c =
    rw (part-front _ _ c.requires.received_in_bounds _ c.finish-settling.auto.block) c.finish-settling.ensures.settles

pub returns-clause-room_after : goal.returns-clause-room_after
returns-clause-room_after c = part-stands _ _ c.requires.received_in_bounds _ c.finish-settling.auto.block

pub returns-clause-settles : goal.returns-clause-settles
returns-clause-settles c =
    rw (part-front _ _ c.requires.received_in_bounds _ c.finish-settling.auto.block) c.finish-settling.ensures.settles
