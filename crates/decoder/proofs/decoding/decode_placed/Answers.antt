-- `decoder::decode_placed` meets its contract: the tests of the code are those of the definition. Where no bit is lost the other trial is the same one,
-- and where the trial with zeros changes no bit outside the spans the other cannot change fewer.
use Rattle.std.proofs.Common.{◌≡◌, ◌++◌, ◌≤◌, ℕ, sym, arith, ◌∙◌, length, take, replicate, true≢false}
use Rattle.std.proofs.Math.ListN.{drop, length-replicate}
use Rattle.std.proofs.Math.Seq.{length-take-le}
use Rattle.spans.specs.Spans.{filled}
use Rattle.spans.proofs.Filling.{length-filled}
use Rattle.wiring.specs.PlanParts.{plan_in}
use Rattle.decoder.specs.Turns.{Opened}
use Rattle.decoder.proofs.Trials.{check-means, passed-fits, passed-filled, laid-part, laid-length, laid-opened}
use Rattle.decoder.proofs.Trials.{Attempted, kept-alone, kept-zeros, kept-ones}
use Rattle.decoder.proofs.decoding.decode_placed.Goals as goal
use Rattle.decoder.proofs.decoding.decode_placed.Goals.{After-finish_trial-first, After-finish_trial-second, After-lay_out, After-open-again}

-- ---- the trial with zeros

first : (c : After-finish_trial-first)
    → Attempted (plan_in c.args.plan.now.parts) c.args.received.block.now c.args.received.lost.now c.args.opening.limit 0 c.finish_trial-first.result
    (take (length c.args.received.block.now) c.finish_trial-first.new.room)
first c = record {
  tried = c.finish_trial-first.ensures.settles _ c.requires.opened;
  changes = c.finish_trial-first.ensures.changed_value;
}

pub finish_trial-first-requires : goal.finish_trial-first-requires
finish_trial-first-requires c =
    let p = check-means _ _ _ _ _ c.requires.limit_value in record {
      ready = c.requires.ready;
      received_in_bounds = p.fits;
      opened_some = record { received = _; limited = p.limited; opened = c.requires.opened };
      plan_in_bounds = c.requires.plan_in_bounds;
      places_noted = λ e. absurd (true≢false (sym e));
    }

pub answer_by-requires : goal.answer_by-requires
answer_by-requires c = omega (arith, (check-means _ _ _ _ _ c.requires.limit_value).fits, c.finish_trial-first.auto.room)

pub returns-then-keeps_zeros : goal.returns-then-keeps_zeros
returns-then-keeps_zeros c =
    kept-alone _ _ _ _ _ c.requires.limit_value (first (goal.at.returns-then-keeps_zeros c).After-finish_trial-first)
    (c.keeps_zeros.ensures.when_true c.if-keeps_zeros.true) c.finish_trial-first.ensures.room_after c.answer_by.ensures

-- ---- the trial with ones is laid out, and its first two sweeps are made

cleared-sized : length {A = ℕ} (replicate 4096 0) ≡ 4096
cleared-sized = length-replicate {A = ℕ} 4096 0

front : (c : After-lay_out) → take (length c.args.received.block.now) c.lay_out.new.room ≡ filled 1 c.args.received.lost.now c.args.received.block.now
front c = laid-part _ _ _ c.lay_out.ensures (sym (length-filled 1 c.args.received.lost.now c.args.received.block.now))

lent-fits : (c : After-lay_out) → length c.args.received.block.now ≤ length c.lay_out.new.room
lent-fits c = omega (arith, passed-fits (check-means _ _ _ _ _ c.requires.limit_value), c.lay_out.auto.room, cleared-sized)

other-sized : (c : After-open-again)
    → length (c.open-again.new.block ++ drop (length c.args.received.block.now) c.lay_out.new.room) ≡ 4096
other-sized c =
    laid-length _ _ _ c.lay_out.ensures (sym (length-filled 1 c.args.received.lost.now c.args.received.block.now)) _ c.open-again.auto.block
    (omega (arith, passed-fits (check-means _ _ _ _ _ c.requires.limit_value), cleared-sized)) ∙ cleared-sized

opened : (c : After-open-again)
    → Opened (plan_in c.args.plan.now.parts) (filled 1 c.args.received.lost.now c.args.received.block.now) c.open-again.result.limit c.open-again.result
    c.open-again.new.kept (take (length c.args.received.block.now) (c.open-again.new.block ++ drop (length c.args.received.block.now) c.lay_out.new.room))
opened c =
    laid-opened _ _ _ c.lay_out.ensures (sym (length-filled 1 c.args.received.lost.now c.args.received.block.now)) _ c.open-again.auto.block
    c.open-again.ensures.opened

-- it is finished
second : (c : After-finish_trial-second)
    → Attempted (plan_in c.args.plan.now.parts) c.args.received.block.now c.args.received.lost.now c.args.opening.limit 1 c.finish_trial-second.result
    (take (length c.args.received.block.now) c.finish_trial-second.new.room)
second c =
    let tried = c.finish_trial-second.ensures.settles _ (opened (goal.at.After-finish_trial-second c).After-open-again) in record {
      tried = rw c.open-again.ensures.opened.limit_is at tried;
      changes = c.finish_trial-second.ensures.changed_value;
    }

second-fits : (c : After-finish_trial-second) → length c.args.received.block.now ≤ length c.finish_trial-second.new.room
second-fits c =
    let other = other-sized (goal.at.After-finish_trial-second c).After-open-again in
    omega (arith, c.finish_trial-second.auto.room, other, passed-fits (check-means _ _ _ _ _ c.requires.limit_value))

pub lay_out-requires : goal.lay_out-requires
lay_out-requires c = omega (arith, passed-fits (check-means _ _ _ _ _ c.requires.limit_value), cleared-sized)

pub slice_bounds-other-end : goal.slice_bounds-other-end
slice_bounds-other-end c = lent-fits (goal.at.slice_bounds-other-end c).After-lay_out

pub slice_bounds-open-end : goal.slice_bounds-open-end
slice_bounds-open-end c = sym (length-take-le _ _ (lent-fits (goal.at.slice_bounds-open-end c).After-lay_out))

pub open-again-requires : goal.open-again-requires
open-again-requires c =
    let p = check-means _ _ _ _ _ c.requires.limit_value in record {
      limit_bound = p.limited;
      kept_len = length-replicate {A = ℕ} 2304 0;
      ready = c.finish_trial-first.ensures.still_ready;
      block_value = rw (front (goal.at.open-again-requires c).After-lay_out) (passed-filled p 1 (omega arith));
    }

pub slice_bounds-finish_trial-end : goal.slice_bounds-finish_trial-end
slice_bounds-finish_trial-end c = sym (other-sized (goal.at.slice_bounds-finish_trial-end c).After-open-again)

pub finish_trial-second-requires : goal.finish_trial-second-requires
finish_trial-second-requires c =
    let p = check-means _ _ _ _ _ c.requires.limit_value in
    let here = (goal.at.finish_trial-second-requires c).After-open-again in record {
      ready = c.open-again.ensures.still_ready;
      received_in_bounds = omega (arith, other-sized here, passed-fits p);
      opened_some = record { received = _; limited = omega (arith, c.open-again.ensures.opened.limit_is, p.limited); opened = opened here };
      plan_in_bounds = omega (arith, c.finish_trial-first.auto.places, c.requires.plan_in_bounds);
      places_noted = c.finish_trial-first.ensures.places_noted_after;
    }

pub slice_bounds-other-end-then-keeps_ones : goal.slice_bounds-other-end-then-keeps_ones
slice_bounds-other-end-then-keeps_ones c = second-fits (goal.at.slice_bounds-other-end-then-keeps_ones c).After-finish_trial-second

pub slice_bounds-copy_front-end : goal.slice_bounds-copy_front-end
slice_bounds-copy_front-end c = sym (length-take-le _ _ (second-fits (goal.at.slice_bounds-copy_front-end c).After-finish_trial-second))

pub copy_front-requires : goal.copy_front-requires
copy_front-requires c =
    let sized = length-take-le _ _ (second-fits (goal.at.copy_front-requires c).After-finish_trial-second) in
    omega (arith, (check-means _ _ _ _ _ c.requires.limit_value).fits, c.finish_trial-first.auto.room, sized)

pub answer_by-requires-then-keeps_ones : goal.answer_by-requires-then-keeps_ones
answer_by-requires-then-keeps_ones c =
    omega (arith, (check-means _ _ _ _ _ c.requires.limit_value).fits, c.copy_front.auto.to, c.finish_trial-first.auto.room)

pub returns-then-keeps_ones : goal.returns-then-keeps_ones
returns-then-keeps_ones c =
    let at = goal.at.returns-then-keeps_ones c in
    kept-ones _ _ _ _ _ c.requires.limit_value (first at.After-finish_trial-first) (second at.After-finish_trial-second)
    (c.keeps_zeros.ensures.when_false c.if-keeps_zeros.false) (c.keeps_ones.ensures.when_true c.if-keeps_ones.true)
    c.finish_trial-first.ensures.room_after c.copy_front.ensures c.answer_by-then-keeps_ones.ensures

pub answer_by-requires-2 : goal.answer_by-requires-2
answer_by-requires-2 c = omega (arith, (check-means _ _ _ _ _ c.requires.limit_value).fits, c.finish_trial-first.auto.room)

pub returns : goal.returns
returns c =
    let at = goal.at.returns c in
    kept-zeros _ _ _ _ _ c.requires.limit_value (first at.After-finish_trial-first) (second at.After-finish_trial-second)
    (c.keeps_zeros.ensures.when_false c.if-keeps_zeros.false) (c.keeps_ones.ensures.when_false c.if-keeps_ones.false)
    c.finish_trial-first.ensures.room_after c.answer_by-2.ensures
