-- `decoder::decode_trials` meets its contract: where no bit is lost and two sweeps settle the block, the other trial is the same one; any other call
-- is decoded on from there, which its output, written over at the front, does not change.
use Rattle.std.proofs.Common.{◌≡◌, sym, refl, arith, length, take}
use Rattle.spans.specs.Spans.{filled}
use Rattle.spans.proofs.Filling.{length-filled}
use Rattle.decoder.proofs.Trials.{check-means, passed-filled, laid-part, laid-opened, front-check, front-answers, front-settles}
use Rattle.decoder.proofs.decoding.decode_trials.Goals as goal
use Rattle.decoder.proofs.decoding.decode_trials.Goals.{After-lay_out}

-- the trial with zeros, laid out at the front of the output
front : (c : After-lay_out) → take (length c.args.received.block.now) c.lay_out.new.room ≡ filled 0 c.args.received.lost.now c.args.received.block.now
front c = laid-part _ _ _ c.lay_out.ensures (sym (length-filled 0 c.args.received.lost.now c.args.received.block.now))

pub lay_out-requires : goal.lay_out-requires
lay_out-requires c = (check-means _ _ _ _ _ c.requires.limit_value).fits

pub slice_bounds-open-end : goal.slice_bounds-open-end
slice_bounds-open-end c = omega (arith, (check-means _ _ _ _ _ c.requires.limit_value).fits, c.lay_out.auto.room)

pub slice_bounds-open-end-2 : goal.slice_bounds-open-end-2
slice_bounds-open-end-2 c =
    rw (front (goal.at.slice_bounds-open-end-2 c).After-lay_out) (sym (length-filled 0 c.args.received.lost.now c.args.received.block.now))

pub open-opening-requires : goal.open-opening-requires
open-opening-requires c =
    let passed = check-means _ _ _ _ _ c.requires.limit_value in
    record {
      limit_bound = passed.limited;
      kept_len = refl;
      ready = c.requires.ready;
      block_value = rw (front (goal.at.open-opening-requires c).After-lay_out) (passed-filled passed 0 (omega arith));
    }

pub returns-then-at_once : goal.returns-then-at_once
returns-then-at_once c =
    front-settles _ _ _ _ _ c.requires.limit_value c.lay_out.ensures _ c.open-opening.auto.block c.open-opening.ensures.opened
    (c.at_once.ensures c.if-at_once.true)

pub decode_on-requires : goal.decode_on-requires
decode_on-requires c =
    let opened = c.open-opening.ensures.opened in
    record {
      ready = c.open-opening.ensures.still_ready;
      limit_value = rw opened.limit_is (front-check _ _ _ _ _ c.requires.limit_value c.lay_out.ensures _ c.open-opening.auto.block);
      opened = laid-opened _ _ _ c.lay_out.ensures (sym (length-filled 0 c.args.received.lost.now c.args.received.block.now)) _ c.open-opening.auto.block opened;
    }

pub returns : goal.returns
returns c =
    front-answers _ _ _ _ _ c.requires.limit_value c.lay_out.ensures _ c.open-opening.auto.block
    (rw c.open-opening.ensures.opened.limit_is at c.decode_on.ensures)
