-- `restored::flip::flip_some` meets its contract: each turn flips at most one bit, and only while fewer than `most` are flipped.
use Rattle.std.proofs.Common.{refl, arith}
use Rattle.restored.proofs.Flips.{flipped-none, flipped-then, flipped-most}
use Rattle.restored.proofs.flip.flip_some.Goals as goal
use Rattle.restored.proofs.flip.flip_some.Goals.{else-flipped-most, then-flipped-most}

pub loop-position-init : goal.loop-position-init
loop-position-init c = record { few = omega arith; sized = refl; flips = flipped-none _ _ }

pub loop-position-preserved : goal.loop-position-preserved
loop-position-preserved c =
    let so_far = c.loop-position.invariant.flips in
    (elim c.if-flipped-most.branch [
      | then-flipped-most w ↦
          rw (w.block-is, w.flipped-is) (record {
            few = omega (arith, w.flip_one-flipped.ensures.at_most_one);
            sized = omega (arith, w.flip_one-flipped.auto.block);
            flips = flipped-then so_far w.flip_one-flipped.ensures.flipped;
          })
      | else-flipped-most w ↦ rw (w.block-is, w.flipped-is) c.loop-position.invariant
    ])

pub returns : goal.returns
returns c = flipped-most c.loop-position.invariant.few c.loop-position.invariant.flips
