use Rattle.std.proofs.Common.{◌≡◌, ◌≤◌, length}
use Rattle.restored.specs.Flip.{Flipped}
use Rattle.restored.proofs.flip.flip_some.Given as goal

abbrev pub invariant-loop-position : goal.invariant-loop-position
invariant-loop-position l =
    record {
      few : l.flipped ≤ l.most;
      sized : length l.block ≡ length l.initial.block;
      flips : Flipped l.sent l.initial.block l.block l.flipped;
    }
