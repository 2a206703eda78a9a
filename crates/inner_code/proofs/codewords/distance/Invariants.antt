use Rattle.std.proofs.Common.{◌≡◌}
use Rattle.bits.specs.Window.{at}
use Rattle.inner_code.specs.Reduction.{fewest_ones}
use Rattle.inner_code.proofs.codewords.distance.Given as goal

abbrev pub invariant-loop-word : goal.invariant-loop-word
invariant-loop-word l = (l.fewest ≡ fewest_ones (at l.words) l.word-index)
