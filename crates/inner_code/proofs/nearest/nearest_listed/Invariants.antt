use Rattle.std.proofs.Common.{◌≡◌}
use Rattle.bits.specs.Window.{at}
use Rattle.inner_code.specs.Reduction.{least_key, least_back}
use Rattle.inner_code.proofs.nearest.nearest_listed.Given as goal

abbrev pub invariant-loop-listed : goal.invariant-loop-listed
invariant-loop-listed l =
    (l.least ≡ least_key (at l.words) l.listed-index l.word) × (l.back ≡ least_back (at l.words) l.listed-index l.word)
