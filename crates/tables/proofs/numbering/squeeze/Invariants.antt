use Rattle.std.proofs.Common.{◌≡◌}
use Rattle.bits.specs.Bit.{digit}
use Rattle.bits.specs.Sum.{sum}
use Rattle.tables.specs.Numbering.{squeezed_by}
use Rattle.tables.proofs.numbering.squeeze.Given as goal

abbrev pub invariant-loop-b : goal.invariant-loop-b
invariant-loop-b l =
    (l.place ≡ sum l.b (digit l.mask)) × (l.number ≡ squeezed_by l.mask l.b l.word)
