use Rattle.std.proofs.Common.{◌≡◌}
use Rattle.bits.specs.Window.{at}
use Rattle.tables.specs.Numbering.{free_mask}
use Rattle.tables.proofs.numbering.free_digits.Given as goal

abbrev pub invariant-loop-i : goal.invariant-loop-i
invariant-loop-i l =
    l.mask ≡ free_mask (at l.basis) l.i
