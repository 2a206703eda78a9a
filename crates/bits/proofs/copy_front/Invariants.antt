use Rattle.std.proofs.Common.{◌≡◌, take}
use Rattle.bits.specs.Bit.{written}
use Rattle.bits.proofs.copy_front.Given as goal

abbrev pub invariant-loop-i : goal.invariant-loop-i
invariant-loop-i l = l.to ≡ written (take l.i l.from) l.initial.to
