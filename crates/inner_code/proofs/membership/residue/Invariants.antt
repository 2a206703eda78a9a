use Rattle.std.proofs.Common.{◌≡◌}
use Rattle.bits.specs.Window.{at}
use Rattle.inner_code.specs.Reduction.{reduced_by}
use Rattle.inner_code.proofs.membership.residue.Given as goal

abbrev pub invariant-loop-i : goal.invariant-loop-i
invariant-loop-i l = l.left ≡ reduced_by (at l.basis) l.i l.word
