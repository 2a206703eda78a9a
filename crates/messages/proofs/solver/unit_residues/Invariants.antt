use Rattle.std.proofs.Common.{◌≡◌, ℕ, ◌-◌, ◌^◌, ◌<◌, min, length, get_or}
use Rattle.bits.specs.Window.{at}
use Rattle.inner_code.specs.Reduction.{reduced_by}
use Rattle.messages.proofs.solver.unit_residues.Given as goal

abbrev pub invariant-loop-i : goal.invariant-loop-i
invariant-loop-i l = record {
  sized : length l.residues ≡ 16;
  filled : (q : ℕ) → q < l.i → get_or l.residues q 0 ≡ reduced_by (at l.code.basis) (min l.code.k 11) (2 ^ (l.code.d - 1 - q));
}
