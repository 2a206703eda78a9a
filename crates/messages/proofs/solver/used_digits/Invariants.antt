use Rattle.messages.specs.Columns.{Uses}
use Rattle.messages.proofs.solver.used_digits.Given as goal

abbrev pub invariant-loop-i : goal.invariant-loop-i
invariant-loop-i l = Uses l.i l.residues l.used
