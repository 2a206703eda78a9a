use Rattle.std.proofs.Common.{◌≡◌, ℕ, ◌<◌}
use Rattle.wiring.specs.Plan.{edge_of}
use Rattle.unsatisfied.proofs.set.entry_with.Given as goal

abbrev pub invariant-loop-i : goal.invariant-loop-i
invariant-loop-i l = (j : ℕ) → j < l.i → edge_of l.wiring j ≡ l.edge → ⊥
