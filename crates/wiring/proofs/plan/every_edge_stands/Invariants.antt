use Rattle.std.proofs.Common.{◌≡◌, ℕ, ◌≤◌, ◌<◌, length}
use Rattle.bits.specs.Window.{at}
use Rattle.bits.specs.Search as Search
use Rattle.wiring.specs.Plan.{edge_of}
use Rattle.wiring.specs.Access.{none_marked, marked_after}
use Rattle.wiring.proofs.plan.every_edge_stands.Given as goal

abbrev pub invariant-loop-i : goal.invariant-loop-i
invariant-loop-i g l = record {
  sized : length l.marks ≡ g.row.N;
  below : (j : ℕ) → j < l.i → edge_of l.wiring j ≤ l.digits;
  marked : l.marks ≡ marked_after l.mask (edge_of l.wiring) l.i (none_marked g.row.N);
}

abbrev pub invariant-loop-e : goal.invariant-loop-e
invariant-loop-e g l = l.least ≡ Search.least 1 (at l.marks) l.e
