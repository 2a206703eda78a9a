use Rattle.std.proofs.Common.{◌≡◌, ℕ, ◌<◌, length}
use Rattle.bits.specs.Window.{at, KeptFrom}
use Rattle.wiring.specs.Plan.{edge_of}
use Rattle.wiring.proofs.places.note_places.Given as goal

abbrev pub invariant-loop-i : goal.invariant-loop-i
invariant-loop-i l =
    (length l.places ≡ length l.initial.places) × ((j : ℕ) → j < l.i → at l.places (edge_of l.wiring j) ≡ j) × KeptFrom l.edges l.initial.places l.places
