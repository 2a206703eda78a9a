use Rattle.std.proofs.Common.{◌≡◌, length}
use Rattle.bits.specs.Window.{KeptFrom}
use Rattle.wiring.specs.Plan.{edge_of}
use Rattle.wiring.specs.Ends.{Noted}
use Rattle.wiring.proofs.ends.note_ends.Given as goal

abbrev pub invariant-loop-i : goal.invariant-loop-i
invariant-loop-i l =
    (length l.lefts ≡ length l.initial.lefts) × (length l.rights ≡ length l.initial.rights) × Noted (edge_of l.wiring) l.dl l.dr l.i l.lefts l.rights
    × KeptFrom l.edges l.initial.lefts l.lefts × KeptFrom l.edges l.initial.rights l.rights
