use Rattle.tables.specs.Folding.{Marked}
use Rattle.tables.proofs.building.mark_ties.Given as goal

abbrev pub invariant-loop-c : goal.invariant-loop-c
invariant-loop-c l =
    Marked l.c l.initial.table l.costs l.table
