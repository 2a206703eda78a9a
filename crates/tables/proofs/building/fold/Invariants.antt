use Rattle.tables.specs.Folding.{Folded}
use Rattle.tables.proofs.building.fold.Given as goal

abbrev pub invariant-loop-c : goal.invariant-loop-c
invariant-loop-c l =
    Folded l.count l.apart l.digit l.c l.initial.table l.initial.costs l.table l.costs
