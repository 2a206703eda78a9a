use Rattle.tables.specs.Folding.{Copied}
use Rattle.tables.proofs.building.copy_with.Given as goal

abbrev pub invariant-loop-c : goal.invariant-loop-c
invariant-loop-c l =
    Copied l.count l.digit l.c l.initial.table l.initial.costs l.table l.costs
