use Rattle.std.proofs.Common.{◌≡◌}
use Rattle.finder.specs.Finding.{entries_of}
use Rattle.finder.proofs.finder.take_entries.Given as goal

abbrev pub invariant-loop-c : goal.invariant-loop-c
invariant-loop-c l =
    l.entries ≡ entries_of l.d l.table l.c l.initial.entries
