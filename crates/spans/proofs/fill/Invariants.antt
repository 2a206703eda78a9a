use Rattle.std.proofs.Common.{◌%◌, ◌≡◌}
use Rattle.spans.specs.Walking.{pairs_made}
use Rattle.spans.proofs.fill.Given as goal

abbrev pub invariant-loop-j : goal.invariant-loop-j
invariant-loop-j l = l.block ≡ pairs_made (l.value % 2) l.lost l.j l.initial.block
