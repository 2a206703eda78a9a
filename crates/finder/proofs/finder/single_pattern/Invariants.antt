use Rattle.std.proofs.Common.{◌≡◌}
use Rattle.finder.specs.Finding.{single_below}
use Rattle.finder.proofs.finder.single_pattern.Given as goal

abbrev pub invariant-loop-b : goal.invariant-loop-b
invariant-loop-b l = l.found ≡ single_below l.finder l.left l.b
