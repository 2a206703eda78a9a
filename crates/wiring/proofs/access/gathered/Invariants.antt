use Rattle.std.proofs.Common.{◌≡◌, ◌*◌}
use Rattle.wiring.specs.Plan.{edge_of}
use Rattle.wiring.specs.Access.{word_from}
use Rattle.wiring.proofs.access.gathered.Given as goal

abbrev pub invariant-loop-j : goal.invariant-loop-j
invariant-loop-j l = (l.scaled ≡ word_from (edge_of l.wiring) l.block l.base l.j * 128)
