use Rattle.std.proofs.Common.{ℕ, ◌<◌, get_or}
use Rattle.tables.specs.Folding.{Filled}
use Rattle.tables.proofs.building.fill.Given as goal

abbrev pub invariant-loop-b : goal.invariant-loop-b
invariant-loop-b l = Filled l.sheet l.b l.count l.table l.costs × ((i : ℕ) → get_or l.table i 0 < 256)
