use Rattle.std.proofs.Common.{◌≡◌, ◌*◌}
use Rattle.messages.specs.Columns.{lowest_row}
use Rattle.messages.proofs.solver.lowest.Given as goal

abbrev pub invariant-loop-w : goal.invariant-loop-w
invariant-loop-w l = lowest_row l.hits (l.w * 64) ≡ l.w * 64
