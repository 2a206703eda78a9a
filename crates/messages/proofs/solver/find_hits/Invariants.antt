use Rattle.std.proofs.Common.{◌≡◌, length}
use Rattle.messages.specs.Columns.{FailSet}
use Rattle.messages.proofs.solver.find_hits.Given as goal

abbrev pub invariant-loop-i : goal.invariant-loop-i
invariant-loop-i l = record { sized : length l.hits ≡ 8; so_far : FailSet l.i l.fn.check l.columns l.hits }
