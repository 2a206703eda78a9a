use Rattle.std.proofs.Common.{◌≡◌}
use Rattle.messages.specs.Columns.{live_before}
use Rattle.messages.proofs.columns.count_live.Given as goal

abbrev pub invariant-loop-p : goal.invariant-loop-p
invariant-loop-p l = l.live ≡ live_before l.columns l.p
