use Rattle.std.proofs.Common.{◌≡◌, ◌%◌}
use lib.Count.{ones}
use Rattle.messages.proofs.LiveRows.{ones_both}
use Rattle.messages.proofs.encoder.parity_of.Given as goal

abbrev pub invariant-loop-w : goal.invariant-loop-w
invariant-loop-w l = ones l.common % 2 ≡ ones_both l.chosen l.columns l.e l.w % 2
