use Rattle.std.proofs.Common.{◌≡◌, length}
use Rattle.messages.specs.Columns.{live_before, Chosen}
use Rattle.messages.proofs.encoder.choose.Given as goal

abbrev pub invariant-loop-p : goal.invariant-loop-p
invariant-loop-p l =
    record { sized : length l.chosen ≡ 8; counted : l.rank ≡ live_before l.columns l.p; so_far : Chosen l.p l.columns l.message l.chosen }
