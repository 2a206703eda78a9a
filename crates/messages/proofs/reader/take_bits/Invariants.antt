use Rattle.std.proofs.Common.{◌≡◌}
use Rattle.messages.specs.Columns.{live_before, bits_taken}
use Rattle.messages.proofs.reader.take_bits.Given as goal

abbrev pub invariant-loop-p : goal.invariant-loop-p
invariant-loop-p l =
    record { counted : l.rank ≡ live_before l.columns l.p; taken : l.output ≡ bits_taken l.columns l.block l.p l.initial.output }
