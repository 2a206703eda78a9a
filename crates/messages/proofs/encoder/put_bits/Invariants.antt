use Rattle.messages.specs.Columns.{BitsPut}
use Rattle.messages.proofs.encoder.put_bits.Given as goal

abbrev pub invariant-loop-e : goal.invariant-loop-e
invariant-loop-e l = BitsPut l.e l.chosen l.columns l.initial.output l.output
