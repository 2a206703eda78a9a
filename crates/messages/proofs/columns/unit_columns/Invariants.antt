use Rattle.messages.proofs.StoredRows.{Units}
use Rattle.messages.proofs.columns.unit_columns.Given as goal

abbrev pub invariant-loop-p : goal.invariant-loop-p
invariant-loop-p l = Units l.p l.columns
