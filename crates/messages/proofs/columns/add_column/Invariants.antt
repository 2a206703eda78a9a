use Rattle.std.proofs.Common.{◌≡◌, ◌*◌}
use Rattle.messages.proofs.StoredRows.{words_put}
use Rattle.messages.proofs.columns.add_column.Given as goal

abbrev pub invariant-loop-w : goal.invariant-loop-w
invariant-loop-w l = l.to ≡ words_put l.from (8 * l.a) (8 * l.b) l.w l.initial.to
