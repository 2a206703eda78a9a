-- `messages::add_column` meets its contract: after w turns the first w words of the column are put on the other.
use Rattle.std.proofs.Common.{◌≡◌, sym, arith}
use Rattle.messages.proofs.StoredRows.{words_put-none, words_put-one-more, column-written}
use Rattle.messages.proofs.columns.add_column.Goals as goal

pub loop-w-init : goal.loop-w-init
loop-w-init c = sym (words_put-none _ _ _ _)

pub loop-w-preserved : goal.loop-w-preserved
loop-w-preserved c = words_put-one-more _ _ _ _ _ _ c.loop-w.invariant

pub returns : goal.returns
returns c =
    let end : c.loop-w.w ≡ 8 = omega arith in
    rw (c.loop-w.invariant, end) (column-written _ _ _ _ c.requires.b_in_bounds)
