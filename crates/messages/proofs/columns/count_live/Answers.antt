-- `messages::count_live` meets its contract: after p turns the rows left below p are counted.
use Rattle.std.proofs.Common.{◌≡◌, sym, ◌<◌, arith}
use Rattle.messages.proofs.StoredRows.{row_bit-lt}
use Rattle.messages.proofs.LiveRows.{live-none, live-one-more, live-le}
use Rattle.messages.proofs.columns.count_live.Goals as goal

pub loop-p-init : goal.loop-p-init
loop-p-init c = sym (live-none _)

pub overflow_add-live : goal.overflow_add-live
overflow_add-live c =
    let before = c.loop-p in
    let small : c.row_bit.result < 2 = rw c.row_bit.ensures (row_bit-lt _ _ _) in
    omega (arith, before.invariant, live-le c.args.columns.now before.p)

pub loop-p-preserved : goal.loop-p-preserved
loop-p-preserved c = live-one-more _ _ _ _ c.loop-p.invariant c.row_bit.ensures

pub returns : goal.returns
returns c =
    let end : c.loop-p.p ≡ c.args.edges = omega arith in
    rw end at c.loop-p.invariant
