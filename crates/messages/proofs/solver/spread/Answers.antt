-- `messages::spread` meets its contract: after e turns row p is put on the rows of the set in the columns below e.
use Rattle.std.proofs.Common.{◌≡◌, arith}
use Rattle.messages.proofs.Pivots.{spread-put, spread-kept, spread-whole}
use Rattle.messages.proofs.solver.spread.Goals as goal
use Rattle.messages.proofs.solver.spread.Goals.{else-row_bit-eq1, then-row_bit-eq1}

pub loop-e-preserved : goal.loop-e-preserved
loop-e-preserved c =
    let so_far = c.loop-e.invariant in
    let args = c.args in
    let read = c.row_bit.ensures in
    (elim c.if-row_bit-eq1.branch [
      | then-row_bit-eq1 w ↦
          rw w.columns-is (spread-put args.p (omega arith) _ _ _ _ so_far _ read _ w.if-row_bit-eq1.true w.add_column.ensures)
      | else-row_bit-eq1 w ↦ rw w.columns-is (spread-kept args.p (omega arith) _ _ _ _ so_far _ read w.if-row_bit-eq1.false)
    ])

pub returns : goal.returns
returns c =
    let end : c.loop-e.e ≡ c.args.edges = omega arith in
    spread-whole _ _ _ _ _ (rw end at c.loop-e.invariant)
