-- `messages::take_bits` meets its contract: after p turns the bits at the rows left below p are put, and `rank` counts them.
use Rattle.std.proofs.Common.{◌≡◌, sym, ◌∙◌, arith}
use Rattle.messages.proofs.LiveRows.{live-none, live-le}
use Rattle.messages.proofs.Written.{taken_none, taken-one-more, taken-kept}
use Rattle.messages.proofs.reader.take_bits.Goals as goal
use Rattle.messages.proofs.reader.take_bits.Goals.{else-row_bit-eq1, then-row_bit-eq1}

pub loop-p-init : goal.loop-p-init
loop-p-init c = record { counted = sym (live-none _); taken = sym (taken_none _ _ _) }

pub overflow_add-rank : goal.overflow_add-rank
overflow_add-rank c =
    omega (arith, c.loop-p.invariant.counted, live-le c.args.columns.now c.loop-p.p)

pub loop-p-preserved : goal.loop-p-preserved
loop-p-preserved c =
    let before = c.loop-p in
    let args = c.args in
    let columns = args.columns.now in
    let block = args.block.now in
    let so_far = before.invariant in
    let read = c.row_bit.ensures in
    (elim c.if-row_bit-eq1.branch [
      | then-row_bit-eq1 w ↦
          let (counted, taken) =
          taken-one-more columns block before.p before.rank _ _ before.output so_far.counted so_far.taken read _ _ w.if-row_bit-eq1.true
          w.bit.ensures w.put_bit.ensures in
          record { counted = w.rank-is ∙ counted; taken = w.output-is ∙ taken }
      | else-row_bit-eq1 w ↦
          let (counted, taken) =
          taken-kept columns block before.p before.rank _ _ before.output so_far.counted so_far.taken read w.if-row_bit-eq1.false in
          record { counted = w.rank-is ∙ counted; taken = w.output-is ∙ taken }
    ])

pub returns : goal.returns
returns c =
    let end : c.loop-p.p ≡ c.args.edges = omega arith in
    rw end at c.loop-p.invariant.taken
