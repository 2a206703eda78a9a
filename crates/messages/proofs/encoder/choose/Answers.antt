-- `messages::choose` meets its contract: after p turns the rows below p are chosen, and `rank` of them are left.
use Rattle.std.proofs.Common.{◌≡◌, refl, sym, ap, ap₂, ◌∙◌, ◌*◌, ◌<◌, length-set, arith}
use Rattle.bits.specs.Bit.{bit_at}
use Rattle.bits.proofs.Bytes.{bit_at_lt}
use Rattle.bits.proofs.Xor.{digits_product}
use Rattle.messages.specs.Columns.{no_rows}
use Rattle.messages.proofs.StoredRows.{row_bit-lt}
use Rattle.messages.proofs.LiveRows.{live-none, live-one-more, live-le, chosen_none, chosen-one-more}
use Rattle.messages.proofs.encoder.choose.Goals as goal

pub loop-p-init : goal.loop-p-init
unfolding no_rows
loop-p-init c = record { sized = refl; counted = sym (live-none _); so_far = chosen_none _ _ }

pub overflow_mul-bit : goal.overflow_mul-bit
overflow_mul-bit c =
    let live : c.row_bit-live.result < 2 = rw c.row_bit-live.ensures (row_bit-lt _ _ _) in
    let bit : c.bit.result < 2 = rw c.bit.ensures (bit_at_lt _ _) in
    omega (arith, digits_product c.row_bit-live.result c.bit.result live bit)

pub overflow_add-rank : goal.overflow_add-rank
overflow_add-rank c =
    let live : c.row_bit-live.result < 2 = rw c.row_bit-live.ensures (row_bit-lt _ _ _) in
    omega (arith, c.loop-p.invariant.counted, live-le c.args.columns.now c.loop-p.p)

pub loop-p-preserved : goal.loop-p-preserved
loop-p-preserved c =
    let before = c.loop-p in
    let args = c.args in
    let live = c.row_bit-live.ensures in
    let bit = ap₂ ◌*◌ live (c.bit.ensures ∙ ap (bit_at args.message.now) before.invariant.counted) in
    record {
      sized = simp length-set before.invariant.sized;
      counted = live-one-more _ _ _ _ before.invariant.counted live;
      so_far =
          chosen-one-more before.p (omega arith) args.columns.now args.message.now before.chosen before.invariant.sized before.invariant.so_far _ bit;
    }

pub returns : goal.returns
returns c =
    let end : c.loop-p.p ≡ c.args.edges = omega arith in
    rw end at c.loop-p.invariant.so_far
