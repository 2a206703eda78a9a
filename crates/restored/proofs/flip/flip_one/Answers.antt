-- `restored::flip::flip_one` meets its contract: one bit made other brings the block at most one bit further from the sent one.
use Rattle.std.proofs.Common.{le_of_suc-le-suc, arith, rules}
use Rattle.bits.proofs.Bytes.{bit_at_lt}
use Rattle.restored.proofs.Flips.{flipped-none, flipped-one}
use Rattle.restored.proofs.flip.flip_one.Goals as goal

pub overflow_sub-bit : goal.overflow_sub-bit
overflow_sub-bit c = rw c.bit-bit.ensures (le_of_suc-le-suc (bit_at_lt _ _))

pub returns-then-bit : goal.returns-then-bit
returns-then-bit c =
    let args = c.args in
    record {
      at_most_one = search rules;
      flipped = rw c.put_bit.ensures (flipped-one args.sent.now args.block.now args.place _ c.requires (omega arith));
    }

pub returns : goal.returns
returns c = record {
  at_most_one = search rules;
  flipped = flipped-none _ _;
}
