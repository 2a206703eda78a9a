-- `bits::bit` meets its contract: past the end the bit is 0, elsewhere it is a digit of the byte that holds it, moved.
use Rattle.std.proofs.Common.{◌/◌, ◌%◌, sym, arith, get_or}
use Rattle.bits.specs.Bit.{bit_at}
use Rattle.bits.proofs.Bytes.{bit_at-past}
use Rattle.bits.proofs.Windows.{digit-moved}
use Rattle.bits.proofs.bit.Goals as goal

pub returns-then-bytes-at : goal.returns-then-bytes-at
returns-then-bytes-at c = sym (bit_at-past _ _ (omega arith))

pub overflow_cast-result : goal.overflow_cast-result
overflow_cast-result c = omega (arith, c.type_inv.bytes (c.args.i / 8))

pub returns : goal.returns
unfolding bit_at
returns c =
    let args = c.args in
    digit-moved 64 (get_or args.bytes.now (args.i / 8) 0) (args.i % 8) (omega arith)
    (omega (arith, c.type_inv.bytes (args.i / 8))) (omega arith)
