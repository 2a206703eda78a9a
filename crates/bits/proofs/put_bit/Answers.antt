-- `bits::put_bit` meets its contract: within the byte string the code is the definition of `with_bit`, since the shift
-- drops no digit, and past the end both leave the bytes alone.
use Rattle.std.proofs.Common.{sym, ap, ℕ, ◌-◌, ◌/◌, ◌%◌, arith, bit_xor, get_or, set, shl_exact}
use Rattle.bits.specs.Bit.{with_bit}
use Rattle.bits.proofs.Bytes.{with_bit-past}
use Rattle.bits.proofs.Xor.{digit_lt, xor-bits-lt}
use Rattle.bits.proofs.put_bit.Goals as goal

pub returns-then-at-bytes : goal.returns-then-at-bytes
unfolding with_bit
returns-then-at-bytes c =
    let bytes = c.args.bytes.now in
    let i = c.args.i in
    let byte = get_or bytes (i / 8) 0 in
    ap (λ (x : ℕ). set bytes (i / 8) (bit_xor byte x))
    (shl_exact 1 (7 - i % 8) 8 (xor-bits-lt _ _ (digit_lt byte (7 - i % 8)) (omega arith)) (omega arith))

pub returns-else-at-bytes : goal.returns-else-at-bytes
returns-else-at-bytes c = sym (with_bit-past _ _ _ (omega arith))
