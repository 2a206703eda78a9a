-- `bits::turn_bit` meets its contract: the shift drops no digit, so the byte that holds the bit has one digit turned, and past the end nothing is
-- written.
use Rattle.std.proofs.Common.{sym, ap, ◌∙◌, ℕ, ◌-◌, ◌/◌, ◌%◌, ◌^◌, one-mul, arith, bit_xor, get_or, set, shl_exact}
use Rattle.bits.proofs.Turning.{turned-byte, turned-past}
use Rattle.bits.proofs.turn_bit.Goals as goal

pub returns-then-at-bytes : goal.returns-then-at-bytes
returns-then-at-bytes c =
    let bytes = c.args.bytes.now in
    let i = c.args.i in
    ap (λ (x : ℕ). set bytes (i / 8) (bit_xor (get_or bytes (i / 8) 0) x))
    (shl_exact 1 (7 - i % 8) 8 (omega arith) (omega arith) ∙ one-mul (2 ^ (7 - i % 8)))
    ∙ sym (turned-byte bytes i)

pub returns-else-at-bytes : goal.returns-else-at-bytes
returns-else-at-bytes c = sym (turned-past _ _ _ (omega arith))
