-- One bit of a byte string that is turned, and a number with one digit turned.
--   turned bytes i b    the byte string with its bit i turned where b is 1 (specs Window)
--   with_bit bytes i b   the byte string with its bit i made b; past the end nothing changes (specs Bit)
-- Laws are named by their subject, then by the fact: `turned-` is about the byte string, `bit_at-turned-` about a bit of it. At the end of a
-- name, `-same` and `-other` are the bit that is turned and any other, `-none` a bit that is not, `-past` one past the end.
use Rattle.std.proofs.Common.{◌≡◌, ap, ◌∙◌, List, ℕ, ◌-◌, ◌*◌, ◌/◌, ◌%◌, ◌^◌, ◌≤◌, ◌<◌, one-mul, bit_xor, length, get_or, set}
use mathlib.Core.Logic.{◌≢◌}
use lib.Bits.{xor_zero_r}
use Rattle.bits.specs.Bit.{digit, bit_at, put_digit, with_bit}
use Rattle.bits.specs.Window.{turned}
use Rattle.bits.proofs.Xor.{xor-cancel, xor-bits-lt}
use Rattle.bits.proofs.Bytes.{bit_at_lt, bit_at-same, bit_at-other, length-with_bit, with_bit-past, with_bit-keeps}

module _ (bytes : List ℕ) (i : ℕ) where
  -- the byte that holds the bit has one digit more or less
  pub turned-byte : turned bytes i 1 ≡ set bytes (i / 8) (bit_xor (get_or bytes (i / 8) 0) (2 ^ (7 - i % 8)))
  unfolding turned with_bit bit_at put_digit
  turned-byte =
      ap (λ (x : ℕ). set bytes (i / 8) (bit_xor (get_or bytes (i / 8) 0) x))
      (ap (λ (x : ℕ). x * 2 ^ (7 - i % 8)) (xor-cancel (digit (get_or bytes (i / 8) 0) (7 - i % 8)) 1) ∙ one-mul (2 ^ (7 - i % 8)))

  pub turned-past : (b : ℕ) → length bytes * 8 ≤ i → turned bytes i b ≡ bytes
  unfolding turned
  turned-past b = with_bit-past bytes i _

  pub turned_none : turned bytes i 0 ≡ bytes
  unfolding turned
  turned_none = with_bit-keeps bytes i _ (xor_zero_r (bit_at bytes i))

  pub length-turned : (b : ℕ) → length (turned bytes i b) ≡ length bytes
  unfolding turned
  length-turned b = length-with_bit bytes i _

  module _ (b : ℕ) (small : b < 2) where
    pub bit_at-turned-same : i < length bytes * 8 → bit_at (turned bytes i b) i ≡ bit_xor (bit_at bytes i) b
    unfolding turned
    bit_at-turned-same h = bit_at-same bytes i _ h (xor-bits-lt _ b (bit_at_lt bytes i) small)

    pub bit_at-turned-other : (j : ℕ) → i ≢ j → bit_at (turned bytes i b) j ≡ bit_at bytes j
    unfolding turned
    bit_at-turned-other j apart = bit_at-other bytes i j _ apart (xor-bits-lt _ b (bit_at_lt bytes i) small)
