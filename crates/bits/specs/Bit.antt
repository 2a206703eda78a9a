-- Bits of numbers and of byte strings.
--   digit x j         the binary digit of weight 2^j of the number x
--   word d f          the number whose d binary digits are f 0 .. f (d - 1), f 0 of the highest weight
--   bit_at bytes i     bit i of a byte string: bit 0 has weight 128 in byte 0
--   put_digit x j b    the number x with its digit of weight 2^j made b
--   with_bit bytes i b the byte string with its bit i made b; past the end nothing changes
--   written front l   the list l with `front` at its beginning
--   values n f        the list of f 0 .. f (n - 1)
--   pair_at bytes at   the two-byte number at the index `at`, high byte first; a missing byte is 0
--   flips N a b       the number of bits 0 .. N - 1 in which two byte strings differ
use Rattle.std.specs.Prelude.{ℕ, zero, suc, ◌+◌, ◌-◌, ◌*◌, ◌/◌, ◌%◌, ◌^◌, List, [], ◌∷◌, ◌++◌, length, get_or, set, drop}
use Rattle.std.specs.Int.Bits.{bit_xor}
use Rattle.bits.specs.Sum.{sum}

unfoldable pub digit : ℕ → ℕ → ℕ
digit x j = x / 2 ^ j % 2

unfoldable pub word : ℕ → (ℕ → ℕ) → ℕ
word zero f = zero
word (suc d) f = word d f * 2 + f d

unfoldable pub bit_at : List ℕ → ℕ → ℕ
unfolding digit
bit_at bytes i = digit (get_or bytes (i / 8) 0) (7 - i % 8)

unfoldable pub put_digit : ℕ → ℕ → ℕ → ℕ
unfolding digit
put_digit x j b = bit_xor x (bit_xor (digit x j) b * 2 ^ j)

unfoldable pub with_bit : List ℕ → ℕ → ℕ → List ℕ
unfolding put_digit
with_bit bytes i b = set bytes (i / 8) (put_digit (get_or bytes (i / 8) 0) (7 - i % 8) b)

unfoldable pub pair_at : List ℕ → ℕ → ℕ
pair_at bytes at = get_or bytes at 0 * 256 + get_or bytes (at + 1) 0

unfoldable pub written : List ℕ → List ℕ → List ℕ
written front l = front ++ drop (length front) l

unfoldable pub values : ℕ → (ℕ → ℕ) → List ℕ
values zero f = []
values (suc n) f = values n f ++ (f n ∷ [])

unfoldable pub flips : ℕ → List ℕ → List ℕ → ℕ
unfolding sum bit_at
flips N a b = sum N (λ i. bit_xor (bit_at a i) (bit_at b i))
