-- What the code reads of a list and writes to it: none of this is needed to believe a contract of a service.
--   at l i            element i of a list, 0 past its end
--   word_at bytes i d  the number that the d bits from bit i on make, bit i of the highest weight; past the end bits are 0
--   KeptFrom n before after  a list is after a function as it was before, from index n on
--   turned bytes i b  the byte string with its bit i turned where b is 1, and as it is where b is 0; past the end nothing changes
use Rattle.std.specs.Prelude.{ℕ, ◌+◌, ◌≤◌, List, ◌≡◌, get_or}
use Rattle.std.specs.Int.Bits.{bit_xor}
use Rattle.bits.specs.Bit.{word, bit_at, with_bit}

unfoldable pub at : List ℕ → ℕ → ℕ
at l i = get_or l i 0

pub record KeptFrom (n : ℕ) (before after : List ℕ) : Type 0 where
  pub each : (i : ℕ) → n ≤ i → at after i ≡ at before i

unfoldable pub word_at : List ℕ → ℕ → ℕ → ℕ
unfolding word bit_at
word_at bytes i d = word d (λ j. bit_at bytes (i + j))

unfoldable pub turned : List ℕ → ℕ → ℕ → List ℕ
unfolding with_bit bit_at
turned bytes i b = with_bit bytes i (bit_xor (bit_at bytes i) b)
