-- How the code numbers classes: none of this is needed to believe a contract of a service.
-- A digit is free where the rows leave 2^b as it is; the others are the highest digits of an echelon form's rows. Of any word the rows leave
-- the smallest word of its class, which has free digits alone, and the number of the class is that word with all other digits squeezed out.
--   is_free row k b        digit b is free
--   free_below row k b     how many digits below b are free
--   weight_of row k b      what a free digit counts in the number of a class; 0 for another digit
--   squeezed row k w      the number that the free digits of a word make
--   number_of row k w      the number of w's class
--   top_digit w            the highest digit of a nonzero word, as a power of 2
--   free_mask basis n      the digits of 16 that are not the highest digit of basis 0 .. basis (n - 1), as a word
--   weight_in mask b, squeezed_by mask n w   the same weights and squeezing, of the first n digits, by such a word
use Rattle.std.specs.Prelude.{ℕ, zero, suc, ◌*◌, ◌-◌, ◌^◌, Bool, cond, eqb}
use Rattle.std.specs.Int.Bits.{bit_xor}
use Rattle.std.specs.Int.Count.{count_leading_zeros}
use Rattle.bits.specs.Bit.{digit}
use Rattle.bits.specs.Sum.{sum, flag}
use Rattle.inner_code.specs.Code.{combination}
use Rattle.inner_code.specs.Reduction.{reduced}

unfoldable pub is_free : (ℕ → ℕ) → ℕ → ℕ → Bool
unfolding reduced
is_free row k b = eqb (reduced row k (2 ^ b)) (2 ^ b)

unfoldable pub free_below : (ℕ → ℕ) → ℕ → ℕ → ℕ
unfolding sum flag is_free
free_below row k b = sum b (λ j. flag (is_free row k j))

unfoldable pub weight_of : (ℕ → ℕ) → ℕ → ℕ → ℕ
unfolding is_free free_below flag
weight_of row k b = flag (is_free row k b) * 2 ^ free_below row k b

unfoldable pub squeezed : (ℕ → ℕ) → ℕ → ℕ → ℕ
unfolding combination weight_of
squeezed row k w = combination (weight_of row k) 16 w

unfoldable pub number_of : (ℕ → ℕ) → ℕ → ℕ → ℕ
unfolding squeezed reduced
number_of row k w = squeezed row k (reduced row k w)

unfoldable pub top_digit : ℕ → ℕ
top_digit w = cond (eqb w 0) 0 (2 ^ (15 - count_leading_zeros 16 w))

unfoldable pub free_mask : (ℕ → ℕ) → ℕ → ℕ
unfolding top_digit
free_mask basis zero = 65535
free_mask basis (suc i) = bit_xor (free_mask basis i) (top_digit (basis i))

unfoldable pub weight_in : ℕ → ℕ → ℕ
unfolding digit sum
weight_in mask b = digit mask b * 2 ^ sum b (digit mask)

unfoldable pub squeezed_by : ℕ → ℕ → ℕ → ℕ
unfolding combination weight_in
squeezed_by mask n w = combination (weight_in mask) n w
