-- How the code tests membership and searches: none of this is needed to believe a contract of a service.
--   reduce_by b w          w with b put on it where that makes it smaller: where w has b's highest digit
--   reduced row i w       w reduced by the echelon form of the first i rows, in order of insertion
--   echelon row i         row i, reduced by the rows before it
--   reduced_by basis n w   w reduced by basis 0 .. basis (n - 1)
--   with_echelon row n l   the list l with echelon row i at its place i, for each i below n
--   ones_unless_zero w      the ones of a nonzero word; of the zero word 17, more than any word has
--   fewest_ones words n    the fewest ones in a nonzero one of words 0 .. words (n - 1), 17 where there is none
--   least_key words n w    the least key of a pattern that leads w to one of words 0 .. words (n - 1)
--   back_key p             one number that orders error patterns by their ones, and those of equal ones from the largest down
--   least_back words n w   the least such number of a pattern that leads w to one of words 0 .. words (n - 1)
--   sole first last       the first of the patterns with the fewest ones, where it is their last too; else 0
--   searched words n w    w with the one pattern of the fewest ones on it, that leads to one of the words; w itself where there are more
--   step_to w x            the step from a word to another: that one, and the number of bits that it changes
--   doubled n r m l       the list l with r put on its words 0 .. m - 1, at the places n .. n + m - 1
--   Doubles n r l m       the list m is l so doubled with r on all its words 0 .. n - 1; where l has no room for them, m is l
--   listed row k l        the list l with the codewords of k rows at its places 0 .. 2^k - 1, by doubling
--   Lists row k l r m     the list m is l with the codewords of k rows listed, of 11 at most, and r is how many they are; where l has no
--                         room for them, m is l and r is 0
use Rattle.std.specs.Prelude.{ℕ, zero, suc, ◌+◌, ◌-◌, ◌*◌, ◌%◌, ◌^◌, ◌≤◌, ◌<◌, min, cond, List, ◌≡◌, length, get_or, set, eqb}
use Rattle.std.specs.Int.Bits.{bit_xor}
use Rattle.std.specs.Int.Count.{ones}
use Rattle.bits.specs.Search.{least}
use Rattle.inner_code.specs.Code.{key, no_key}
use Rattle.inner_code.specs.declared.nearest.Step.{Step}

unfoldable pub reduce_by : ℕ → ℕ → ℕ
reduce_by b w = min w (bit_xor w b)

unfoldable pub reduced : (ℕ → ℕ) → ℕ → ℕ → ℕ
unfolding reduce_by
reduced row zero w = w
reduced row (suc i) w = reduce_by (reduced row i (row i)) (reduced row i w)

unfoldable pub echelon : (ℕ → ℕ) → ℕ → ℕ
unfolding reduced
echelon row i = reduced row i (row i)

unfoldable pub reduced_by : (ℕ → ℕ) → ℕ → ℕ → ℕ
unfolding reduce_by
reduced_by basis zero w = w
reduced_by basis (suc n) w = reduce_by (basis n) (reduced_by basis n w)

unfoldable pub with_echelon : (ℕ → ℕ) → ℕ → List ℕ → List ℕ
unfolding echelon
with_echelon row zero l = l
with_echelon row (suc n) l = set (with_echelon row n l) n (echelon row n)

unfoldable pub ones_unless_zero : ℕ → ℕ
ones_unless_zero w = cond (eqb w 0) 17 (ones w)

unfoldable pub fewest_ones : (ℕ → ℕ) → ℕ → ℕ
unfolding least ones_unless_zero
fewest_ones words n = least 17 (λ m. ones_unless_zero (words m)) n

unfoldable pub least_key : (ℕ → ℕ) → ℕ → ℕ → ℕ
unfolding least key no_key
least_key words n w = least no_key (λ m. key (bit_xor (words m) w)) n

unfoldable pub back_key : ℕ → ℕ
back_key p = ones p * 65536 + (65535 - p)

unfoldable pub least_back : (ℕ → ℕ) → ℕ → ℕ → ℕ
unfolding least back_key no_key
least_back words n w = least no_key (λ m. back_key (bit_xor (words m) w)) n

unfoldable pub sole : ℕ → ℕ → ℕ
sole first last = cond (eqb first last) first 0

unfoldable pub searched : (ℕ → ℕ) → ℕ → ℕ → ℕ
unfolding least_key least_back sole
searched words n w = bit_xor w (sole (least_key words n w % 65536) (65535 - least_back words n w % 65536))

unfoldable pub step_to : ℕ → ℕ → Step
step_to w x = record { word = x; changed = ones (bit_xor w x) }

unfoldable pub doubled : ℕ → ℕ → ℕ → List ℕ → List ℕ
doubled count row zero l = l
doubled count row (suc m) l = set (doubled count row m l) (count + m) (bit_xor (get_or (doubled count row m l) m 0) row)

pub record Doubles (count row : ℕ) (before after : List ℕ) : Type 0 where
  pub room : 2 * count ≤ length before → after ≡ doubled count row count before
  pub short : length before < 2 * count → after ≡ before

unfoldable pub listed : (ℕ → ℕ) → ℕ → List ℕ → List ℕ
unfolding doubled
listed row zero l = set l 0 0
listed row (suc i) l = doubled (2 ^ i) (row i) (2 ^ i) (listed row i l)

pub record Lists (row : ℕ → ℕ) (k : ℕ) (before : List ℕ) (r : ℕ) (after : List ℕ) : Type 0 where
  pub room : 2 ^ min k 11 ≤ length before → (r ≡ 2 ^ min k 11) × (after ≡ listed row (min k 11) before)
  pub short : length before < 2 ^ min k 11 → (r ≡ 0) × (after ≡ before)
