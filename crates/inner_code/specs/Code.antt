-- The inner code: its codewords, its distance and the nearest word. `row i` is generator row i, k the number of rows.
--   combination row k m   the exclusive-or of the rows i below k whose digit i in m is 1
--   is_codeword row k w    w is an exclusive-or of rows, the empty one included
--   distance row k        the paper's D: the fewest ones in a nonzero codeword; 17, more than a word has, where there is none
--   key p                 one number that orders error patterns by their ones, and those of equal ones by value
--   no_key                 more than the key of any pattern of 16 bits
--   least_pattern row k d w  of all patterns below 2^d that turn w into a codeword, the one of the least key: it has the fewest ones
--   tied row k d w        another pattern below 2^d turns w into a codeword with as few ones
--   nearest_pattern row k d w  the one pattern with the fewest ones; 0 where more than one has them
--   nearest_word row k d w the paper's nearest word: that pattern put on w, so that a tie keeps its bits
--   bits_changed row k d w how many bits that changes: the ones of the pattern
use Rattle.std.specs.Prelude.{ℕ, zero, suc, ◌+◌, ◌*◌, ◌%◌, ◌^◌, Bool, not, cond, ◌&&◌, eqb}
use Rattle.std.specs.Int.Bits.{bit_xor}
use Rattle.std.specs.Int.Count.{ones}
use Rattle.bits.specs.Bit.{digit}
use Rattle.bits.specs.Search.{some_below, least}

unfoldable pub combination : (ℕ → ℕ) → ℕ → ℕ → ℕ
unfolding digit
combination row zero m = 0
combination row (suc i) m = bit_xor (combination row i m) (digit m i * row i)

unfoldable pub is_codeword : (ℕ → ℕ) → ℕ → ℕ → Bool
unfolding some_below combination
is_codeword row k w = some_below (2 ^ k) (λ m. eqb w (combination row k m))

unfoldable pub distance : (ℕ → ℕ) → ℕ → ℕ
unfolding least combination
distance row k = least 17 (λ m. cond (eqb (combination row k m) 0) 17 (ones (combination row k m))) (2 ^ k)

unfoldable pub key : ℕ → ℕ
key p = ones p * 65536 + p

unfoldable pub no_key : ℕ
no_key = 17 * 65536

unfoldable pub least_pattern : (ℕ → ℕ) → ℕ → ℕ → ℕ → ℕ
unfolding least is_codeword key no_key
least_pattern row k d w = least no_key (λ p. cond (is_codeword row k (bit_xor w p)) (key p) no_key) (2 ^ d) % 65536

unfoldable pub tied : (ℕ → ℕ) → ℕ → ℕ → ℕ → Bool
unfolding some_below is_codeword least_pattern
tied row k d w =
    let first : ℕ = least_pattern row k d w in
    some_below (2 ^ d) (λ p. not (eqb p first) && (eqb (ones p) (ones first) && is_codeword row k (bit_xor w p)))

unfoldable pub nearest_pattern : (ℕ → ℕ) → ℕ → ℕ → ℕ → ℕ
unfolding tied least_pattern
nearest_pattern row k d w = cond (tied row k d w) 0 (least_pattern row k d w)

unfoldable pub nearest_word : (ℕ → ℕ) → ℕ → ℕ → ℕ → ℕ
unfolding nearest_pattern
nearest_word row k d w = bit_xor w (nearest_pattern row k d w)

unfoldable pub bits_changed : (ℕ → ℕ) → ℕ → ℕ → ℕ → ℕ
unfolding nearest_pattern
bits_changed row k d w = ones (nearest_pattern row k d w)
