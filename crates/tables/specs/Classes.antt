-- Classes of words that differ by a codeword, in the order of their smallest words, and the entries of a table of their nearest patterns.
-- `row i` is generator row i, k the number of rows.
--   smallest_of row k w    the smallest word of w's class: of all words that differ from w by a codeword
--   is_smallest row k w    w is the smallest word of its class
--   class_of row k w       the number of w's class: how many classes have a smaller smallest word
--   tie_mark               the mark for a tie, FFFF
--   entry_of row k d w     the entry of w's class: the pattern with the fewest ones, or the mark where more than one has them
--   entries_below row k d n  the entries, two bytes each, high byte first, of the classes whose smallest word is below n, in their order
use Rattle.std.specs.Prelude.{ℕ, zero, suc, ◌/◌, ◌%◌, Bool, cond, List, [], ◌∷◌, ◌++◌, eqb}
use Rattle.std.specs.Int.Bits.{bit_xor}
use Rattle.bits.specs.Search.{least}
use Rattle.bits.specs.Sum.{sum, flag}
use Rattle.inner_code.specs.Code.{is_codeword, least_pattern, tied}

unfoldable pub smallest_of : (ℕ → ℕ) → ℕ → ℕ → ℕ
unfolding least is_codeword
smallest_of row k w = least w (λ v. cond (is_codeword row k (bit_xor v w)) v w) w

unfoldable pub is_smallest : (ℕ → ℕ) → ℕ → ℕ → Bool
unfolding smallest_of
is_smallest row k w = eqb (smallest_of row k w) w

unfoldable pub class_of : (ℕ → ℕ) → ℕ → ℕ → ℕ
unfolding sum flag is_smallest smallest_of
class_of row k w = sum (smallest_of row k w) (λ v. flag (is_smallest row k v))

unfoldable pub tie_mark : ℕ
tie_mark = 0xffff

unfoldable pub entry_of : (ℕ → ℕ) → ℕ → ℕ → ℕ → ℕ
unfolding tied tie_mark least_pattern
entry_of row k d w = cond (tied row k d w) tie_mark (least_pattern row k d w)

unfoldable pub entries_below : (ℕ → ℕ) → ℕ → ℕ → ℕ → List ℕ
unfolding is_smallest entry_of
entries_below row k d zero = []
entries_below row k d (suc w) =
    entries_below row k d w ++ cond (is_smallest row k w) (entry_of row k d w / 256 ∷ entry_of row k d w % 256 ∷ []) []
