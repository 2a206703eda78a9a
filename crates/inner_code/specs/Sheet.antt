-- The inner sheet and its refusals 1 to 6.
--   degree, row_count, row_of   the sheet's d, k and row i
--   row_check d row i          row i alone: at or above 2^d (5), else made of earlier rows (6)
--   rows_check d row n         the first faulty row below n: at or above 2^d (5), else made of earlier rows (6)
--   sheet_check sheet          the sheet's place in the table: the first of 1 to 6, or done with no value
use Rattle.std.specs.Prelude.{ℕ, zero, suc, ◌+◌, ◌*◌, ◌^◌, List, [], not, ◌||◌, length, get_or, ltb, leb, eqb}
use Rattle.bits.specs.Bit.{pair_at}
use Rattle.inner_code.specs.Reply.{Reply, done, refuse_if, and_then}
use Rattle.inner_code.specs.Code.{is_codeword}

unfoldable pub degree : List ℕ → ℕ
degree sheet = get_or sheet 0 0

unfoldable pub row_count : List ℕ → ℕ
row_count sheet = get_or sheet 1 0

unfoldable pub row_of : List ℕ → ℕ → ℕ
unfolding pair_at
row_of sheet i = pair_at sheet (2 + 2 * i)

unfoldable pub row_check : ℕ → (ℕ → ℕ) → ℕ → Reply
unfolding refuse_if is_codeword
row_check d row i = refuse_if (leb (2 ^ d) (row i)) 5 i (refuse_if (is_codeword row i (row i)) 6 i (done []))

unfoldable pub rows_check : ℕ → (ℕ → ℕ) → ℕ → Reply
unfolding and_then row_check
rows_check d row zero = done []
rows_check d row (suc i) = and_then (rows_check d row i) (row_check d row i)

unfoldable pub sheet_check : List ℕ → Reply
unfolding refuse_if rows_check degree row_count row_of
sheet_check sheet =
    refuse_if (ltb (length sheet) 2) 1 0
    (refuse_if (ltb (degree sheet) 2 || ltb 16 (degree sheet)) 2 0
    (refuse_if (ltb (row_count sheet) 1 || (ltb 11 (row_count sheet) || ltb (degree sheet) (row_count sheet))) 3 0
    (refuse_if (not (eqb (length sheet) (2 + 2 * row_count sheet))) 4 0
    (rows_check (degree sheet) (row_of sheet) (row_count sheet)))))
