-- What the services of tables answer, and what building leaves in the lent output.
--   table_bytes sheet        how long a table is: two bytes for each of the 2^(d - k) classes
--   table_of sheet           the table of a sheet
--   build_answer, build_output   building: 1 to 6, 13, or done; its output at exit has the table at the front
--   pattern_in sheet w table the pattern that a table has for a word: the low d bits of its class's entry, none at the mark
--   look_up_answer            the look-up: 1 to 6, 12, 13, or the word with that pattern on it, and its ones
--   built_reply r            the paper's number and place for each case of building's answer in the code
use Rattle.std.specs.Prelude.{ℕ, ◌*◌, ◌-◌, ◌%◌, ◌^◌, cond, List, [], ◌∷◌, eqb, leb, ltb, length, Result}
use Rattle.std.specs.Int.Bits.{bit_xor}
use Rattle.std.specs.Int.Count.{ones}
use Rattle.bits.specs.Bit.{pair_at, written}
use Rattle.inner_code.specs.Reply.{Reply, done, refuse_if, and_then, if_done}
use Rattle.inner_code.specs.Sheet.{degree, row_count, row_of, sheet_check}
use Rattle.tables.specs.Classes.{class_of, tie_mark, entries_below}
use Rattle.inner_code.specs.Refusal.{check_reply}
use Rattle.inner_code.specs.declared.refusal.Refusal.{Refusal}

unfoldable pub table_bytes : List ℕ → ℕ
unfolding degree row_count
table_bytes sheet = 2 * 2 ^ (degree sheet - row_count sheet)

unfoldable pub table_of : List ℕ → List ℕ
unfolding entries_below degree row_count row_of
table_of sheet = entries_below (row_of sheet) (row_count sheet) (degree sheet) (2 ^ degree sheet)

unfoldable pub build_answer : List ℕ → List ℕ → Reply
unfolding and_then refuse_if sheet_check table_bytes
build_answer sheet output = and_then (sheet_check sheet) (refuse_if (ltb (length output) (table_bytes sheet)) 13 0 (done []))

unfoldable pub build_output : List ℕ → List ℕ → List ℕ
unfolding if_done written build_answer table_of
build_output sheet output = if_done (build_answer sheet output) (written (table_of sheet) output) output

unfoldable pub pattern_in : List ℕ → ℕ → List ℕ → ℕ
unfolding pair_at class_of tie_mark degree row_count row_of
pattern_in sheet w table =
    let entry : ℕ = pair_at table (2 * class_of (row_of sheet) (row_count sheet) w) in
    cond (eqb entry tie_mark) 0 (entry % 2 ^ degree sheet)

unfoldable pub look_up_answer : List ℕ → ℕ → List ℕ → Reply
unfolding and_then refuse_if sheet_check table_bytes pattern_in degree
look_up_answer sheet w table =
    and_then (sheet_check sheet)
    (refuse_if (leb (2 ^ degree sheet) w) 12 0
    (refuse_if (ltb (length table) (table_bytes sheet)) 13 0
    (done (bit_xor w (pattern_in sheet w table) ∷ ones (pattern_in sheet w table) ∷ []))))

abbrev pub built_reply : Result Unit Refusal → Reply
built_reply r = check_reply r
