-- What the code's check of a sheet gives: none of this is needed to believe a contract of a service.
--   rows_answer sheet d k     the rows' part of the answer: d and k once no row below k is faulty
--   sheet_answer sheet        the values d and k of an accepted sheet, or its refusal
--   sheet_reply r             the number, place and values for each case of the check's answer in the code
--   sound_rows r              how many rows come before the first faulty one: the place of 5 and 6, all k of an accepted sheet, none with 1 to 4
--   SheetInto, RowsInto      the checks of a sheet and of its rows into a list: the answer, and the list with the echelon form of the sound rows
--                            at its front
--   SheetChecked sheet r     the check of a sheet with the list in its answer: the echelon form of the sound rows before zeros
use Rattle.std.specs.Prelude.{ℕ, List, [], ◌∷◌, ◌≡◌, replicate, Result, Ok, Err}
use Rattle.inner_code.specs.Reply.{Reply, done, refused, and_then}
use Rattle.inner_code.specs.Refusal.{number_of, place_of}
use Rattle.inner_code.specs.Reduction.{with_echelon}
use Rattle.inner_code.specs.Sheet.{degree, row_count, row_of, rows_check, sheet_check}
use Rattle.inner_code.specs.declared.refusal.Refusal.{Refusal}
use Rattle.inner_code.specs.declared.sheet.Sheet.{Sheet}
use Rattle.inner_code.specs.declared.sheet.CheckedSheet.{CheckedSheet}

unfoldable pub rows_answer : List ℕ → ℕ → ℕ → Reply
unfolding and_then rows_check row_of
rows_answer sheet d k = and_then (rows_check d (row_of sheet) k) (done (d ∷ k ∷ []))

unfoldable pub sheet_answer : List ℕ → Reply
unfolding and_then sheet_check degree row_count
sheet_answer sheet = and_then (sheet_check sheet) (done (degree sheet ∷ row_count sheet ∷ []))

abbrev pub sheet_reply : Result Sheet Refusal → Reply
sheet_reply (Ok s) = done (s.d ∷ s.k ∷ [])
sheet_reply (Err r) = refused (number_of r) (place_of r)

abbrev pub sound_rows : Result Sheet Refusal → ℕ
sound_rows (Ok s) = s.k
sound_rows (Err r) = place_of r

pub record SheetInto (sheet before : List ℕ) (r : Result Sheet Refusal) (after : List ℕ) : Type 0 where
  pub answer : sheet_reply r ≡ sheet_answer sheet
  pub rows : after ≡ with_echelon (row_of sheet) (sound_rows r) before

pub record RowsInto (sheet : List ℕ) (d k : ℕ) (before : List ℕ) (r : Result Sheet Refusal) (after : List ℕ) : Type 0 where
  pub answer : sheet_reply r ≡ rows_answer sheet d k
  pub rows : after ≡ with_echelon (row_of sheet) (sound_rows r) before

abbrev pub SheetChecked : List ℕ → CheckedSheet → Type 0
SheetChecked sheet r = SheetInto sheet (replicate 11 0) r.sheet r.basis
