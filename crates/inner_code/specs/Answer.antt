-- What the service of this layer answers.
--   nearest_answer sheet w   the nearest word: 1 to 6, 12, or the word and the bits changed
--   nearest_reply r          the paper's number, place and values for each case of the answer in the code
use Rattle.std.specs.Prelude.{ℕ, ◌^◌, List, [], ◌∷◌, leb, Result, Ok, Err}
use Rattle.inner_code.specs.Reply.{Reply, done, refused, refuse_if, and_then}
use Rattle.inner_code.specs.Code.{nearest_word, bits_changed}
use Rattle.inner_code.specs.Sheet.{degree, row_count, row_of, sheet_check}
use Rattle.inner_code.specs.Refusal.{number_of, place_of}
use Rattle.inner_code.specs.declared.refusal.Refusal.{Refusal}
use Rattle.inner_code.specs.declared.nearest.Step.{Step}

unfoldable pub nearest_answer : List ℕ → ℕ → Reply
unfolding and_then refuse_if sheet_check nearest_word bits_changed degree row_count row_of
nearest_answer sheet w =
    and_then (sheet_check sheet)
    (refuse_if (leb (2 ^ degree sheet) w) 12 0
    (done (nearest_word (row_of sheet) (row_count sheet) (degree sheet) w ∷ bits_changed (row_of sheet) (row_count sheet) (degree sheet) w ∷ [])))

abbrev pub nearest_reply : Result Step Refusal → Reply
nearest_reply (Ok step) = done (step.word ∷ step.changed ∷ [])
nearest_reply (Err r) = refused (number_of r) (place_of r)
