-- On a built table a look-up is the nearest word, and what the services answer.
--   table_of sheet, look_up_answer, build_answer, build_output   the table and the services of the paper (specs Answer)
-- `looked-up` is the law for every sheet, every word and whatever stands behind the table, `looked-up-built` the same for the output of a
-- building call. `mark-` is about the mark, `build-` and `look-` laws about one outcome of a service.
use Rattle.std.proofs.Common.{◌≡◌, refl, sym, ap, ap₂, ◌∙◌, subst, Bool, true, false, cond, true≢false, List, [], ◌∷◌, ◌++◌, append-nil, ℕ}
use Rattle.std.proofs.Common.{zero, suc, ◌*◌, ◌%◌, ◌^◌, ◌≤◌, ◌<◌, mod-eq_of_lt, arith, eq-eqb, ne_eqb, le-leb, lt-ltb, le-ltb, bit_xor, eqb}
use Rattle.std.proofs.Common.{length, length-append, drop, pow_mono}
use native.Mathlib.Decide.{dec_lt}
use borrow.Author.Tests.{lt-leb}
use lib.Bits.{xor_lt}
use lib.Count.{ones, ones-le, ones-ones}
use Rattle.bits.specs.Bit.{pair_at, written}
use Rattle.bits.proofs.Xor.{xor_assoc, xor-cancel}
use Rattle.inner_code.specs.Reply.{Reply, done, refused}
use Rattle.inner_code.specs.Code.{is_codeword, key, least_pattern, tied, nearest_pattern, nearest_word, bits_changed}
use Rattle.inner_code.specs.Reduction.{reduced}
use Rattle.inner_code.specs.Sheet.{degree, row_count, row_of, sheet_check}
use Rattle.inner_code.specs.Answer.{nearest_answer}
use Rattle.inner_code.proofs.Combinations.{codeword-zero, codeword-xor, codeword-last-row}
use Rattle.inner_code.proofs.Cosets.{coset-pattern}
use Rattle.inner_code.proofs.NearestWord.{least-pattern-lt, least-pattern-first, least-codeword, nearest-pattern-tied, nearest-pattern-untied}
use Rattle.inner_code.proofs.NearestWord.{nearest-answer-refused, nearest-answer-high, nearest-answer-word}
use Rattle.inner_code.proofs.Replies.{and_then-refused, and_then-passed, refuse-taken, refuse-passed, if_done-done, if_done-refused}
use Rattle.inner_code.proofs.SheetChecks.{Sound, sound, sound-accepted}
use Rattle.tables.specs.Classes.{smallest_of, is_smallest, class_of, tie_mark, entry_of, entries_below}
use Rattle.tables.specs.Answer.{table_bytes, table_of, build_answer, build_output, pattern_in, look_up_answer}
use Rattle.tables.specs.Numbering.{number_of}
use Rattle.inner_code.proofs.EchelonForm.{reduced-le}
use Rattle.tables.proofs.Numbers.{reduced-again, smallest-reduced, smallest-test, class-number}
use Rattle.tables.proofs.Entries.{smallest_below, entries-pair}
use Rattle.tables.proofs.Tables.{table-length}

-- ---- the services' outcomes

module _ (sheet output : List ℕ) where
  pub build-refused : (n p : ℕ) → sheet_check sheet ≡ refused n p → refused n p ≡ build_answer sheet output
  unfolding build_answer
  build-refused n p e = sym (and_then-refused _ _ n p e)

  pub build-short : sheet_check sheet ≡ done [] → length output < table_bytes sheet → refused 13 0 ≡ build_answer sheet output
  unfolding build_answer
  build-short e h = sym (and_then-passed _ _ [] e ∙ refuse-taken _ 13 0 _ (lt-ltb _ _ h))

  pub build-done : sheet_check sheet ≡ done [] → table_bytes sheet ≤ length output → done [] ≡ build_answer sheet output
  unfolding build_answer
  build-done e h = sym (and_then-passed _ _ [] e ∙ refuse-passed _ 13 0 _ (le-ltb _ _ h))

  -- a refusal leaves the output
  pub build-left : (n p : ℕ) → refused n p ≡ build_answer sheet output → output ≡ build_output sheet output
  unfolding build_output
  build-left n p e = sym (if_done-refused (build_answer sheet output) _ output n p (sym e))

  pub build-written : done [] ≡ build_answer sheet output → written (table_of sheet) output ≡ build_output sheet output
  unfolding build_output
  build-written e = sym (if_done-done (build_answer sheet output) _ output [] (sym e))

module _ (sheet : List ℕ) (w : ℕ) (table : List ℕ) where
  pub look-refused : (n p : ℕ) → sheet_check sheet ≡ refused n p → refused n p ≡ look_up_answer sheet w table
  unfolding look_up_answer
  look-refused n p e = sym (and_then-refused _ _ n p e)

  module _ (passed : sheet_check sheet ≡ done []) where
    pub look-high : 2 ^ degree sheet ≤ w → refused 12 0 ≡ look_up_answer sheet w table
    unfolding look_up_answer
    look-high h = sym (and_then-passed _ _ [] passed ∙ refuse-taken _ 12 0 _ (le-leb _ _ h))

    pub look-short : w < 2 ^ degree sheet → length table < table_bytes sheet → refused 13 0 ≡ look_up_answer sheet w table
    unfolding look_up_answer
    look-short h l =
        sym (and_then-passed _ _ [] passed ∙ refuse-passed _ 12 0 _ (lt-leb _ _ h) ∙ refuse-taken _ 13 0 _ (lt-ltb _ _ l))

    pub look-done : w < 2 ^ degree sheet → table_bytes sheet ≤ length table
        → done (bit_xor w (pattern_in sheet w table) ∷ ones (pattern_in sheet w table) ∷ []) ≡ look_up_answer sheet w table
    unfolding look_up_answer
    look-done h l =
        sym (and_then-passed _ _ [] passed ∙ refuse-passed _ 12 0 _ (lt-leb _ _ h) ∙ refuse-passed _ 13 0 _ (le-ltb _ _ l))

-- the pattern that the code reads
pub look-pattern : (sheet : List ℕ) (w : ℕ) (table : List ℕ) (class entry pattern d : ℕ) → class ≡ class_of (row_of sheet) (row_count sheet) w
    → entry ≡ pair_at table (2 * class) → pattern ≡ cond (eqb entry tie_mark) 0 (entry % 2 ^ d) → d ≡ degree sheet → pattern ≡ pattern_in sheet w table
unfolding pattern_in
look-pattern sheet w table class entry pattern d class-is entry-is pattern-is d-is =
    pattern-is
    ∙ ap₂ (λ (e n : ℕ). cond (eqb e tie_mark) 0 (e % 2 ^ n)) (entry-is ∙ ap (λ (c : ℕ). pair_at table (2 * c)) class-is) d-is

-- ---- a built table

module _ (sheet : List ℕ) (fine : Sound sheet) where
  abbrev row : ℕ → ℕ
  row = row_of sheet

  abbrev k : ℕ
  k = row_count sheet

  abbrev d : ℕ
  d = degree sheet

  -- a nonzero codeword
  other-codeword : (c : ℕ) × (is_codeword row k c ≡ true) × (c < 2 ^ d) × (c ≡ 0 → ⊥)
  other-codeword = go k refl
    where
      go : (n : ℕ) → k ≡ n → (c : ℕ) × (is_codeword row k c ≡ true) × (c < 2 ^ d) × (c ≡ 0 → ⊥)
      go zero e = absurd (omega (arith, e, fine.count_low))
      go (suc j) e =
          let last : j < k = omega (arith, e) in (
            row j,
            subst (λ (n : ℕ). is_codeword row n (row j) ≡ true) (sym e) (codeword-last-row row j),
            fine.rows-lt j last,
            λ none. true≢false (sym (subst (λ (x : ℕ). is_codeword row j x ≡ true) (sym none) (codeword-zero row j)) ∙ fine.rows_new j last),
          )

  -- no pattern of the least key is the mark: a nonzero codeword put on FFFF makes it lighter
  mark-free : (s : ℕ) → s < 2 ^ d → least_pattern row k d s ≡ 65535 → ⊥
  unfolding key
  mark-free s h e =
      let (c, codeword, c_lt, some) = other-codeword in
      let top : 65535 < 2 ^ d = subst (λ (x : ℕ). x < 2 ^ d) e (least-pattern-lt row k d fine.degree-high fine.rows-lt s h) in
      let p-lt : bit_xor 65535 c < 2 ^ d = xor_lt d 65535 c top c_lt in
      let low : bit_xor 65535 c < 2 ^ 16 = omega (arith, p-lt, pow_mono fine.degree-high) in
      let leads : is_codeword row k (bit_xor s (bit_xor 65535 c)) ≡ true =
      subst (λ (x : ℕ). is_codeword row k x ≡ true) (xor_assoc s 65535 c)
      (codeword-xor row k (bit_xor s 65535) c
      (subst (λ (x : ℕ). is_codeword row k (bit_xor s x) ≡ true) e (least-codeword row k d fine.degree-high fine.rows-lt s h)) codeword) in
      let first = least-pattern-first row k d fine.degree-high fine.rows-lt s (bit_xor 65535 c) h p-lt leads in
      let same : 65535 ≡ bit_xor 65535 c = omega (arith, first, ap ones e, e, ones-ones 16, ones-le 16 (bit_xor 65535 c) low, low) in
      some (sym (xor-cancel 65535 c) ∙ ap (bit_xor 65535) (sym same))

  -- the entry of a class gives its nearest pattern
  entry-pattern : (s : ℕ) → s < 2 ^ d → cond (eqb (entry_of row k d s) tie_mark) 0 (entry_of row k d s % 2 ^ d) ≡ nearest_pattern row k d s
  unfolding entry_of tie_mark
  entry-pattern s h = go (tied row k d s) refl
    where
      go : (t : Bool) → tied row k d s ≡ t
          → cond (eqb (cond (tied row k d s) 65535 (least_pattern row k d s)) 65535) 0 (cond (tied row k d s) 65535 (least_pattern row k d s) % 2 ^ d)
          ≡ nearest_pattern row k d s
      go true e = rw e (sym (nearest-pattern-tied row k d fine.degree-high fine.rows-lt s e))
      go false e =
          rw (e, ne_eqb (least_pattern row k d s) 65535 (mark-free s h))
          (mod-eq_of_lt (least-pattern-lt row k d fine.degree-high fine.rows-lt s h)
          ∙ sym (nearest-pattern-untied row k d fine.degree-high fine.rows-lt s e))

  -- the table has every word's nearest pattern
  pub table-pattern : (w : ℕ) (rest : List ℕ) → w < 2 ^ d → pattern_in sheet w (table_of sheet ++ rest) ≡ nearest_pattern row k d w
  unfolding pattern_in table_of class_of
  table-pattern w rest h =
      let s = reduced row k w in
      let s-lt : s < 2 ^ d = omega (arith, reduced-le row k w, h) in
      let small : is_smallest row k s ≡ true = smallest-test row k s ∙ eq-eqb _ _ (reduced-again row k w) in
      let entry : pair_at (entries_below row k d (2 ^ d) ++ rest) (2 * smallest_below row k (smallest_of row k w)) ≡ entry_of row k d s =
      ap (λ (v : ℕ). pair_at (entries_below row k d (2 ^ d) ++ rest) (2 * smallest_below row k v)) (smallest-reduced row k w)
      ∙ entries-pair row k d (2 ^ d) s rest s-lt small in
      ap (λ (e : ℕ). cond (eqb e tie_mark) 0 (e % 2 ^ d)) entry ∙ entry-pattern s s-lt
      ∙ coset-pattern row k d fine.degree-high fine.rows-lt s w s-lt h (reduced-again row k w)

  -- and at the place that the code reckons
  pub table-number : (w : ℕ) → w < 2 ^ d
      → let e = pair_at (table_of sheet) (2 * number_of row k w) in cond (eqb e tie_mark) 0 (e % 2 ^ d) ≡ nearest_pattern row k d w
  unfolding pattern_in
  table-number w h =
      ap (λ (e : ℕ). cond (eqb e tie_mark) 0 (e % 2 ^ d))
      (ap₂ (λ (l : List ℕ) (c : ℕ). pair_at l (2 * c)) (sym (append-nil (table_of sheet)))
      (sym (class-number row k w (omega (arith, h, pow_mono fine.degree-high)))))
      ∙ table-pattern w [] h

nearest-parts : (sheet : List ℕ) (w : ℕ)
    → let p = nearest_pattern (row_of sheet) (row_count sheet) (degree sheet) w in
    done (bit_xor w p ∷ ones p ∷ [])
    ≡ done (nearest_word (row_of sheet) (row_count sheet) (degree sheet) w ∷ bits_changed (row_of sheet) (row_count sheet) (degree sheet) w ∷ [])
unfolding nearest_word bits_changed
nearest-parts sheet w = refl

-- On a table so built the look-up is the nearest word, bits changed included: for every sheet, every word and whatever stands behind.
pub looked-up : (sheet : List ℕ) (w : ℕ) (rest : List ℕ) → look_up_answer sheet w (table_of sheet ++ rest) ≡ nearest_answer sheet w
looked-up sheet w rest = go (sheet_check sheet) refl
  where
    go : (r : Reply) → sheet_check sheet ≡ r → look_up_answer sheet w (table_of sheet ++ rest) ≡ nearest_answer sheet w
    go (refused n p) e = sym (look-refused sheet w (table_of sheet ++ rest) n p e) ∙ sym (nearest-answer-refused sheet w n p e)
    go (done values) e =
        let fine = sound sheet values e in
        let passed = sound-accepted sheet fine in
        elim (dec_lt w (2 ^ degree sheet)) [
          | yes low ↦
              sym (look-done sheet w (table_of sheet ++ rest) passed low
              (omega (arith, length-append (table_of sheet) rest, table-length sheet fine)))
              ∙ ap (λ (p : ℕ). done (bit_xor w p ∷ ones p ∷ [])) (table-pattern sheet fine w rest low)
              ∙ nearest-parts sheet w
              ∙ sym (nearest-answer-word sheet w passed low)
          | no high ↦
              sym (look-high sheet w (table_of sheet ++ rest) passed (omega arith)) ∙ sym (nearest-answer-high sheet w passed (omega arith))
        ]

-- The same for the output that a building call left: what stands behind the table is what stood there before.
pub looked-up-built : (sheet output : List ℕ) (w : ℕ) → build_answer sheet output ≡ done []
    → look_up_answer sheet w (build_output sheet output) ≡ nearest_answer sheet w
unfolding written
looked-up-built sheet output w built =
    ap (look_up_answer sheet w) (sym (build-written sheet output (sym built))) ∙ looked-up sheet w (drop (length (table_of sheet)) output)
