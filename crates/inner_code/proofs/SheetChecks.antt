-- The sheet's place in the table of refusals, row by row, and what an accepted sheet is.
--   row_check, rows_check       one row by 5 and 6, and the first faulty one below n
--   Sound sheet               what holds of an accepted sheet
--   Accepted sheet basis s  what a caller learns from a check over zeros that accepts
-- `row-` laws give one row's outcome, `rows-` laws that of the rows so far, `sound-` laws the two directions of acceptance.
use Rattle.std.proofs.Common.{Result, Ok, Err, ◌≡◌, refl, sym, ap, ◌∙◌, subst, ◌⊎◌, ⊎_elim, Bool, false, not, ◌||◌, List, [], ◌∷◌, ℕ, zero}
use Rattle.std.proofs.Common.{suc, ◌+◌, ◌*◌, ◌^◌, ◌≤◌, ◌<◌, not-suc-le-zero, lt-suc_self, add-one, arith, le-leb, leb-false, ltb-false}
use Rattle.std.proofs.Common.{lt-ltb, le-ltb, eq-eqb, ne_eqb, eqb-true, ltb, leb, eqb, length, get_or, replicate}
use mathlib.Core.Bool.{false≢true}
use native.Mathlib.Nat.{le-suc_iff, suc_inj, le_step}
use borrow.Author.Tests.{lt-leb, not-false}
use Rattle.inner_code.specs.Reply.{Reply, done, refused, refuse_if, and_then}
use Rattle.inner_code.specs.Refusal.{number_of, place_of}
use Rattle.inner_code.specs.Code.{is_codeword}
use Rattle.inner_code.specs.Reduction.{reduced, with_echelon}
use Rattle.inner_code.specs.Sheet.{degree, row_count, row_of, row_check, rows_check, sheet_check}
use Rattle.inner_code.specs.Checking.{sheet_answer, rows_answer, sound_rows, sheet_reply, SheetInto}
use Rattle.inner_code.specs.declared.refusal.Refusal.{Refusal}
use Rattle.inner_code.specs.declared.sheet.Sheet.{Sheet}
use Rattle.bits.proofs.Tests.{or_left, or_right, or-neither}
use Rattle.inner_code.proofs.Replies.{refuse-taken, refuse-passed, refuse-done, and_then-passed, and_then-refused, and_then-done, and_then-back}
use Rattle.inner_code.proofs.EchelonForm.{codeword-test, reduced-codeword}

-- ---- one row

pub row-high : (d : ℕ) (row : ℕ → ℕ) (i : ℕ) → 2 ^ d ≤ row i → row_check d row i ≡ refused 5 i
unfolding row_check
row-high d row i h = refuse-taken _ 5 i _ (le-leb _ _ h)

pub row_made : (d : ℕ) (row : ℕ → ℕ) (i : ℕ) → row i < 2 ^ d → reduced row i (row i) ≡ 0 → row_check d row i ≡ refused 6 i
unfolding row_check
row_made d row i h z = refuse-passed _ 5 i _ (lt-leb _ _ h) ∙ refuse-taken _ 6 i _ (codeword-test row i (row i) ∙ eq-eqb _ 0 z)

pub row-sound : (d : ℕ) (row : ℕ → ℕ) (i : ℕ) → row i < 2 ^ d → (reduced row i (row i) ≡ 0 → ⊥) → row_check d row i ≡ done []
unfolding row_check
row-sound d row i h z = refuse-passed _ 5 i _ (lt-leb _ _ h) ∙ refuse-passed _ 6 i _ (codeword-test row i (row i) ∙ ne_eqb _ 0 z)

pub row-passed : (d : ℕ) (row : ℕ → ℕ) (i : ℕ) → row_check d row i ≡ done [] → (row i < 2 ^ d) × (is_codeword row i (row i) ≡ false)
unfolding row_check
row-passed d row i e =
    let a = refuse-done _ 5 i _ [] e in
    let b = refuse-done _ 6 i _ [] a.1 in
    (leb-false _ _ a.0, b.0)

row_done : (d : ℕ) (row : ℕ → ℕ) (i : ℕ) (values : List ℕ) → row_check d row i ≡ done values → row_check d row i ≡ done []
unfolding row_check
row_done d row i values e =
    let made = is_codeword row i (row i) in
    let a = refuse-done (leb (2 ^ d) (row i)) 5 i (refuse_if made 6 i (done [])) values e in
    let b = refuse-done made 6 i (done []) values a.1 in
    refuse-passed (leb (2 ^ d) (row i)) 5 i (refuse_if made 6 i (done [])) a.0 ∙ refuse-passed made 6 i (done []) b.0

-- ---- the rows so far

pub rows-one-more : (d : ℕ) (row : ℕ → ℕ) (i : ℕ) → rows_check d row i ≡ done [] → row_check d row i ≡ done [] → rows_check d row (i + 1) ≡ done []
unfolding rows_check
rows-one-more d row i before this = rw add-one (and_then-passed _ _ [] before ∙ this)

pub rows-refused : (d : ℕ) (row : ℕ → ℕ) (i n p k : ℕ) → rows_check d row i ≡ done [] → row_check d row i ≡ refused n p → i < k
    → rows_check d row k ≡ refused n p
unfolding rows_check
rows-refused d row i n p zero before this h = absurd (not-suc-le-zero h)
rows-refused d row i n p (suc k) before this h =
    ⊎_elim (λ (l : suc i ≤ k). and_then-refused _ _ n p (rows-refused d row i n p k before this l))
    (λ (e : suc i ≡ suc k).
    subst (λ (j : ℕ). and_then (rows_check d row j) (row_check d row j) ≡ refused n p) (suc_inj e) (and_then-passed _ _ [] before ∙ this))
    (le-suc_iff.0 h)

rows-done : (d : ℕ) (row : ℕ → ℕ) (k : ℕ) (values : List ℕ) → rows_check d row k ≡ done values → (i : ℕ) → i < k → row_check d row i ≡ done []
unfolding rows_check
rows-done d row zero values e i h = absurd (not-suc-le-zero h)
rows-done d row (suc k) values e i h =
    let t = and_then-done (rows_check d row k) (row_check d row k) values e in
    ⊎_elim (λ (l : suc i ≤ k). rows-done d row k t.0.0 t.0.1 i l)
    (λ (q : suc i ≡ suc k). subst (λ (j : ℕ). row_check d row j ≡ done []) (sym (suc_inj q)) (row_done d row k values t.1)) (le-suc_iff.0 h)

-- ---- the answers for the rows

pub rows-answer-refused : (sheet : List ℕ) (d k n p : ℕ) → rows_check d (row_of sheet) k ≡ refused n p → rows_answer sheet d k ≡ refused n p
unfolding rows_answer
rows-answer-refused sheet d k n p e = and_then-refused _ _ n p e

pub rows-answer-done : (sheet : List ℕ) (d k : ℕ) → rows_check d (row_of sheet) k ≡ done [] → rows_answer sheet d k ≡ done (d ∷ k ∷ [])
unfolding rows_answer
rows-answer-done sheet d k e = and_then-passed _ _ [] e

-- ---- the sheet's answer, test by test

or-none : (a b : Bool) → a ≡ false → b ≡ false → (a || b) ≡ false
or-none a b p q = rw p q

module _ (sheet : List ℕ) where
  bad_degree : Bool
  bad_degree = ltb (degree sheet) 2 || ltb 16 (degree sheet)

  bad_count : Bool
  bad_count = ltb (row_count sheet) 1 || (ltb 11 (row_count sheet) || ltb (degree sheet) (row_count sheet))

  bad_length : Bool
  bad_length = not (eqb (length sheet) (2 + 2 * row_count sheet))

  from_rows : Reply
  from_rows = rows_check (degree sheet) (row_of sheet) (row_count sheet)

  from_length : Reply
  from_length = refuse_if bad_length 4 0 from_rows

  from_count : Reply
  from_count = refuse_if bad_count 3 0 from_length

  from_degree : Reply
  from_degree = refuse_if bad_degree 2 0 from_count

  by_parts : sheet_check sheet ≡ refuse_if (ltb (length sheet) 2) 1 0 from_degree
  unfolding sheet_check from_degree from_count from_length from_rows bad_degree bad_count bad_length
  by_parts = refl

  answer-refused : (n p : ℕ) → sheet_check sheet ≡ refused n p → sheet_answer sheet ≡ refused n p
  unfolding sheet_answer
  answer-refused n p e = and_then-refused _ _ n p e

  pub sheet-short : length sheet < 2 → sheet_answer sheet ≡ refused 1 0
  sheet-short h = answer-refused 1 0 (by_parts ∙ refuse-taken _ 1 0 _ (lt-ltb _ _ h))

  module _ (long : 2 ≤ length sheet) where
    past-length : sheet_check sheet ≡ from_degree
    past-length = by_parts ∙ refuse-passed _ 1 0 _ (le-ltb _ _ long)

    pub sheet-degree : (degree sheet < 2) ⊎ (16 < degree sheet) → sheet_answer sheet ≡ refused 2 0
    unfolding bad_degree from_degree
    sheet-degree h =
        answer-refused 2 0 (past-length
        ∙ refuse-taken bad_degree 2 0 _
        (⊎_elim (λ (l : degree sheet < 2). or_left _ _ (lt-ltb _ _ l))
        (λ (l : 16 < degree sheet). or_right (ltb (degree sheet) 2) _ (lt-ltb _ _ l)) h))

    module _ (low : 2 ≤ degree sheet) (high : degree sheet ≤ 16) where
      past-degree : sheet_check sheet ≡ from_count
      unfolding bad_degree from_degree
      past-degree = past-length ∙ refuse-passed bad_degree 2 0 _ (or-none _ _ (le-ltb _ _ low) (le-ltb _ _ high))

      pub sheet-count : (row_count sheet < 1) ⊎ ((11 < row_count sheet) ⊎ (degree sheet < row_count sheet)) → sheet_answer sheet ≡ refused 3 0
      unfolding bad_count from_count
      sheet-count h =
          answer-refused 3 0 (past-degree
          ∙ refuse-taken bad_count 3 0 _
          (⊎_elim (λ (l : row_count sheet < 1). or_left _ _ (lt-ltb _ _ l))
          (⊎_elim (λ (l : 11 < row_count sheet). or_right (ltb (row_count sheet) 1) _ (or_left _ _ (lt-ltb _ _ l)))
          (λ (l : degree sheet < row_count sheet). or_right (ltb (row_count sheet) 1) _ (or_right (ltb 11 (row_count sheet)) _ (lt-ltb _ _ l)))) h))

      module _ (some : 1 ≤ row_count sheet) (few : row_count sheet ≤ 11) (fit : row_count sheet ≤ degree sheet) where
        past-count : sheet_check sheet ≡ from_length
        unfolding bad_count from_count
        past-count =
            past-degree
            ∙ refuse-passed bad_count 3 0 _ (or-none _ _ (le-ltb _ _ some) (or-none _ _ (le-ltb _ _ few) (le-ltb _ _ fit)))

        pub sheet-length : (length sheet ≡ 2 + 2 * row_count sheet → ⊥) → sheet_answer sheet ≡ refused 4 0
        unfolding bad_length from_length
        sheet-length h = answer-refused 4 0 (past-count ∙ refuse-taken bad_length 4 0 _ (ap not (ne_eqb _ _ h)))

        module _ (sized : length sheet ≡ 2 + 2 * row_count sheet) where
          pub sheet-rows : sheet_check sheet ≡ rows_check (degree sheet) (row_of sheet) (row_count sheet)
          unfolding bad_length from_length from_rows
          sheet-rows = past-count ∙ refuse-passed bad_length 4 0 _ (ap not (eq-eqb _ _ sized))

          pub sheet-rows-answer : sheet_answer sheet ≡ rows_answer sheet (degree sheet) (row_count sheet)
          unfolding sheet_answer rows_answer
          sheet-rows-answer = ap (λ (r : Reply). and_then r (done (degree sheet ∷ row_count sheet ∷ []))) sheet-rows

-- a refusal that is about no row leaves the list as it was
pub refused-into : (sheet before : List ℕ) (f : Refusal) → place_of f ≡ 0 → sheet_answer sheet ≡ refused (number_of f) 0 → SheetInto sheet before (Err f) before
unfolding with_echelon
refused-into sheet before f e a =
    record { answer = ap (refused (number_of f)) e ∙ sym a; rows = ap (λ (n : ℕ). with_echelon (row_of sheet) n before) (sym e) }

-- ---- acceptance, both ways

pub record Sound (sheet : List ℕ) : Type 0 where
  pub degree-low : 2 ≤ degree sheet
  pub degree-high : degree sheet ≤ 16
  pub count_low : 1 ≤ row_count sheet
  pub count-high : row_count sheet ≤ 11
  pub count-degree : row_count sheet ≤ degree sheet
  pub sized : length sheet ≡ 2 + 2 * row_count sheet
  pub rows-lt : (i : ℕ) → i < row_count sheet → row_of sheet i < 2 ^ degree sheet
  pub rows_new : (i : ℕ) → i < row_count sheet → is_codeword (row_of sheet) i (row_of sheet i) ≡ false

-- an accepted sheet is sound
pub sound : (sheet values : List ℕ) → sheet_check sheet ≡ done values → Sound sheet
unfolding sheet_check
sound sheet values e =
    record {
      degree-low = ltb-false _ _ wide.0;
      degree-high = ltb-false _ _ wide.1;
      count_low = ltb-false _ _ counted.0;
      count-high = ltb-false _ _ few.0;
      count-degree = ltb-false _ _ few.1;
      sized = eqb-true _ _ (not-false _ h.0);
      rows-lt = λ i l. (row-passed d (row_of sheet) i (rows-done d (row_of sheet) k values h.1 i l)).0;
      rows_new = λ i l. (row-passed d (row_of sheet) i (rows-done d (row_of sheet) k values h.1 i l)).1;
    }
  where
    d : ℕ
    d = degree sheet

    k : ℕ
    k = row_count sheet

    fourth : Reply
    fourth = refuse_if (not (eqb (length sheet) (2 + 2 * k))) 4 0 (rows_check d (row_of sheet) k)

    third : Reply
    third = refuse_if (ltb k 1 || (ltb 11 k || ltb d k)) 3 0 fourth

    second : Reply
    second = refuse_if (ltb d 2 || ltb 16 d) 2 0 third

    a : (ltb (length sheet) 2 ≡ false) × (second ≡ done values)
    a = refuse-done (ltb (length sheet) 2) 1 0 second values e

    b : ((ltb d 2 || ltb 16 d) ≡ false) × (third ≡ done values)
    b = refuse-done (ltb d 2 || ltb 16 d) 2 0 third values a.1

    g : ((ltb k 1 || (ltb 11 k || ltb d k)) ≡ false) × (fourth ≡ done values)
    g = refuse-done (ltb k 1 || (ltb 11 k || ltb d k)) 3 0 fourth values b.1

    wide : (ltb d 2 ≡ false) × (ltb 16 d ≡ false)
    wide = or-neither (ltb d 2) (ltb 16 d) b.0

    counted : (ltb k 1 ≡ false) × ((ltb 11 k || ltb d k) ≡ false)
    counted = or-neither (ltb k 1) _ g.0

    few : (ltb 11 k ≡ false) × (ltb d k ≡ false)
    few = or-neither (ltb 11 k) (ltb d k) counted.1

    h : (not (eqb (length sheet) (2 + 2 * k)) ≡ false) × (rows_check d (row_of sheet) k ≡ done values)
    h = refuse-done (not (eqb (length sheet) (2 + 2 * k))) 4 0 (rows_check d (row_of sheet) k) values g.1

rows_back : (d : ℕ) (row : ℕ → ℕ) (k : ℕ) → ((i : ℕ) → i < k → (row i < 2 ^ d) × (is_codeword row i (row i) ≡ false)) → rows_check d row k ≡ done []
unfolding rows_check
rows_back d row zero h = refl
rows_back d row (suc k) h =
    let now = h k (lt-suc_self k) in
    and_then-passed _ _ [] (rows_back d row k (λ i l. h i (le_step l)))
    ∙ row-sound d row k now.0 (λ z. false≢true (sym now.1 ∙ reduced-codeword row k (row k) z))

-- a sound sheet is accepted
pub sound-accepted : (sheet : List ℕ) → Sound sheet → sheet_check sheet ≡ done []
sound-accepted sheet s =
    sheet-rows sheet (omega (arith, s.sized)) s.degree-low s.degree-high s.count_low s.count-high s.count-degree s.sized
    ∙ rows_back (degree sheet) (row_of sheet) (row_count sheet) (λ i l. (s.rows-lt i l, s.rows_new i l))

-- ---- what a caller of the check learns

pub record Accepted (sheet basis : List ℕ) (s : Sheet) : Type 0 where
  pub sheet-sound : Sound sheet
  pub sheet-done : sheet_check sheet ≡ done []
  pub d-is : s.d ≡ degree sheet
  pub k-is : s.k ≡ row_count sheet
  pub basis-is : basis ≡ with_echelon (row_of sheet) (row_count sheet) (replicate 11 0)

first_of : Reply → ℕ
first_of (done values) = get_or values 0 0
first_of (refused n p) = 0

second-of : Reply → ℕ
second-of (done values) = get_or values 1 0
second-of (refused n p) = 0

pub accepted : {sheet basis : List ℕ} {r : Result Sheet Refusal} {s : Sheet} → SheetInto sheet (replicate 11 0) r basis → r ≡ Ok s
    → Accepted sheet basis s
unfolding sheet_answer first_of second-of
accepted {sheet} {basis} {r} {s} c e =
    record {
      sheet-sound = is-sound;
      sheet-done = sound-accepted sheet is-sound;
      d-is = ap first_of (answer ∙ and_then-passed _ _ _ t.0.1);
      k-is = count;
      basis-is = c.rows ∙ ap (λ (n : ℕ). with_echelon (row_of sheet) n (replicate 11 0)) (ap sound_rows e ∙ count);
    }
  where
    answer : done (s.d ∷ s.k ∷ []) ≡ and_then (sheet_check sheet) (done (degree sheet ∷ row_count sheet ∷ []))
    answer = sym (ap sheet_reply e) ∙ c.answer

    t : ((passed : List ℕ) × (sheet_check sheet ≡ done passed)) × (done (degree sheet ∷ row_count sheet ∷ []) ≡ done (s.d ∷ s.k ∷ []))
    t = and_then-done (sheet_check sheet) (done (degree sheet ∷ row_count sheet ∷ [])) (s.d ∷ s.k ∷ []) (sym answer)

    count : s.k ≡ row_count sheet
    count = ap second-of (answer ∙ and_then-passed _ _ _ t.0.1)

    is-sound : Sound sheet
    is-sound = sound sheet t.0.0 t.0.1

pub turned-back : {sheet before after : List ℕ} {r : Result Sheet Refusal} {f : Refusal} → SheetInto sheet before r after → r ≡ Err f
    → sheet_check sheet ≡ refused (number_of f) (place_of f)
unfolding sheet_answer
turned-back {sheet} c e = and_then-back (sheet_check sheet) _ _ _ (sym c.answer ∙ ap sheet_reply e)

-- ---- a sheet's d and k are its first two bytes

pub degree-byte : (sheet : List ℕ) → get_or sheet 0 0 ≡ degree sheet
unfolding degree
degree-byte sheet = refl

pub count-byte : (sheet : List ℕ) → get_or sheet 1 0 ≡ row_count sheet
unfolding row_count
count-byte sheet = refl
