-- The entries of a table, by the smallest words of their classes.
--   entries_below row k d n   the entries of the classes whose smallest word is below n, two bytes each (specs Classes)
--   smallest_below n          how many smallest words are below n
-- `entries-` laws are about that list, `smallest-` laws about the smallest words.
use Rattle.std.proofs.Common.{◌≡◌, refl, sym, ap, ◌∙◌, Bool, true, false, cond, List, [], ◌∷◌, ◌++◌, ℕ, zero, suc, ◌+◌, ◌*◌, ◌/◌, ◌%◌, ◌<◌}
use Rattle.std.proofs.Common.{not-suc-le-zero, arith, length, get_or, length-append, ext_get_or, get_or-append-add}
use native.Mathlib.Decide.{dec_lt}
use lib.ListN.{get_or-append}
use Rattle.bits.specs.Bit.{pair_at}
use Rattle.bits.specs.Sum.{sum, flag}
use Rattle.bits.proofs.Sums.{sum-suc, sum-zero, flag_true, flag-false}
use Rattle.tables.specs.Classes.{is_smallest, entry_of, entries_below}

module _ (row : ℕ → ℕ) (k : ℕ) where
  abbrev pub smallest_below : ℕ → ℕ
  smallest_below n = sum n (λ v. flag (is_smallest row k v))

  smallest-suc : (n : ℕ) (t : Bool) → is_smallest row k n ≡ t → smallest_below (suc n) ≡ smallest_below n + flag t
  smallest-suc n t e = sum-suc n (λ v. flag (is_smallest row k v)) ∙ ap (λ (u : Bool). smallest_below n + flag u) e

  -- below a number beyond it there is one more than below a smallest word
  pub smallest-lt : (n s : ℕ) → s < n → is_smallest row k s ≡ true → smallest_below s < smallest_below n
  smallest-lt zero s h e = absurd (not-suc-le-zero h)
  smallest-lt (suc n) s h e =
      elim (dec_lt s n) [
        | yes l ↦ omega (arith, smallest-lt n s l e, smallest-suc n (is_smallest row k n) refl)
        | no l ↦
            let is : s ≡ n = omega arith in
            omega (arith, ap smallest_below is, smallest-suc n true (ap (is_smallest row k) (sym is) ∙ e), flag_true)
      ]

  -- every number below their count is the number of a smallest word
  pub smallest-at : (n c : ℕ) → c < smallest_below n → (s : ℕ) × (s < n) × (is_smallest row k s ≡ true) × (smallest_below s ≡ c)
  smallest-at zero c h = absurd (omega (arith, sum-zero (λ v. flag (is_smallest row k v))))
  smallest-at (suc n) c h =
      go (λ l. let (s, s-lt, e, is) = smallest-at n c l in (s, omega arith, e, is)) (is_smallest row k n) refl
    where
      go : (c < smallest_below n → (s : ℕ) × (s < suc n) × (is_smallest row k s ≡ true) × (smallest_below s ≡ c)) → (t : Bool)
          → is_smallest row k n ≡ t → (s : ℕ) × (s < suc n) × (is_smallest row k s ≡ true) × (smallest_below s ≡ c)
      go before true e =
          elim (dec_lt c (smallest_below n)) [
            | yes l ↦ before l
            | no l ↦ (n, omega arith, e, omega (arith, h, smallest-suc n true e, flag_true))
          ]
      go before false e = before (omega (arith, h, smallest-suc n false e, flag-false))

  module _ (d : ℕ) where
    pair_of : ℕ → List ℕ
    pair_of w = entry_of row k d w / 256 ∷ entry_of row k d w % 256 ∷ []

    entries-suc : (n : ℕ) (t : Bool) → is_smallest row k n ≡ t → entries_below row k d (suc n) ≡ entries_below row k d n ++ cond t (pair_of n) []
    unfolding entries_below pair_of
    entries-suc n t e = ap (λ (u : Bool). entries_below row k d n ++ cond u (pair_of n) []) e

    pub length-entries : (n : ℕ) → length (entries_below row k d n) ≡ 2 * smallest_below n
    unfolding entries_below pair_of
    length-entries zero = omega (arith, sum-zero (λ v. flag (is_smallest row k v)))
    length-entries (suc n) = go (length-entries n) (is_smallest row k n) refl
      where
        go : length (entries_below row k d n) ≡ 2 * smallest_below n → (t : Bool) → is_smallest row k n ≡ t → length (entries_below row k d (suc n)) ≡ 2 * smallest_below (suc n)
        go before true e =
            ap length (entries-suc n true e) ∙ length-append (entries_below row k d n) (pair_of n)
            ∙ omega (arith, before, smallest-suc n true e, flag_true)
        go before false e =
            ap length (entries-suc n false e) ∙ length-append (entries_below row k d n) []
            ∙ omega (arith, before, smallest-suc n false e, flag-false)

    -- the two bytes of a smallest word's class
    entries-byte : (n s i : ℕ) → i < 2 → s < n → is_smallest row k s ≡ true
        → get_or (entries_below row k d n) (2 * smallest_below s + i) 0 ≡ get_or (pair_of s) i 0
    entries-byte zero s i two h e = absurd (not-suc-le-zero h)
    entries-byte (suc n) s i two h e =
        ap (λ (l : List ℕ). get_or l (2 * smallest_below s + i) 0) (entries-suc n (is_smallest row k n) refl)
        ∙ elim (dec_lt s n) [
          | yes l ↦
              get_or-append (entries_below row k d n) (cond (is_smallest row k n) (pair_of n) []) 0 (2 * smallest_below s + i)
              (omega (arith, length-entries n, smallest-lt n s l e))
              ∙ entries-byte n s i two l e
          | no l ↦
              let is : s ≡ n = omega arith in
              let last : is_smallest row k n ≡ true = ap (is_smallest row k) (sym is) ∙ e in
              let behind : 2 * smallest_below s + i ≡ length (entries_below row k d n) + i = omega (arith, length-entries n, ap smallest_below is) in
              ap (λ (t : Bool). get_or (entries_below row k d n ++ cond t (pair_of n) []) (2 * smallest_below s + i) 0) last
              ∙ ap (λ (j : ℕ). get_or (entries_below row k d n ++ pair_of n) j 0) behind
              ∙ get_or-append-add (entries_below row k d n) (pair_of n) i 0
              ∙ ap (λ (w : ℕ). get_or (pair_of w) i 0) (sym is)
        ]

    -- the entry of a smallest word's class, whatever stands behind
    pub entries-pair : (n s : ℕ) (rest : List ℕ) → s < n → is_smallest row k s ≡ true
        → pair_at (entries_below row k d n ++ rest) (2 * smallest_below s) ≡ entry_of row k d s
    unfolding pair_at pair_of
    entries-pair n s rest h e =
        let room : 2 * smallest_below s < length (entries_below row k d n) = omega (arith, length-entries n, smallest-lt n s h e) in
        let start : 2 * smallest_below s ≡ 2 * smallest_below s + 0 = omega arith in
        let first : get_or (entries_below row k d n ++ rest) (2 * smallest_below s) 0 ≡ entry_of row k d s / 256 =
        get_or-append (entries_below row k d n) rest 0 (2 * smallest_below s) room
        ∙ ap (λ (j : ℕ). get_or (entries_below row k d n) j 0) start ∙ entries-byte n s 0 (omega arith) h e in
        let second : get_or (entries_below row k d n ++ rest) (2 * smallest_below s + 1) 0 ≡ entry_of row k d s % 256 =
        get_or-append (entries_below row k d n) rest 0 (2 * smallest_below s + 1) (omega (arith, length-entries n, smallest-lt n s h e))
        ∙ entries-byte n s 1 (omega arith) h e in
        omega (arith, first, second)

    -- a list of bytes with these entries is this list
    pub entries-ext : (n : ℕ) (l : List ℕ) → length l ≡ 2 * smallest_below n → ((i : ℕ) → get_or l i 0 < 256)
        → ((s : ℕ) → s < n → is_smallest row k s ≡ true → pair_at l (2 * smallest_below s) ≡ entry_of row k d s) → l ≡ entries_below row k d n
    unfolding pair_at pair_of
    entries-ext n l size bytes each =
        ext_get_or 0 l (entries_below row k d n) (size ∙ sym (length-entries n)) (λ i h. go i (omega (arith, size, h)))
      where
        byte : (j s : ℕ) → j < 2 → pair_at l (2 * smallest_below s) ≡ entry_of row k d s → get_or l (2 * smallest_below s + j) 0 ≡ get_or (pair_of s) j 0
        byte zero s h entry =
            let start : 2 * smallest_below s + 0 ≡ 2 * smallest_below s = omega arith in
            ap (λ (i : ℕ). get_or l i 0) start ∙ omega (arith, entry, bytes (2 * smallest_below s + 1))
        byte (suc zero) s h entry = omega (arith, entry, bytes (2 * smallest_below s + 1))
        byte (suc (suc j)) s h entry = absurd (omega arith)

        go : (i : ℕ) → i < 2 * smallest_below n → get_or l i 0 ≡ get_or (entries_below row k d n) i 0
        go i h =
            let (s, s-lt, e, is) = smallest-at n (i / 2) (omega arith) in
            let at : i ≡ 2 * smallest_below s + i % 2 = omega (arith, is) in
            ap (λ (j : ℕ). get_or l j 0) at ∙ byte (i % 2) s (omega arith) (each s s-lt e)
            ∙ sym (ap (λ (j : ℕ). get_or (entries_below row k d n) j 0) at ∙ entries-byte n s (i % 2) (omega arith) s-lt e)
