-- A table that is filled digit by digit is the table of its sheet, and a look-up there is the nearest word.
--   Filled sheet b count table costs   so many classes are reached, and each has its lightest pattern of those below 2^b (specs Folding)
--   table_of sheet, look_up_answer        the table and the look-up of the paper (specs Answer)
-- `filled-` laws follow the code's turns, `table-` and `look-` laws are about the table and the look-up.
use Rattle.std.proofs.Common.{◌≡◌, refl, sym, ap, ap₂, ◌∙◌, subst, Bool, true, false, List, inl, ℕ, suc, ◌+◌, ◌-◌, ◌*◌, ◌%◌, ◌^◌, ◌≤◌, ◌<◌}
use Rattle.std.proofs.Common.{min, pow-suc, le_antisymm, lt_of_lt_of_le, add-one, arith, eq-eqb, ne_eqb, eqb-true, bit_xor, length, get_or}
use Rattle.std.proofs.Common.{replicate, pow_mono}
use mathlib.Core.Path.{subst⁻¹}
use native.Mathlib.Decide.{dec_lt}
use native.Mathlib.Nat.{le_dest, min-eq_left}
use lib.Bits.{xor_lt, xor_comm}
use lib.ListN.{length-replicate}
use Rattle.bits.specs.Bit.{pair_at}
use Rattle.bits.specs.Window.{at}
use Rattle.bits.specs.Sum.{flag}
use Rattle.bits.proofs.Sums.{sum-suc, sum-zero, sum-append, flag_true, flag-false}
use Rattle.inner_code.specs.Code.{combination}
use Rattle.inner_code.specs.Reduction.{reduced, reduced_by, with_echelon}
use Rattle.inner_code.specs.Sheet.{degree, row_count, row_of}
use Rattle.inner_code.proofs.EchelonForm.{reduced_by-stored, with_echelon-at, reduced-le}
use Rattle.inner_code.proofs.SheetChecks.{Sound}
use Rattle.tables.specs.Classes.{is_smallest, entry_of}
use Rattle.tables.specs.Answer.{table_bytes, table_of}
use Rattle.tables.specs.Numbering.{is_free, free_below, weight_of, squeezed, number_of, free_mask, squeezed_by}
use Rattle.tables.specs.Folding.{key_at, marked, Lightest, Puts, Copied, Folded, Marked, Filled}
use Rattle.tables.proofs.Numbers.{reduced-again, smallest-test, count-power, count-smallest, mask-digit, squeezed-mask}
use Rattle.tables.proofs.Numbers.{number-xor, number_lt, number-free, number-zero, number-codeword, number-coset, free-rank}
use Rattle.tables.proofs.Folds.{upper-sum, light-start, light-fold, light-first, light-second, light-small, light-entry}
use Rattle.tables.proofs.Entries.{smallest_below, entries-ext, length-entries}

module _ (sheet : List ℕ) (sound : Sound sheet) where
  abbrev row : ℕ → ℕ
  row = row_of sheet

  abbrev k : ℕ
  k = row_count sheet

  abbrev d : ℕ
  d = degree sheet

  abbrev number : ℕ → ℕ
  number = number_of row k

  -- ---- what the code makes of a checked sheet's echelon form

  module _ (basis : List ℕ) (echelon-is : basis ≡ with_echelon row k (replicate 11 0)) where
    rows-count : min k 11 ≡ k
    rows-count = min-eq_left sound.count-high

    stored : k ≤ length (replicate {A = ℕ} 11 0)
    stored = omega (arith, length-replicate {A = ℕ} 11 0, sound.count-high)

    pub left_is : (w : ℕ) → reduced_by (at basis) (min k 11) w ≡ reduced row k w
    left_is w =
        ap₂ (λ (l : List ℕ) (n : ℕ). reduced_by (at l) n w) echelon-is rows-count ∙ reduced_by-stored row k (replicate 11 0) w stored

    pub squeezed-is : (w : ℕ) → squeezed_by (free_mask (at basis) (min k 11)) 16 w ≡ squeezed row k w
    unfolding at
    squeezed-is w =
        ap (λ (n : ℕ). squeezed_by (free_mask (at basis) n) 16 w) rows-count
        ∙ squeezed-mask row k (free_mask (at basis) k) w
        (λ b h. mask-digit row (at basis) k b (λ i l. lt_of_lt_of_le (sound.rows-lt i l) (pow_mono sound.degree-high)) sound.rows_new
        (λ i l. ap (λ (m : List ℕ). get_or m i 0) echelon-is ∙ with_echelon-at row k (replicate 11 0) i l stored) h)

    -- the number of a word's class
    pub number_is : (w left : ℕ) → left ≡ reduced_by (at basis) (min k 11) w → squeezed_by (free_mask (at basis) (min k 11)) 16 left ≡ number w
    unfolding number_of
    number_is w left e = squeezed-is left ∙ ap (squeezed row k) (e ∙ left_is w)

  -- ---- how many classes there are

  free_all : free_below row k d ≡ d - k
  free_all = omega (arith, free-rank row k d sound.rows-lt sound.rows_new)

  free-suc : (b : ℕ) (t : Bool) → is_free row k b ≡ t → free_below row k (suc b) ≡ free_below row k b + flag t
  unfolding free_below
  free-suc b t e = sum-suc b (λ j. flag (is_free row k j)) ∙ ap (λ (u : Bool). free_below row k b + flag u) e

  -- no more digits are free below b than below d
  free-le : (b : ℕ) → b ≤ d → free_below row k b ≤ d - k
  unfolding free_below
  free-le b h =
      let rest : (c : ℕ) × (b + c ≡ d) = le_dest h in
      omega (
        arith,
        free_all,
        ap (free_below row k) (sym rest.1),
        sum-append b rest.0 (λ j. flag (is_free row k j)),
      )

  pub classes-le : (b : ℕ) → b ≤ d → 2 ^ free_below row k b ≤ 2 ^ (d - k)
  classes-le b h = pow_mono (free-le b h)

  pub classes-few : 2 ^ (d - k) ≤ 32768
  classes-few = pow_mono {j = 15} (omega (arith, sound.degree-high, sound.count_low))

  -- the number of a word's class
  pub number-low : (w : ℕ) → w < 2 ^ d → number w < 2 ^ (d - k)
  number-low w h = subst (λ (n : ℕ). number w < 2 ^ n) free_all (number_lt row k d w sound.degree-high h)

  -- the bytes that a table takes, as the code reckons them
  pub size_is : (dd kk : ℕ) → dd ≡ d → kk ≡ k → (2 * 2 ^ (dd - kk)) % 18446744073709551616 ≡ table_bytes sheet
  unfolding table_bytes
  size_is dd kk d-is k-is =
      let classes : 2 ^ (dd - kk) ≡ 2 ^ (d - k) = ap₂ (λ (x y : ℕ). 2 ^ (x - y)) d-is k-is in
      omega (arith, classes, classes-few)

  -- ---- the turns

  pub filled-start : (table costs after left : List ℕ) → Puts 0 0 table costs after left → Filled sheet 0 1 after left
  unfolding free_below
  filled-start table costs after left put =
      record {
        counted = sym (ap (λ (n : ℕ). 2 ^ n) none);
        each = λ c h.
            let first : c ≡ 0 = omega arith in
            subst (λ (x : ℕ). Lightest number 0 x (key_at after left x)) (sym first)
            (subst (Lightest number 0 0) (sym put.here) (light-start number (number-xor row k) (number-zero row k)));
      }
    where
      none : free_below row k 0 ≡ 0
      none = sum-zero (λ j. flag (is_free row k j))

  module _ (b count : ℕ) (b_lt : b < d) (table costs : List ℕ) (so : Filled sheet b count table costs) where
    b-low : b < 16
    b-low = omega (arith, sound.degree-high)

    few : (p : ℕ) → p < 2 ^ b → number p < 2 ^ free_below row k b
    few p h = number_lt row k b p (omega (arith, b-low)) h

    pub filled-small : (c : ℕ) → c < count → at costs c < 254
    unfolding key_at at
    filled-small c h = omega (arith, light-small (omega (arith, b-low)) (so.each c h))

    -- a free digit
    module _ (free : reduced row k (2 ^ b) ≡ 2 ^ b) where
      free-test : is_free row k b ≡ true
      unfolding is_free
      free-test = eq-eqb _ _ free

      wider : free_below row k (b + 1) ≡ suc (free_below row k b)
      wider = rw add-one (omega (arith, free-suc b true free-test, flag_true))

      pub doubled-room : 2 * count ≤ 2 ^ (d - k)
      doubled-room =
          omega (
            arith,
            so.counted,
            classes-le (b + 1) (omega arith),
            ap (λ (n : ℕ). 2 ^ n) wider,
            pow-suc 2 (free_below row k b),
          )

      pub filled-copied : (after left : List ℕ) (digit : ℕ) → digit ≡ 2 ^ b → ((i : ℕ) → get_or table i 0 < 256)
          → Copied count digit count table costs after left → Filled sheet (b + 1) (2 * count) after left
      unfolding key_at pair_at
      filled-copied after left digit is bytes so-copied =
          record {
            counted = omega (arith, so.counted, ap (λ (n : ℕ). 2 ^ n) wider, pow-suc 2 (free_below row k b));
            each = λ c h. rw add-one (elim (dec_lt c count) [
              | yes l ↦
                  subst (Lightest number (suc b) c)
                  (sym (ap₂ (λ (x y : ℕ). x * 65536 + y) (so-copied.kept-cost c l)
                  (ap₂ (λ (x y : ℕ). x * 256 + y) (so-copied.kept_byte (2 * c) (omega arith)) (so-copied.kept_byte (2 * c + 1) (omega arith)))))
                  (light-first number (number-xor row k) b (free_below row k b) digit-is few (omega (arith, so.counted)) (so.each c l))
              | no l ↦
                  let rest : (m : ℕ) × (count + m ≡ c) = le_dest (omega arith) in
                  let low : rest.0 < count = omega (arith, rest.1) in
                  let place : 2 ^ free_below row k b + rest.0 ≡ c = omega (arith, rest.1, so.counted) in
                  subst (λ (x : ℕ). Lightest number (suc b) x (key_at after left c)) place
                  (subst (Lightest number (suc b) (2 ^ free_below row k b + rest.0))
                  (sym (ap (key_at after left) (sym rest.1) ∙ put rest.0 low))
                  (light-second number (number-xor row k) b (free_below row k b) digit-is few (so.each rest.0 low)))
            ]);
          }
        where
          digit-is : number (2 ^ b) ≡ 2 ^ free_below row k b
          digit-is = number-free row k b b-low free-test

          -- the digit is put on a pattern that has none so high
          put : (c : ℕ) → c < count → key_at after left (count + c) ≡ key_at table costs c + (131072 + 2 ^ b)
          put c h =
              let key = so.each c h in
              let low : pair_at table (2 * c) < 65536 = omega (arith, bytes (2 * c), bytes (2 * c + 1)) in
              let own : pair_at table (2 * c) ≡ key.pattern =
              omega (arith, low, key.is, key.low, pow_mono {i = b} {j = 16} (omega (arith, b-low))) in
              let small : pair_at table (2 * c) < 2 ^ b = omega (arith, own, key.low) in
              ap₂ (λ (x y : ℕ). x * 65536 + y) (so-copied.new-cost c h)
              (so-copied.new-pair c h ∙ ap (bit_xor (pair_at table (2 * c))) is ∙ xor_comm (pair_at table (2 * c)) (2 ^ b)
              ∙ sym (upper-sum b (pair_at table (2 * c)) small))
              ∙ omega arith

    -- a digit that is not free
    module _ (taken : reduced row k (2 ^ b) ≡ 2 ^ b → ⊥) (apart : ℕ) (apart-is : apart ≡ number (2 ^ b)) where
      taken-test : is_free row k b ≡ false
      unfolding is_free
      taken-test = ne_eqb _ _ taken

      -- of 2^b the rows leave a smaller word, and so its class is one of those reached
      apart-lt : number (2 ^ b) < 2 ^ free_below row k b
      unfolding number_of
      apart-lt =
          let left : reduced row k (2 ^ b) < 2 ^ b =
          elim (dec_lt (reduced row k (2 ^ b)) (2 ^ b)) [
            | yes l ↦ l
            | no l ↦ absurd (taken (le_antisymm (reduced-le row k (2 ^ b)) (omega arith)))
          ] in
          subst (λ (x : ℕ). squeezed row k x < 2 ^ free_below row k b) (reduced-again row k (2 ^ b)) (few (reduced row k (2 ^ b)) left)

      pub folded-apart : (c : ℕ) → c < count → bit_xor c apart < count
      folded-apart c h =
          rw (so.counted, apart-is) (xor_lt (free_below row k b) c (number (2 ^ b)) (omega (arith, so.counted, h)) apart-lt)

      pub filled-folded : (after left : List ℕ) (digit : ℕ) → digit ≡ 2 ^ b → Folded count apart digit count table costs after left
          → Filled sheet (b + 1) count after left
      filled-folded after left digit is so-folded =
          let folded = subst (λ (x : ℕ). Folded count apart x count table costs after left) is so-folded in
          record {
            counted = so.counted ∙ ap (λ (n : ℕ). 2 ^ n) same;
            each = λ c h. rw add-one
                (let there = subst (λ (a : ℕ). Lightest number b (bit_xor c a) (key_at table costs (bit_xor c apart))) apart-is
                (so.each (bit_xor c apart) (folded-apart c h)) in
                subst (Lightest number (suc b) c) (sym (folded.new c h (inl h)))
                (light-fold number (number-xor row k) b c b-low (so.each c h) there));
          }
        where
          same : free_below row k b ≡ free_below row k (b + 1)
          same = rw add-one (omega (arith, free-suc b false taken-test, flag-false))

  -- ---- the table

  -- a smallest word's place is the number of its class
  smallest-number : (s : ℕ) → s < 2 ^ d → is_smallest row k s ≡ true → smallest_below row k s ≡ number s
  unfolding number_of squeezed
  smallest-number s h e =
      let own : reduced row k s ≡ s = eqb-true _ _ (sym (smallest-test row k s) ∙ e) in
      count-smallest row k 16 s (omega (arith, h, pow_mono sound.degree-high)) own
      ∙ ap (combination (weight_of row k) 16) (sym own)

  pub table-length : length (table_of sheet) ≡ table_bytes sheet
  unfolding table_of table_bytes
  table-length =
      length-entries row k d (2 ^ d) ∙ ap (λ (n : ℕ). 2 * n) (count-power row k d ∙ ap (λ (n : ℕ). 2 ^ n) free_all)

  pub filled-table : (count : ℕ) (table costs after : List ℕ) → Filled sheet d count table costs → Marked count table costs after
      → ((i : ℕ) → get_or table i 0 < 256) → ((i : ℕ) → get_or after i 0 < 256) → length after ≡ table_bytes sheet → after ≡ table_of sheet
  unfolding table_of table_bytes key_at pair_at
  filled-table count table costs after so mark bytes after-bytes size =
      entries-ext row k d (2 ^ d) after
      (size ∙ sym (ap (λ (n : ℕ). 2 * n) (count-power row k d ∙ ap (λ (n : ℕ). 2 ^ n) free_all))) after-bytes entry
    where
      entry : (s : ℕ) → s < 2 ^ d → is_smallest row k s ≡ true → pair_at after (2 * smallest_below row k s) ≡ entry_of row k d s
      entry s h e =
          let place = smallest-number s h e in
          let low : number s < count = omega (arith, so.counted, number_lt row k d s sound.degree-high h) in
          let key = so.each (number s) low in
          ap (λ (c : ℕ). pair_at after (2 * c)) place ∙ mark.new (number s) low
          ∙ ap₂ marked (omega (arith, bytes (2 * number s), bytes (2 * number s + 1))) (omega (arith, bytes (2 * number s), bytes (2 * number s + 1)))
          ∙ light-entry row k d sound.degree-high sound.rows-lt number
          (λ v w hv hw. number-codeword row k v w (omega (arith, hv, pow_mono sound.degree-high)) (omega (arith, hw, pow_mono sound.degree-high)))
          (number-coset row k) s h refl key

  -- the same lists and count by other names
  pub filled-same : {b : ℕ} (count : ℕ) (table costs : List ℕ) (n : ℕ) (after left : List ℕ) → n ≡ count → after ≡ table → left ≡ costs
      → Filled sheet b count table costs → Filled sheet b n after left
  filled-same {b = b} count table costs n after left e f g so =
      subst⁻¹ (λ (m : ℕ). Filled sheet b m after left) e
      (subst⁻¹ (λ (l : List ℕ). Filled sheet b count l left) f (subst⁻¹ (λ (l : List ℕ). Filled sheet b count table l) g so))
