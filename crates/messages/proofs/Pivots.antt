-- One check on the stored rows: the set of the rows that fail it, its lowest row, and that row put on all of them.
--   row_bit columns p e              bit e of row p, for p below 512 (specs Columns)
--   ColumnPut from a to b left      `left` is `to` with column a of `from` put on its column b (specs Columns)
--   check_of name .. m               check m of a side as the code holds it (specs Columns)
--   check_value i check f            its value on the vector f, by the first i edges of the vertex (specs Columns)
--   FailSet i check .. hits         column 0 of `hits` is the set of the rows on which that is 1 (specs Columns)
--   lowest_row hits N                the lowest row of column 0, N where it has none below N (specs Columns)
--   Spread N p hits columns left    `left` is `columns` with row p put on every row of `hits` (specs Columns)
--   Stores N s columns              the columns hold the rows of the state s (specs Columns)
--   CheckMade .. columns left       `left` holds the rows of `columns` after one check more (specs Columns)
--   Fitted, Permuted                a side that fits a wiring, and a wiring that has every edge once (wiring specs Checking)
--   after, stepped, hit, pivot      the states of the elimination, the rows that a check hits, the lowest of them (specs Elimination)
--   SpreadSoFar p hits columns i left  the columns with row p put on the rows of `hits` in the columns below i
-- Laws are named by their subject, then by the fact: `lowest-` is about the lowest row, `hits-` about the set, `check-` about
-- the check that the code holds, `spread-` about the row that is put on the set, `dropped-` about rows that are no longer live, `step-`
-- and `made-` about the state after a check. At the end of a name, `-none` is the beginning of a loop or a check that no row fails,
-- `-put` and `-kept` a turn that adds a column and one that does not, `-whole` the end of a loop.
use Rattle.std.proofs.Common.{w64, ℕ, zero, suc, ◌+◌, ◌-◌, ◌*◌, ◌/◌, ◌%◌, ◌^◌, ◌≤◌, ◌<◌, min, Bool, true, false, not, ◌&&◌, true≢false}
use Rattle.std.proofs.Common.{List, ⊎_elim, ◌≡◌, refl, sym, ap, ap₂, ◌∙◌, le_refl, mul-zero, mul-one, zero-mul, one-mul, eq-or-lt_of_le}
use Rattle.std.proofs.Common.{le_of_suc-le-suc, lt_of_lt_of_le, le_antisymm, mod-lt, div-lt_iff_lt-mul, add-one, arith, bit_xor, eqb}
use Rattle.std.proofs.Common.{get_or, ltb-false, eqb-true, eq-eqb}
use mathlib.Core.Logic.{◌≢◌}
use native.Mathlib.Nat.{min-eq_left, min-eq_right}
use native.Mathlib.Decide.{dec_le}
use lib.Arith.{digits_lt}
use lib.Bits.{xor_self, xor_zero_r}
use borrow.Author.Tests.{not-true}
use Rattle.std.specs.Borrow.{Bor}
use Rattle.std.specs.Int.{trailing_zeros}
use Rattle.std.proofs.lemmas.Nat.Bits.{bit_at-trailing_zeros}
use Rattle.bits.proofs.Xor.{digits_product, digit_lt, digit-zero}
use Rattle.bits.specs.Bit.{digit}
use Rattle.bits.specs.Sum.{flag}
use Rattle.bits.proofs.Sums.{flag_true, flag-false, flag-apart}
use Rattle.inner_code.specs.Reduction.{reduced}
use Rattle.wiring.specs.Plan.{Side, side_bit}
use Rattle.wiring.specs.Checking.{Fitted, Permuted}
use Rattle.wiring.specs.declared.side.SideName.{SideName}
use Rattle.wiring.proofs.Permutation.{side-lt, fitted-vertex}
use Rattle.bits.proofs.Searches.{first-le, first-zero, first-at, first-all, first-all-each, first-ext}
use Rattle.messages.specs.Elimination.{parity, State, start, hit, pivot, stepped, after, mask, side_check}
use Rattle.messages.specs.Columns.{row_bit, no_rows, ColumnPut, Uses, Stores, check_of, Within, check_value, FailSet, lowest_row, Spread, CheckMade}
use Rattle.messages.specs.declared.solver.Check.{Check}
use Rattle.messages.proofs.Elimination.{parity-zero, parity-one-more, parity-ext, parity-none, hit-live, hit-product, pivot-hit}
use Rattle.messages.proofs.Elimination.{stepped-live-is, stepped-row, stepped-missed, after-one-more, after-reduced}
use Rattle.messages.proofs.Checks.{vertex-parity}
use Rattle.messages.proofs.StoredRows.{row_bit-lt, rows_empty}

-- ---- the lowest row of a set

module _ (hits : List ℕ) where
  pub lowest-none : lowest_row hits 0 ≡ 0
  unfolding lowest_row
  lowest-none = first-zero (λ p. not (eqb (row_bit hits p 0) 1))

  -- the words before word w have none, nor do the m lowest places of word w
  lowest-run : (w m : ℕ) → m ≤ 64 → lowest_row hits (w * 64) ≡ w * 64 → ((j : ℕ) → j < m → digit (get_or hits w 0) j ≡ 0)
      → lowest_row hits (w * 64 + m) ≡ w * 64 + m
  unfolding lowest_row row_bit
  lowest-run w m fits e none = first-all _ _ passed
    where
      passed : (q : ℕ) → q < w * 64 + m → not (eqb (row_bit hits q 0) 1) ≡ true
      passed q l =
          elim (dec_le (w * 64) q) [
            | yes above ↦
                let word : 8 * 0 + q / 64 ≡ w = omega arith in
                ap (λ (b : ℕ). not (eqb b 1)) (ap (λ (v : ℕ). digit (get_or hits v 0) (q % 64)) word ∙ none (q % 64) (omega arith))
            | no below ↦ first-all-each (w * 64) _ e q (omega arith)
          ]

  -- a word without rows is passed over
  pub lowest-passed : (w : ℕ) → lowest_row hits (w * 64) ≡ w * 64 → get_or hits w 0 ≡ 0 → lowest_row hits ((w + 1) * 64) ≡ (w + 1) * 64
  lowest-passed w e none =
      let next : w * 64 + 64 ≡ (w + 1) * 64 = omega arith in
      rw next at (lowest-run w 64 (le_refl 64) e (λ j l. ap (λ (x : ℕ). digit x j) none ∙ digit-zero j))

  -- the lowest 1 of a word is the lowest row
  pub lowest-found : (N w : ℕ) → lowest_row hits (w * 64) ≡ w * 64 → 0 < get_or hits w 0 → get_or hits w 0 < 2 ^ 64
      → lowest_row hits N ≡ min N (w * 64 + trailing_zeros w64 (get_or hits w 0))
  unfolding lowest_row row_bit digit
  lowest-found N w e some wide = go (bit_at-trailing_zeros w64 (get_or hits w 0) some wide)
    where
      place : ℕ
      place = trailing_zeros w64 (get_or hits w 0)

      go : (place < 64) × (digit (get_or hits w 0) place ≡ 1) × ((j : ℕ) → j < place → digit (get_or hits w 0) j ≡ 0)
          → lowest_row hits N ≡ min N (w * 64 + place)
      go (inside, one, none) =
          let before = lowest-run w place (omega arith) e none in
          let word : 8 * 0 + (w * 64 + place) / 64 ≡ w = omega arith in
          let digit_of : (w * 64 + place) % 64 ≡ place = omega arith in
          elim (dec_le N (w * 64 + place)) [
            | yes past ↦ first-all N _ (λ q l. first-all-each (w * 64 + place) _ before q (omega arith)) ∙ sym (min-eq_left past)
            | no found ↦
                first-at N _ (w * 64 + place) (omega arith) (first-all-each (w * 64 + place) _ before)
                (ap not (eq-eqb _ 1 (ap₂ (λ (v k : ℕ). digit (get_or hits v 0) k) word digit_of ∙ one)))
                ∙ sym (min-eq_right (omega arith))
          ]

  pub lowest-past : (N p : ℕ) → N ≤ p → lowest_row hits p ≡ p → lowest_row hits N ≡ N
  unfolding lowest_row
  lowest-past N p l e = first-all N _ (λ q b. first-all-each p _ e q (omega arith))

lowest-empty : lowest_row no_rows 512 ≡ 512
unfolding lowest_row
lowest-empty = first-all 512 _ (λ q l. ap (λ (b : ℕ). not (eqb b 1)) (rows_empty q))

-- ---- the rows that fail a check

module _ (check : Check) (columns : List ℕ) where
  pub hits-none : FailSet 0 check columns no_rows
  hits-none = record { bits = λ p l. rows_empty p ∙ sym (parity-zero _ _) }

  -- bit i of the vertex, and whether it counts
  abbrev bit : ℕ → ℕ
  bit i = side_bit check.side check.wiring.now (check.base + i)

  abbrev counts : ℕ → ℕ
  counts i = digit (get_or check.residues.now i 0) check.digit

  module _ (i : ℕ) (hits : List ℕ) (so_far : FailSet i check columns hits) where
    one_more : (p : ℕ) → p < 512
        → parity (i + 1) counts (λ x. row_bit columns p (bit x)) ≡ bit_xor (row_bit hits p 0) (counts i * row_bit columns p (bit i))
    one_more p l =
        parity-one-more i _ _ (digits_product _ _ (digit_lt _ check.digit) (row_bit-lt columns p _))
        ∙ ap (λ (x : ℕ). bit_xor x (counts i * row_bit columns p (bit i))) (sym (so_far.bits p l))

    pub hits-put : (e : ℕ) (left : List ℕ) → counts i ≡ 1 → e ≡ bit i → ColumnPut columns e hits 0 left
        → FailSet (i + 1) check columns left
    hits-put e left one at-e put =
        record {
          bits = λ p l.
              put.put p l
              ∙ ap (bit_xor (row_bit hits p 0))
              (ap (row_bit columns p) at-e ∙ sym (one-mul _) ∙ ap (λ (a : ℕ). a * row_bit columns p (bit i)) (sym one))
              ∙ sym (one_more p l);
        }

    pub hits-kept : counts i ≢ 1 → FailSet (i + 1) check columns hits
    hits-kept other =
        let none : counts i ≡ 0 = omega (arith, digit_lt (get_or check.residues.now i 0) check.digit) in
        record {
          bits = λ p l.
              sym (one_more p l ∙ ap (λ (a : ℕ). bit_xor (row_bit hits p 0) (a * row_bit columns p (bit i))) none
              ∙ ap (bit_xor (row_bit hits p 0)) (zero-mul _) ∙ xor_zero_r _);
        }

  -- none, where no residue has the digit of the check
  hits-unused : (d used : ℕ) → Uses d check.residues.now used → digit used check.digit ≡ 0 → FailSet d check columns no_rows
  hits-unused d used uses unused = go d (le_refl d)
    where
      go : (i : ℕ) → i ≤ d → FailSet i check columns no_rows
      go zero h = hits-none
      go (suc i) h =
          let none : counts i ≡ 0 = uses.none i check.digit h unused in
          rw add-one at (hits-kept i no_rows (go i (omega arith)) (λ one. absurd (omega arith)))

-- ---- check m of a side

pub check-digit-lt : {d n : ℕ} {wiring : List ℕ} → Fitted d n wiring → (m : ℕ) → m % d < 16
check-digit-lt f m = omega (arith, mod-lt m f.d-low, f.d-high)

module _ {d n : ℕ} (wiring residues : Bor (List ℕ)) (f : Fitted d n wiring.now) where
  module _ {N : ℕ} (even : n * d ≡ N) (p : Permuted N wiring.now) (name : SideName) (m : ℕ) (low : m < N) where
    vertex-low : m / d < n
    vertex-low = (div-lt_iff_lt-mul f.d-low).1 (rw even low)

    bit-low : (i : ℕ) → i < d → side_bit name wiring.now (m / d * d + i) < N
    bit-low i l = side-lt p name _ (rw even at (digits_lt vertex-low l))

    pub check-within : N ≤ 512 → Within (check_of name wiring residues d m)
    check-within short =
        record {
          narrow = f.d-high;
          digit_lt = check-digit-lt f m;
          sized = fitted-vertex f (m / d) vertex-low;
          bit-lt = λ i l. lt_of_lt_of_le (bit-low i l) short;
        }

    -- what the code finds is the value of check m of a side of whose rows the residues are made
    pub check-value : (rows : ℕ → ℕ) (count : ℕ)
        → ((i : ℕ) → i < d → get_or residues.now i 0 ≡ reduced rows count (2 ^ (d - 1 - i))) → (g : ℕ → ℕ)
        → check_value d (check_of name wiring residues d m) g
        ≡ parity N (side_check (record { n = n; d = d; k = count; row = rows; bit = side_bit name wiring.now }) m) g
    unfolding mask
    check-value rows count masks g =
        let side : Side = record { n = n; d = d; k = count; row = rows; bit = side_bit name wiring.now } in
        parity-ext d _ (mask side (m % d)) _ _
        (λ i l. ap (λ (x : ℕ). digit x (m % d) * g (side_bit name wiring.now (m / d * d + i))) (masks i l))
        ∙ sym (vertex-parity side N g (m / d) (m % d) bit-low)

-- ---- a row put on the rows of a set

pub record SpreadSoFar (p : ℕ) (hits columns : List ℕ) (i : ℕ) (left : List ℕ) : Type 0 where
  pub passed : (q e : ℕ) → q < 512 → e < i → row_bit left q e ≡ bit_xor (row_bit columns q e) (row_bit hits q 0 * row_bit columns p e)
  pub rest : (q e : ℕ) → q < 512 → i ≤ e → row_bit left q e ≡ row_bit columns q e

module _ (p : ℕ) (inside : p < 512) (hits columns : List ℕ) (i : ℕ) (left : List ℕ) (so_far : SpreadSoFar p hits columns i left)
    (b : ℕ) (read : b ≡ row_bit left p i) where
  -- what a column that is passed holds, from what the turn leaves of column i
  turn : (next : List ℕ) → ((q : ℕ) → q < 512 → row_bit next q i ≡ bit_xor (row_bit left q i) (row_bit hits q 0 * b))
      → ((q e : ℕ) → q < 512 → e ≢ i → row_bit next q e ≡ row_bit left q e) → SpreadSoFar p hits columns (i + 1) next
  turn next here others =
      record {
        passed = λ q e l k.
            ⊎_elim
            (λ (z : e ≡ i).
            rw z (here q l
            ∙ ap₂ (λ (x y : ℕ). bit_xor x (row_bit hits q 0 * y)) (so_far.rest q i l (omega arith)) (read ∙ so_far.rest p i inside (omega arith))))
            (λ (a : e < i). others q e l (λ z. omega arith) ∙ so_far.passed q e l a)
            (eq-or-lt_of_le (le_of_suc-le-suc (rw add-one at k)));
        rest = λ q e l k. others q e l (λ z. omega arith) ∙ so_far.rest q e l (omega arith);
      }

  pub spread-put : (next : List ℕ) → b ≡ 1 → ColumnPut hits 0 left i next → SpreadSoFar p hits columns (i + 1) next
  spread-put next one put =
      turn next
      (λ q l. put.put q l ∙ ap (bit_xor (row_bit left q i)) (sym (mul-one _) ∙ ap (λ (x : ℕ). row_bit hits q 0 * x) (sym one)))
      (λ q e l apart. put.others q e l apart)

  pub spread-kept : b ≢ 1 → SpreadSoFar p hits columns (i + 1) left
  spread-kept other =
      let none : b ≡ 0 = omega (arith, row_bit-lt left p i) in
      turn left
      (λ q l. sym (ap (λ (x : ℕ). bit_xor (row_bit left q i) (row_bit hits q 0 * x)) none ∙ ap (bit_xor (row_bit left q i)) (mul-zero _) ∙ xor_zero_r _))
      (λ q e l apart. refl)

pub spread-whole : (N p : ℕ) (hits columns left : List ℕ) → SpreadSoFar p hits columns N left → Spread N p hits columns left
spread-whole N p hits columns left all = record { bits = all.passed }

-- ---- rows that are no longer live

module _ (N : ℕ) (check : ℕ → ℕ) (s : State) where
  -- a row that is not live is not hit
  dead-missed : (p : ℕ) → s.live p ≡ false → hit N check s p ≡ false
  dead-missed p dead = go (hit N check s p) refl
    where
      go : (t : Bool) → hit N check s p ≡ t → hit N check s p ≡ false
      go true h = absurd (true≢false (sym (hit-live N check s p h) ∙ dead))
      go false h = h

  -- the pivot's row is put on itself
  pivot-dropped : (e : ℕ) → pivot N check s < N → (stepped N check s).row (pivot N check s) e ≡ 0
  pivot-dropped e low =
      stepped-row N check s (pivot N check s) e
      ∙ ap (λ (t : Bool). bit_xor (s.row (pivot N check s) e) (flag t * s.row (pivot N check s) e)) (pivot-hit N check s low)
      ∙ ap (bit_xor (s.row (pivot N check s) e)) (rw flag_true (one-mul _)) ∙ xor_self (s.row (pivot N check s) e)

  stepped-dropped : (p e : ℕ) → (s.live p ≡ true → p < N) → (s.live p ≡ false → s.row p e ≡ 0) → (stepped N check s).live p ≡ false
      → (stepped N check s).row p e ≡ 0
  stepped-dropped p e below earlier dead = go (s.live p) refl (eqb p (pivot N check s)) refl
    where
      go : (t : Bool) → s.live p ≡ t → (u : Bool) → eqb p (pivot N check s) ≡ u → (stepped N check s).row p e ≡ 0
      go false d u q = stepped-missed N check s p e (dead-missed p d) ∙ earlier d
      go true d false q = absurd (true≢false (sym (stepped-live-is N check s p ∙ ap₂ (λ (a b : Bool). a && not b) d q) ∙ dead))
      go true d true q =
          let here : p ≡ pivot N check s = eqb-true p _ q in
          ap (λ (x : ℕ). (stepped N check s).row x e) here ∙ pivot-dropped e (rw here at (below d))

-- a row that is not live is 0
pub dropped-none : (N : ℕ) (checks : ℕ → ℕ → ℕ) (m p e : ℕ) → e < N → (after N checks m).live p ≡ false → (after N checks m).row p e ≡ 0
unfolding after start
dropped-none N checks zero p e l dead = flag-apart p e (λ z. omega (arith, ltb-false p N dead))
dropped-none N checks (suc m) p e l dead =
    stepped-dropped N (checks m) (after N checks m) p e ((after-reduced N checks m).live-lt p) (dropped-none N checks m p e l) dead

-- ---- the state after a check

pub flag-test : (t : Bool) → eqb (flag t) 1 ≡ t
unfolding flag
flag-test true = refl
flag-test false = refl

module _ (N : ℕ) (few : N ≤ 512) (checks : ℕ → ℕ → ℕ) (m : ℕ) (columns hits : List ℕ) (stored : Stores N (after N checks m) columns)
    (fails : (p : ℕ) → p < 512 → row_bit hits p 0 ≡ parity N (checks m) (row_bit columns p)) where
  abbrev now : State
  now = after N checks m

  -- the set holds exactly the rows that are hit
  hits-flag : (p : ℕ) → p < 512 → row_bit hits p 0 ≡ flag (hit N (checks m) now p)
  hits-flag p l =
      fails p l
      ∙ parity-ext N (checks m) (checks m) _ _ (λ e k. ap (λ (x : ℕ). checks m e * x) (stored.bits p e l k))
      ∙ go (now.live p) refl
      ∙ sym (hit-product N (checks m) now p)
    where
      go : (t : Bool) → now.live p ≡ t → parity N (checks m) (now.row p) ≡ flag (now.live p) * parity N (checks m) (now.row p)
      go true d = rw (d, flag_true) (sym (one-mul _))
      go false d =
          parity-none N _ _ (λ e k. rw (dropped-none N checks m p e k d) (mul-zero (checks m e))) ∙ sym (rw (d, flag-false) (zero-mul _))

  lowest-pivot : lowest_row hits N ≡ pivot N (checks m) now
  unfolding lowest_row pivot
  lowest-pivot =
      first-ext N _ _ (λ p l. ap not (ap (λ (x : ℕ). eqb x 1) (hits-flag p (lt_of_lt_of_le l few)) ∙ flag-test (hit N (checks m) now p)))

  step-spread : (p : ℕ) (left : List ℕ) → p ≡ lowest_row hits N → p < N → Spread N p hits columns left → Stores N (after N checks (m + 1)) left
  step-spread p left low inside spread =
      rw after-one-more
      (record {
        bits = λ q e l k.
            spread.bits q e l k
            ∙ ap₂ bit_xor (stored.bits q e l k) (ap₂ ◌*◌ (hits-flag q l) (stored.bits p e (lt_of_lt_of_le inside few) k))
            ∙ ap (λ (x : ℕ). bit_xor (now.row q e) (flag (hit N (checks m) now q) * now.row x e)) (low ∙ lowest-pivot)
            ∙ sym (stepped-row N (checks m) now q e);
      })

  step-none : N ≤ lowest_row hits N → Stores N (after N checks (m + 1)) columns
  unfolding lowest_row
  step-none none =
      rw after-one-more
      (record { bits = λ q e l k. stored.bits q e l k ∙ sym (stepped-missed N (checks m) now q e (missed q l (hit N (checks m) now q) refl)) })
    where
      missed : (q : ℕ) → q < 512 → (t : Bool) → hit N (checks m) now q ≡ t → hit N (checks m) now q ≡ false
      missed q l false h = h
      missed q l true h =
          let inside : q < N = (after-reduced N checks m).live-lt q (hit-live N (checks m) now q h) in
          let all : lowest_row hits N ≡ N = le_antisymm (first-le N _) none in
          let clear = not-true _ (first-all-each N _ all q inside) in
          absurd (true≢false (sym h ∙ sym (flag-test _) ∙ ap (λ (x : ℕ). eqb x 1) (sym (hits-flag q l)) ∙ clear))

-- ---- a check that is made

module _ (N : ℕ) (few : N ≤ 512) (check : Check) (columns : List ℕ) where
  module _ (hits : List ℕ) (fails : FailSet check.d check columns hits) where
    pub made-spread : (p : ℕ) (left : List ℕ) → p ≡ lowest_row hits N → p < N → Spread N p hits columns left
        → CheckMade N check columns left
    made-spread p left low inside spread =
        record {
          rows = λ checks m same stored.
              step-spread N few checks m columns hits stored (λ q l. fails.bits q l ∙ same (row_bit columns q)) p left low inside spread;
        }

    pub made_none : (p : ℕ) → p ≡ lowest_row hits N → N ≤ p → CheckMade N check columns columns
    made_none p low none =
        record {
          rows = λ checks m same stored.
              step-none N few checks m columns hits stored (λ q l. fails.bits q l ∙ same (row_bit columns q)) (rw low at none);
        }

  -- no row fails a check whose digit is in no residue
  pub made-unused : (used : ℕ) → Uses check.d check.residues.now used → digit used check.digit ≢ 1 → CheckMade N check columns columns
  made-unused used uses other =
      let unused : digit used check.digit ≡ 0 = omega (arith, digit_lt used check.digit) in
      made_none no_rows (hits-unused check columns check.d used uses unused) N (sym (lowest-past no_rows N 512 few lowest-empty)) (le_refl N)
