-- Rows as the code keeps them: a set of rows is eight words of 64, and column e is the set of the rows that have a 1 at e.
--   row_bit columns p e               bit e of row p, for p below 512 (specs Columns)
--   no_columns, no_rows                512 columns of no row, and one (specs Columns)
--   ColumnPut from a to b left       `left` is `to` with column a of `from` put on its column b (specs Columns)
--   Stores N s columns               the columns hold the rows of the state s (specs Columns)
--   words_put from first at m to      the list `to` with m words of `from` from `first` on put on its words from `at` on
--   Units p columns                  the first p columns are those of the unit rows, and the rest is 0
-- Laws are named by their subject, then by the fact: `words_put-` is about the words, `column-` about whole columns, `units-` about the
-- unit rows. At the end of a name, `-one-more` is one more turn of a loop, `-inside` and `-outside` the words that are written and all
-- others, `-empty` a list of zeros.
use Rattle.std.proofs.Common.{ℕ, zero, suc, ◌+◌, ◌*◌, ◌/◌, ◌%◌, ◌^◌, ◌≤◌, ◌<◌, List, ⊎_elim, ◌≡◌, refl, sym, ap, ◌∙◌, eq-or-lt_of_le}
use Rattle.std.proofs.Common.{le_of_suc-le-suc, not-suc-le-zero, lt-suc_self, add-one, arith, bit_xor, eqb, length, get_or, set, length-set}
use Rattle.std.proofs.Common.{get_or-set_same, get_or-set_other}
use mathlib.Core.Logic.{◌≢◌}
use native.Mathlib.Nat.{le_step}
use native.Mathlib.Decide.{ℕ_discrete}
use lib.ListN.{length-replicate}
use Rattle.bits.proofs.Xor.{digit-power, digit_lt, digit-zero, xor-digit}
use Rattle.bits.specs.Bit.{digit}
use Rattle.bits.specs.Sum.{flag}
use Rattle.bits.proofs.Sums.{flag-equal, flag-apart}
use Rattle.messages.specs.Elimination.{start}
use Rattle.messages.specs.Columns.{row_bit, no_columns, no_rows, ColumnPut, Stores}
use Rattle.bits.proofs.Lists.{zeros-at}

pub row_bit-lt : (columns : List ℕ) (p e : ℕ) → row_bit columns p e < 2
unfolding row_bit
row_bit-lt columns p e = digit_lt _ (p % 64)

-- ---- eight words put on eight words

unfoldable pub words_put : List ℕ → ℕ → ℕ → ℕ → List ℕ → List ℕ
words_put from first at zero to = to
words_put from first at (suc w) to =
    set (words_put from first at w to) (at + w) (bit_xor (get_or (words_put from first at w to) (at + w) 0) (get_or from (first + w) 0))

module _ (from : List ℕ) (first at : ℕ) where
  pub words_put-none : (to : List ℕ) → words_put from first at 0 to ≡ to
  unfolding words_put
  words_put-none to = refl

  -- the store of one turn
  pub words_put-one-more : (w : ℕ) (to₀ to : List ℕ) → to ≡ words_put from first at w to₀
      → set to (at + w) (bit_xor (get_or to (at + w) 0) (get_or from (first + w) 0)) ≡ words_put from first at (w + 1) to₀
  unfolding words_put
  words_put-one-more w to₀ to e =
      rw add-one (ap (λ (l : List ℕ). set l (at + w) (bit_xor (get_or l (at + w) 0) (get_or from (first + w) 0))) e)

  pub length-words_put : (w : ℕ) (to : List ℕ) → length (words_put from first at w to) ≡ length to
  unfolding words_put
  length-words_put zero to = refl
  length-words_put (suc w) to = length-set (words_put from first at w to) (at + w) _ ∙ length-words_put w to

  words_put-outside : (m : ℕ) (to : List ℕ) (i : ℕ) → ((w : ℕ) → w < m → i ≢ at + w) → get_or (words_put from first at m to) i 0 ≡ get_or to i 0
  unfolding words_put
  words_put-outside zero to i apart = refl
  words_put-outside (suc m) to i apart =
      get_or-set_other (words_put from first at m to) (at + m) i _ 0 (apart m (lt-suc_self m))
      ∙ words_put-outside m to i (λ w l. apart w (le_step l))

  words_put-inside : (m : ℕ) (to : List ℕ) → at + m ≤ length to → (w : ℕ) → w < m
      → get_or (words_put from first at m to) (at + w) 0 ≡ bit_xor (get_or to (at + w) 0) (get_or from (first + w) 0)
  unfolding words_put
  words_put-inside zero to fits w l = absurd (not-suc-le-zero l)
  words_put-inside (suc m) to fits w l =
      ⊎_elim
      (λ (e : w ≡ m).
      rw e (get_or-set_same (words_put from first at m to) (at + m) _ 0 (omega (arith, length-words_put m to))
      ∙ ap (λ (x : ℕ). bit_xor x (get_or from (first + m) 0)) (words_put-outside m to (at + m) (λ v k. omega arith))))
      (λ (k : w < m).
      get_or-set_other (words_put from first at m to) (at + m) (at + w) _ 0 (λ q. omega arith) ∙ words_put-inside m to (omega arith) w k)
      (eq-or-lt_of_le (le_of_suc-le-suc l))

-- ---- a column put on a column

pub column-written : (from : List ℕ) (a : ℕ) (to : List ℕ) (b : ℕ) → 8 * b + 8 ≤ length to
    → ColumnPut from a to b (words_put from (8 * a) (8 * b) 8 to)
unfolding row_bit
column-written from a to b fits =
    record {
      put = λ p l. ap (λ (x : ℕ). digit x (p % 64)) (words_put-inside from (8 * a) (8 * b) 8 to fits (p / 64) (omega arith)) ∙ xor-digit _ _ (p % 64);
      others = λ p e l apart. ap (λ (x : ℕ). digit x (p % 64)) (words_put-outside from (8 * a) (8 * b) 8 to _ (λ w k q. apart (omega arith)));
    }

-- ---- lists of zeros

pub rows_empty : (p : ℕ) → row_bit no_rows p 0 ≡ 0
unfolding row_bit no_rows
rows_empty p = ap (λ (x : ℕ). digit x (p % 64)) (zeros-at 8 (8 * 0 + p / 64)) ∙ digit-zero (p % 64)

pub length-no_rows : length no_rows ≡ 8
unfolding no_rows
length-no_rows = length-replicate {A = ℕ} 8 0

pub length-no_columns : length no_columns ≡ 4096
unfolding no_columns
length-no_columns = length-replicate {A = ℕ} 4096 0

-- ---- the unit rows

pub record Units (p : ℕ) (columns : List ℕ) : Type 0 where
  pub sized : length columns ≡ 4096
  pub units : (q e : ℕ) → q < 512 → e < p → row_bit columns q e ≡ flag (eqb q e)
  pub clear : (i : ℕ) → 8 * p ≤ i → get_or columns i 0 ≡ 0

pub units-none : Units 0 no_columns
unfolding no_columns
units-none = record { sized = length-no_columns; units = λ q e l k. absurd (not-suc-le-zero k); clear = λ i _. zeros-at 4096 i }

module _ (p : ℕ) (columns : List ℕ) (inside : p < 512) (u : Units p columns) (word : ℕ) (one : word ≡ 2 ^ (p % 64)) where
  abbrev next : List ℕ
  next = set columns (8 * p + p / 64) word

  -- the words of a column before the last are not written
  earlier : (q e : ℕ) → q < 512 → e < p → row_bit next q e ≡ flag (eqb q e)
  unfolding row_bit
  earlier q e l k =
      ap (λ (x : ℕ). digit x (q % 64)) (get_or-set_other columns (8 * p + p / 64) (8 * e + q / 64) word 0 (λ z. omega arith)) ∙ u.units q e l k

  last : (q : ℕ) → q < 512 → row_bit next q p ≡ flag (eqb q p)
  unfolding row_bit
  last q l =
      elim (ℕ_discrete (q / 64) (p / 64)) [
        | yes e ↦
            rw e
            (ap (λ (x : ℕ). digit x (q % 64)) (get_or-set_same columns (8 * p + p / 64) word 0 (omega (arith, u.sized)) ∙ one)
            ∙ digit-power (p % 64) (q % 64)
            ∙ same e)
        | no n ↦
            ap (λ (x : ℕ). digit x (q % 64))
            (get_or-set_other columns (8 * p + p / 64) (8 * p + q / 64) word 0 (λ z. n (omega arith)) ∙ u.clear _ (omega arith))
            ∙ digit-zero (q % 64) ∙ sym (flag-apart q p (λ z. n (ap (λ (x : ℕ). x / 64) z)))
      ]
    where
      same : q / 64 ≡ p / 64 → flag (eqb (q % 64) (p % 64)) ≡ flag (eqb q p)
      same e =
          elim (ℕ_discrete q p) [
            | yes z ↦ flag-equal (q % 64) (p % 64) (ap (λ (x : ℕ). x % 64) z) ∙ sym (flag-equal q p z)
            | no z ↦ flag-apart (q % 64) (p % 64) (λ w. z (omega arith)) ∙ sym (flag-apart q p z)
          ]

  pub units-one-more : Units (p + 1) next
  units-one-more =
      record {
        sized = length-set columns (8 * p + p / 64) word ∙ u.sized;
        units = λ q e l k.
            ⊎_elim (λ (z : e ≡ p). rw z (last q l)) (λ (b : e < p). earlier q e l b) (eq-or-lt_of_le (le_of_suc-le-suc (rw add-one at k)));
        clear = λ i l. get_or-set_other columns (8 * p + p / 64) i word 0 (λ z. omega arith) ∙ u.clear i (omega arith);
      }

pub units-stored : (N : ℕ) (columns : List ℕ) → Units N columns → Stores N (start N) columns
unfolding start
units-stored N columns u = record { bits = u.units }
