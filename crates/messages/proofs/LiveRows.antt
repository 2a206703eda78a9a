-- The rows that are left after all checks, counted and chosen by a message.
--   row_bit columns p e              bit e of row p, for p below 512 (specs Columns)
--   live_before columns j            how many rows below j have a 1 at their own place (specs Columns)
--   Chosen N columns message chosen column 0 of `chosen` is the set of the rows left whose bit in the message is 1 (specs Columns)
--   column_parity chosen columns e   bit e of the rows of a set put together (specs Columns)
--   ones_both chosen columns e w     the ones that the first w words of a set and of column e have in common
--   StoredPlan plan N columns       the columns hold the final rows of an accepted plan of N edges (specs Columns)
--   final_state plan                 the state after all checks of the plan (specs Elimination)
-- Laws are named by their subject, then by the fact: `live-` is about the count, `chosen-` about the chosen rows, `ones-` about their
-- common ones, `stored-` about the rows of a plan. At the end of a name, `-none` is the beginning of a loop, `-one-more` a turn, `-le` a
-- bound.
use Rattle.std.proofs.Common.{ℕ, zero, suc, ◌+◌, ◌-◌, ◌*◌, ◌/◌, ◌%◌, ◌^◌, ◌≤◌, ◌<◌, min, Bool, true, false, List, ⊎_elim, ◌≡◌, refl, sym}
use Rattle.std.proofs.Common.{ap, ap₂, ◌∙◌, zero-mul, not-suc-le-zero, eq-or-lt_of_le, le_of_suc-le-suc, lt_of_lt_of_le, lt_of_le_of_lt}
use Rattle.std.proofs.Common.{mod-eq_of_lt, add-sub_of_le, add-zero, add-one, arith, bit_xor, bit_and, length, get_or, set, pow_mono}
use Rattle.std.proofs.Common.{shl_lt, get_or-set_same, get_or-set_other}
use mathlib.Core.Logic.{◌≢◌}
use native.Mathlib.Decide.{ℕ_discrete}
use lib.Bits.{and_le_l, xor_zero_l, xor_zero_r}
use lib.Count.{ones}
use Rattle.std.proofs.lemmas.Nat.Bits.{bit_at_and}
use Rattle.bits.specs.Bit.{digit, bit_at}
use Rattle.bits.specs.Sum.{sum, flag}
use Rattle.bits.proofs.Sums.{sum-zero, sum-one-more, sum-ext, sum-none, sum-append, sum-blocks, sum_mono, sum-const, flag_true, flag-false}
use Rattle.bits.proofs.Xor.{digit_lt, digit-pow-same, digit-pow-other, xor-digit, digits_product}
use Rattle.bits.proofs.Bytes.{bit_at_lt}
use Rattle.bits.proofs.Words.{ones-sum}
use Rattle.wiring.specs.Plan.{Plan, edge_count}
use Rattle.messages.specs.Position.{positions_before, message_bits}
use Rattle.messages.specs.Message.{encoded_number}
use Rattle.messages.specs.Elimination.{parity, State, final_state, plan_checks, chosen, combined, position_bit}
use Rattle.messages.specs.Columns.{row_bit, no_rows, StoredPlan, live_before, Chosen, column_parity}
use Rattle.messages.proofs.Elimination.{parity-ext}
use Rattle.messages.proofs.Ranks.{rank}
use Rattle.messages.proofs.Positions.{final-reduced, positions-live}
use Rattle.messages.proofs.Encoding.{encoded-digit}
use Rattle.messages.proofs.StoredRows.{row_bit-lt, rows_empty}
use Rattle.messages.proofs.Pivots.{dropped-none}

-- ---- the count

module _ (columns : List ℕ) where
  pub live-none : live_before columns 0 ≡ 0
  unfolding live_before
  live-none = sum-zero (λ i. row_bit columns i i)

  -- b is the bit that is read
  pub live-one-more : (p live b : ℕ) → live ≡ live_before columns p → b ≡ row_bit columns p p → live + b ≡ live_before columns (p + 1)
  unfolding live_before
  live-one-more p live b e r = ap₂ ◌+◌ e r ∙ sym (sum-one-more p _)

  pub live-le : (p : ℕ) → live_before columns p ≤ p
  unfolding live_before
  live-le p =
      omega (arith, sum-const p 1, sum_mono p (λ i. row_bit columns i i) (λ i. 1) (λ i l. le_of_suc-le-suc (row_bit-lt columns i i)))

-- ---- the chosen rows

pub chosen_none : (columns message : List ℕ) → Chosen 0 columns message no_rows
chosen_none columns message = record { inside = λ p l. absurd (not-suc-le-zero l); past = λ p h l. rows_empty p }

module _ (p : ℕ) (low : p < 512) (columns message chosen : List ℕ) (sized : length chosen ≡ 8) (so_far : Chosen p columns message chosen)
    (bit : ℕ) (is : bit ≡ row_bit columns p p * bit_at message (live_before columns p)) where
  abbrev word : ℕ
  word = bit_xor (get_or chosen (p / 64) 0) (bit * 2 ^ (p % 64) % 2 ^ 64)

  bit-lt : bit < 2
  bit-lt = rw is (digits_product _ _ (row_bit-lt columns p p) (bit_at_lt message _))

  shifted : bit * 2 ^ (p % 64) % 2 ^ 64 ≡ bit * 2 ^ (p % 64)
  shifted = mod-eq_of_lt (lt_of_lt_of_le (shl_lt 1 (p % 64) bit-lt) (pow_mono {i = 1 + p % 64} {j = 64} (omega arith)))

  -- a digit of the word that is written
  written : (j : ℕ) → digit word j ≡ bit_xor (digit (get_or chosen (p / 64) 0) j) (digit (bit * 2 ^ (p % 64)) j)
  written j = ap (λ (x : ℕ). digit (bit_xor (get_or chosen (p / 64) 0) x) j) shifted ∙ xor-digit _ _ j

  here : row_bit (set chosen (p / 64) word) p 0 ≡ bit
  unfolding row_bit
  here =
      let first : 8 * 0 + p / 64 ≡ p / 64 = omega arith in
      rw first
      (ap (λ (x : ℕ). digit x (p % 64)) (get_or-set_same chosen (p / 64) word 0 (omega arith))
      ∙ written (p % 64)
      ∙ ap₂ bit_xor (rw first at (so_far.past p (omega arith) low)) (digit-pow-same bit (p % 64) bit-lt)
      ∙ xor_zero_l bit)

  elsewhere : (q : ℕ) → q < 512 → q ≢ p → row_bit (set chosen (p / 64) word) q 0 ≡ row_bit chosen q 0
  unfolding row_bit
  elsewhere q l apart =
      let first : 8 * 0 + q / 64 ≡ q / 64 = omega arith in
      elim (ℕ_discrete (q / 64) (p / 64)) [
        | yes e ↦
            rw (first, e)
            (ap (λ (x : ℕ). digit x (q % 64)) (get_or-set_same chosen (p / 64) word 0 (omega arith))
            ∙ written (q % 64)
            ∙ ap (bit_xor (digit (get_or chosen (p / 64) 0) (q % 64))) (digit-pow-other bit (p % 64) (q % 64) bit-lt (λ z. apart (omega arith)))
            ∙ xor_zero_r _)
        | no n ↦ ap (λ (x : ℕ). digit x (q % 64)) (get_or-set_other chosen (p / 64) (8 * 0 + q / 64) word 0 (λ z. n (sym first ∙ z)))
      ]

  pub chosen-one-more : Chosen (p + 1) columns message (set chosen (p / 64) word)
  chosen-one-more =
      record {
        inside = λ q l.
            ⊎_elim (λ (z : q ≡ p). rw z (here ∙ is))
            (λ (b : q < p). elsewhere q (omega arith) (λ z. omega arith) ∙ so_far.inside q b)
            (eq-or-lt_of_le (le_of_suc-le-suc (rw add-one at l)));
        past = λ q h l. elsewhere q l (λ z. omega arith) ∙ so_far.past q (omega arith) l;
      }

-- ---- the ones that a set and a column have in common

min-product : (a b : ℕ) → a < 2 → b < 2 → min a b ≡ a * b
min-product zero b ha hb = omega arith
min-product (suc zero) b ha hb = omega arith
min-product (suc (suc a)) b ha hb = absurd (omega arith)

and-digit : (a b j : ℕ) → digit (bit_and a b) j ≡ digit a j * digit b j
unfolding digit
and-digit a b j = bit_at_and a b j ∙ min-product _ _ (digit_lt a j) (digit_lt b j)

unfoldable pub ones_both : List ℕ → List ℕ → ℕ → ℕ → ℕ
ones_both chosen columns e w = sum w (λ v. ones (bit_and (get_or chosen v 0) (get_or columns (8 * e + v) 0)))

module _ (chosen columns : List ℕ) (e : ℕ) where
  pub ones-both-none : ones_both chosen columns e 0 ≡ 0
  unfolding ones_both
  ones-both-none = sum-zero _

  pub ones-both-one-more : (w : ℕ)
      → ones_both chosen columns e (w + 1) ≡ ones_both chosen columns e w + ones (bit_and (get_or chosen w 0) (get_or columns (8 * e + w) 0))
  unfolding ones_both
  ones-both-one-more w = sum-one-more w _

  both-lt : (v : ℕ) → get_or chosen v 0 < 2 ^ 64 → bit_and (get_or chosen v 0) (get_or columns (8 * e + v) 0) < 2 ^ 64
  both-lt v fits = lt_of_le_of_lt (and_le_l _ _) fits

  -- one word: the rows 64·v .. 64·v + 63
  ones-both-rows : (v : ℕ) → get_or chosen v 0 < 2 ^ 64
      → ones (bit_and (get_or chosen v 0) (get_or columns (8 * e + v) 0)) ≡ sum 64 (λ j. row_bit chosen (v * 64 + j) 0 * row_bit columns (v * 64 + j) e)
  unfolding row_bit
  ones-both-rows v fits =
      ones-sum 64 _ (both-lt v fits)
      ∙ sum-ext 64 _ _ (λ j k.
      let at-word : (v * 64 + j) / 64 ≡ v = omega arith in
      let at-digit : (v * 64 + j) % 64 ≡ j = omega arith in
      let first : 8 * 0 + v ≡ v = omega arith in
      and-digit (get_or chosen v 0) (get_or columns (8 * e + v) 0) j ∙ sym (rw (at-word, at-digit, first)))

  pub ones-both-parity : ((v : ℕ) → get_or chosen v 0 < 2 ^ 64) → ones_both chosen columns e 8 % 2 ≡ column_parity chosen columns e
  unfolding ones_both column_parity parity
  ones-both-parity words =
      ap (λ (x : ℕ). x % 2)
      (sum-ext 8 _ _ (λ v l. ones-both-rows v (words v)) ∙ sym (sum-blocks 8 64 (λ p. row_bit chosen p 0 * row_bit columns p e)))

-- ---- the rows of a plan

-- terms that are 0 may be left out at the end
parity-past : (N M : ℕ) (a f : ℕ → ℕ) → N ≤ M → ((p : ℕ) → N ≤ p → p < M → a p ≡ 0) → parity M a f ≡ parity N a f
unfolding parity
parity-past N M a f h none =
    ap (λ (x : ℕ). x % 2)
    (ap (λ (m : ℕ). sum m (λ p. a p * f p)) (sym (add-sub_of_le h))
    ∙ sum-append N (M - N) (λ p. a p * f p)
    ∙ ap (λ (x : ℕ). sum N (λ p. a p * f p) + x)
    (sum-none (M - N) _ (λ i l. ap (λ (x : ℕ). x * f (N + i)) (none (N + i) (omega arith) (omega arith)) ∙ zero-mul _))
    ∙ add-zero _)

module _ {plan : Plan} {N : ℕ} {columns : List ℕ} (s : StoredPlan plan N columns) where
  abbrev final : State
  final = final_state plan

  -- a row is left exactly if it has a 1 at its own place
  pub stored-live : (p : ℕ) → p < N → row_bit columns p p ≡ flag (final.live p)
  unfolding final_state
  stored-live p l = s.stored.bits p p (lt_of_lt_of_le l s.short) l ∙ go (final.live p) refl
    where
      go : (t : Bool) → final.live p ≡ t → final.row p p ≡ flag (final.live p)
      go true e = (final-reduced plan).row-own p e ∙ sym (ap flag e ∙ flag_true)
      go false e =
          dropped-none (edge_count plan) (plan_checks plan) (2 * edge_count plan) p p (rw s.edges at l) e ∙ sym (ap flag e ∙ flag-false)

  pub stored-count : (j : ℕ) → j ≤ N → live_before columns j ≡ positions_before plan j
  unfolding live_before rank
  stored-count j h = sum-ext j _ _ (λ i l. stored-live i (lt_of_lt_of_le l h)) ∙ sym (positions-live plan s.accepted j)

  pub stored-bits : live_before columns N ≡ message_bits plan
  unfolding message_bits
  stored-bits = stored-count N (omega arith) ∙ ap (positions_before plan) s.edges

  -- the chosen rows put together have the digits of the codeword that carries the message
  pub stored-digit : (message chosen : List ℕ) → Chosen N columns message chosen → (e : ℕ) → e < N
      → digit (encoded_number plan message) e ≡ column_parity chosen columns e
  unfolding column_parity combined
  stored-digit message chosen c e l =
      encoded-digit plan s.accepted message e (rw s.edges at l)
      ∙ ap (λ (M : ℕ). parity M (λ p. flag (final.live p) * position_bit plan message p) (λ p. final.row p e)) (sym s.edges)
      ∙ sym
      (parity-past N 512 _ _ s.short (λ p h k. c.past p h k)
      ∙ parity-ext N _ _ _ _ (λ p k.
      ap₂ ◌*◌ (c.inside p k ∙ ap₂ (λ (x y : ℕ). x * bit_at message y) (stored-live p k) (stored-count p (omega arith)))
      (s.stored.bits p e (lt_of_lt_of_le k s.short) l)))
