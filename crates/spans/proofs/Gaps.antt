-- The bits in which two blocks differ outside the spans, counted gap by gap.
--   flips_between a b from to    in how many of the bits from .. to - 1 two blocks differ (specs Walking)
--   reach lost m                the farthest end of the first m pairs (specs Walking)
--   flips_in_gaps lost a b m      the bits before one of the first m pairs and behind all pairs before that one (specs Walking)
--   flips_around N lost a b      the same for all pairs, and behind them up to bit N - 1 (specs Walking)
--   flips_outside N lost a b     in how many bits below N that are in no span two blocks differ (specs Spans)
--   end_before lost j            the end of the pair before pair j; 0 before the first (specs Spans)
--   Fine N lost j               what the check of pair j says of it (Checking)
--   differs a b i               1 where two blocks differ in bit i, else 0
--   kept lost a b i             1 where bit i is in no span and two blocks differ in it: the term of flips_outside
-- Laws are named by their subject, then by the fact: `between-` is about flips_between, `gaps-` about flips_in_gaps, `reach-` about the farthest end,
-- `around-` about flips_around; `before-`, `ends-`, `gap-` and `pair-` are about a list that passes its check: the pair before, all earlier pairs, one
-- gap, one pair. At the end of a name, `-le` and `-within` are bounds, `-byte` is a whole byte, `-none` no bit at all, `-one-more` and `-zero` are
-- the steps of a loop.
use Rattle.std.proofs.Common.{ℕ, zero, suc, ◌+◌, ◌-◌, ◌*◌, ◌/◌, ◌≤◌, ◌<◌, max, true, false, cond, List, inl, inr, ◌≡◌, refl, sym, ap, ap₂}
use Rattle.std.proofs.Common.{◌∙◌, le_refl, le_of_eq, not-suc-le-zero, eq-or-lt_of_le, le_of_suc-le-suc, add-one, arith, bit_xor, length}
use Rattle.std.proofs.Common.{get_or}
use native.Mathlib.Decide.{dec_le}
use lib.Count.{ones}
use Rattle.bits.specs.Bit.{word, bit_at}
use Rattle.bits.specs.Sum.{sum}
use Rattle.bits.specs.Window.{word_at}
use Rattle.bits.proofs.Bytes.{bit_at_lt}
use Rattle.bits.proofs.Flips.{flips-bit}
use Rattle.bits.proofs.Sums.{sum-zero, sum-one-more, sum-ext, sum_mono, sum-const, sum-none, sum-append}
use Rattle.bits.proofs.Windows.{word_at-byte}
use Rattle.bits.proofs.Words.{word-xor, ones-word}
use Rattle.inner_code.specs.Reply.{done}
use Rattle.spans.specs.Spans.{pair_count, start_of, length_of, end_of, end_before, spans_check, is_lost, flips_outside}
use Rattle.spans.specs.Walking.{flips_between, reach, flips_in_gaps, flips_around}
use Rattle.spans.proofs.Filling.{Missed, end_is, lost-in, lost-missed}
use Rattle.spans.proofs.Checking.{Fine, before-zero, before-suc, spans-each}

-- ---- bits in a row

module _ (a b : List ℕ) where
  abbrev differs : ℕ → ℕ
  differs i = bit_xor (bit_at a i) (bit_at b i)

  between_is : (from to : ℕ) → flips_between a b from to ≡ sum (to - from) (λ i. differs (from + i))
  unfolding flips_between
  between_is from to = refl

  pub between_none : (from to : ℕ) → to ≤ from → flips_between a b from to ≡ 0
  between_none from to h = between_is from to ∙ sum-none (to - from) _ (λ i l. absurd (omega arith))

  pub between_le : (from to : ℕ) → flips_between a b from to ≤ to - from
  between_le from to =
      omega (
        arith,
        between_is from to,
        sum-const (to - from) 1,
        sum_mono (to - from) (λ i. differs (from + i)) (λ i. 1) (λ i l. omega (arith, flips-bit a b (from + i))),
      )

  -- where a loop from `from` on stops that goes on before `to`
  pub between-end : (from i to : ℕ) → from ≤ i → i ≤ max from to → to ≤ i → flips_between a b from i ≡ flips_between a b from to
  between-end from i to low high stop =
      let same : i - from ≡ to - from = omega arith in
      between_is from i ∙ ap (λ (n : ℕ). sum n (λ k. differs (from + k))) same ∙ sym (between_is from to)

  pub between-append : (from middle to : ℕ) → from ≤ middle → middle ≤ to
      → flips_between a b from to ≡ flips_between a b from middle + flips_between a b middle to
  between-append from middle to low high =
      let all : to - from ≡ middle - from + (to - middle) = omega arith in
      between_is from to
      ∙ ap (λ (n : ℕ). sum n (λ i. differs (from + i))) all
      ∙ sum-append (middle - from) (to - middle) (λ i. differs (from + i))
      ∙ ap₂ ◌+◌ (sym (between_is from middle)) (sum-ext (to - middle) _ _ (λ i l. ap differs (omega arith)) ∙ sym (between_is middle to))

  between-one : (i : ℕ) → flips_between a b i (i + 1) ≡ differs i
  between-one i =
      let one : i + 1 - i ≡ 1 = omega arith in
      let first : i + 0 ≡ i = omega arith in
      between_is i (i + 1)
      ∙ ap (λ (n : ℕ). sum n (λ k. differs (i + k))) one
      ∙ omega (arith, sum-one-more 0 (λ k. differs (i + k)), sum-zero (λ k. differs (i + k)), ap differs first)

  pub between-one-more : (from i : ℕ) → from ≤ i → flips_between a b from (i + 1) ≡ flips_between a b from i + differs i
  between-one-more from i low = omega (arith, between-append from i (i + 1) low (omega arith), between-one i)

-- a whole byte is the word of its bits
byte_word : (bytes : List ℕ) (i : ℕ) → ((k : ℕ) → get_or bytes k 0 < 256) → word 8 (λ j. bit_at bytes (8 * i + j)) ≡ get_or bytes i 0
unfolding word_at
byte_word bytes i small =
    let at : 8 * i / 8 ≡ i = omega arith in
    word_at-byte bytes (8 * i) (omega arith) small ∙ ap (λ (k : ℕ). get_or bytes k 0) at

module _ (a b : List ℕ) (small-a : (k : ℕ) → get_or a k 0 < 256) (small_b : (k : ℕ) → get_or b k 0 < 256) where
  between-byte : (i : ℕ) → flips_between a b (8 * i) (8 * (i + 1)) ≡ ones (bit_xor (get_or a i 0) (get_or b i 0))
  between-byte i =
      let eight : 8 * (i + 1) - 8 * i ≡ 8 = omega arith in
      between_is a b (8 * i) (8 * (i + 1))
      ∙ ap (λ (n : ℕ). sum n (λ j. differs a b (8 * i + j))) eight
      ∙ sym (ones-word 8 (λ j. differs a b (8 * i + j)) (λ j l. flips-bit a b (8 * i + j)))
      ∙ ap ones
      (sym (word-xor 8 (λ j. bit_at a (8 * i + j)) (λ j. bit_at b (8 * i + j)) (λ j l. bit_at_lt a _) (λ j l. bit_at_lt b _))
      ∙ ap₂ bit_xor (byte_word a i small-a) (byte_word b i small_b))

  pub between-byte-more : (first i : ℕ) → first ≤ i
      → flips_between a b (8 * first) (8 * (i + 1)) ≡ flips_between a b (8 * first) (8 * i) + ones (bit_xor (get_or a i 0) (get_or b i 0))
  between-byte-more first i low = omega (arith, between-append a b (8 * first) (8 * i) (8 * (i + 1)) (omega arith) (omega arith), between-byte i)

-- ---- the gaps, step by step

pub reach-zero : (lost : List ℕ) → reach lost 0 ≡ 0
unfolding reach
reach-zero lost = refl

reach-suc : (lost : List ℕ) (j : ℕ) → reach lost (suc j) ≡ max (reach lost j) (end_of lost j)
unfolding reach
reach-suc lost j = refl

gaps-suc : (lost a b : List ℕ) (j : ℕ)
    → flips_in_gaps lost a b (suc j) ≡ flips_in_gaps lost a b j + flips_between a b (reach lost j) (start_of lost j)
unfolding flips_in_gaps
gaps-suc lost a b j = refl

pub gaps-zero : (lost a b : List ℕ) → flips_in_gaps lost a b 0 ≡ 0
unfolding flips_in_gaps
gaps-zero lost a b = refl

pub gaps-one-more : (lost a b : List ℕ) (j : ℕ)
    → flips_in_gaps lost a b (j + 1) ≡ flips_in_gaps lost a b j + flips_between a b (reach lost j) (start_of lost j)
gaps-one-more lost a b j = ap (flips_in_gaps lost a b) (add-one j) ∙ gaps-suc lost a b j

-- the farthest end after one more pair, as the code finds it
pub reach-more : (lost : List ℕ) (j far end : ℕ) → far ≡ reach lost j → end ≡ end_of lost j → max far end ≡ reach lost (j + 1)
reach-more lost j far end so_far is = omega (arith, ap (reach lost) (add-one j), reach-suc lost j)

-- the gaps lie before the farthest end, one behind the other
pub gaps-le : (lost a b : List ℕ) (m : ℕ) → flips_in_gaps lost a b m ≤ reach lost m
gaps-le lost a b zero = omega (arith, gaps-zero lost a b)
gaps-le lost a b (suc m) =
    omega (arith, gaps-suc lost a b m, gaps-le lost a b m, between_le a b (reach lost m) (start_of lost m), reach-suc lost m, end_is lost m)

-- all gaps, with the number of pairs as the code has it
pub around-is : (N : ℕ) (lost a b : List ℕ) (all : ℕ) → all ≡ length lost / 4
    → flips_in_gaps lost a b all + flips_between a b (reach lost all) N ≡ flips_around N lost a b
unfolding flips_around
around-is N lost a b all e = ap (λ (m : ℕ). flips_in_gaps lost a b m + flips_between a b (reach lost m) N) e

-- ---- a list that passes its check

module _ (N : ℕ) (lost : List ℕ) (fine : (j : ℕ) → j < pair_count lost → Fine N lost j) where
  reach-before : (j : ℕ) → j ≤ pair_count lost → reach lost j ≡ end_before lost j
  reach-before zero h = reach-zero lost ∙ sym (before-zero lost)
  reach-before (suc j) h =
      omega (arith, reach-suc lost j, reach-before j (omega arith), (fine j h).ordered, before-suc lost j, end_is lost j)

  before-within : (j : ℕ) → j ≤ pair_count lost → end_before lost j ≤ N
  before-within zero h = omega (arith, before-zero lost)
  before-within (suc j) h = omega (arith, before-suc lost j, (fine j h).within)

  -- every earlier pair has ended
  ends-before : (k j : ℕ) → k < j → j ≤ pair_count lost → end_of lost k ≤ end_before lost j
  ends-before k zero l h = absurd (not-suc-le-zero l)
  ends-before k (suc j) l h =
      elim (eq-or-lt_of_le (le_of_suc-le-suc l)) [
        | inl q ↦ rw q (le_of_eq (sym (before-suc lost j)))
        | inr b ↦ omega (arith, ends-before k j b (omega arith), (fine j h).ordered, before-suc lost j, end_is lost j)
      ]

  -- a bit behind the pair before pair j and before pair j, where there is one, is in no span
  gap-kept : (j i : ℕ) → j ≤ pair_count lost → end_before lost j ≤ i → (j < pair_count lost → i < start_of lost j) → is_lost lost i ≡ false
  gap-kept j i h low high = lost-missed lost i missed
    where
      missed : (k : ℕ) → k < pair_count lost → Missed lost i k
      missed k l =
          elim (dec_le j k) [
            | no b ↦ inr (omega (arith, ends-before k j (omega arith) h))
            | yes c ↦ elim (eq-or-lt_of_le c) [
              | inl q ↦ inl (rw (← q) (high (rw (← q) at l)))
              | inr b ↦ inl (omega (arith, high (omega arith), end_is lost j, ends-before j k b (omega arith), (fine k l).ordered))
            ]
          ]

  module _ (a b : List ℕ) where
    abbrev kept : ℕ → ℕ
    kept i = cond (is_lost lost i) 0 (differs a b i)

    -- the sum up to a bit of a gap, or behind it, is that up to the gap and every bit of the gap in which the blocks differ
    gap-counts : (j to : ℕ) → j ≤ pair_count lost → end_before lost j ≤ to → (j < pair_count lost → to ≤ start_of lost j)
        → sum to kept ≡ sum (end_before lost j) kept + flips_between a b (end_before lost j) to
    gap-counts j to h low high =
        let start = end_before lost j in
        let split : to ≡ start + (to - start) = omega arith in
        let free : (i : ℕ) → i < to - start → is_lost lost (start + i) ≡ false =
        λ i l. gap-kept j (start + i) h (omega arith) (λ some. omega (arith, high some)) in
        ap (λ (m : ℕ). sum m kept) split
        ∙ sum-append start (to - start) kept
        ∙ ap (λ (x : ℕ). sum start kept + x)
        (sum-ext (to - start) _ (λ i. differs a b (start + i)) (λ i l. rw (free i l)) ∙ sym (between_is a b start to))

    -- a pair adds nothing
    pair-counts : (j : ℕ) → j < pair_count lost → sum (end_of lost j) kept ≡ sum (start_of lost j) kept
    pair-counts j l =
        let start = start_of lost j in
        let taken : (i : ℕ) → i < length_of lost j → is_lost lost (start + i) ≡ true =
        λ i k. lost-in lost (start + i) j l (omega arith) (omega (arith, end_is lost j)) in
        ap (λ (m : ℕ). sum m kept) (end_is lost j)
        ∙ omega (arith, sum-append start (length_of lost j) kept, sum-none (length_of lost j) (λ i. kept (start + i)) (λ i k. rw (taken i k)))

    gaps-sum : (j : ℕ) → j ≤ pair_count lost → flips_in_gaps lost a b j ≡ sum (end_before lost j) kept
    gaps-sum zero h = gaps-zero lost a b ∙ sym (ap (λ (m : ℕ). sum m kept) (before-zero lost) ∙ sum-zero kept)
    gaps-sum (suc j) h =
        gaps-suc lost a b j
        ∙ ap₂ (λ (x r : ℕ). x + flips_between a b r (start_of lost j)) (gaps-sum j (omega arith)) (reach-before j (omega arith))
        ∙ sym (gap-counts j (start_of lost j) (omega arith) (fine j h).ordered (λ l. le_refl _))
        ∙ sym (pair-counts j h)
        ∙ ap (λ (m : ℕ). sum m kept) (sym (before-suc lost j))

    around-kept : flips_around N lost a b ≡ sum N kept
    unfolding flips_around
    around-kept =
        let all = pair_count lost in
        ap₂ (λ (x r : ℕ). x + flips_between a b r N) (gaps-sum all (le_refl all)) (reach-before all (le_refl all))
        ∙ sym (gap-counts all N (le_refl all) (before-within all (le_refl all)) (λ l. absurd (omega arith)))

pub flips-around : (N : ℕ) (lost a b : List ℕ) {values : List ℕ} → spans_check N lost ≡ done values
    → flips_around N lost a b ≡ flips_outside N lost a b
unfolding flips_outside
flips-around N lost a b e = around-kept N lost (spans-each N lost e) a b
