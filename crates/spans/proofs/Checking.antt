-- The check of a list of lost spans: its outcome by each test, and what a list that passes is.
--   start_of, length_of, end_of, end_before   the bits of a pair and the end of the pair before it (specs Spans)
--   span_check N lost j                    pair j alone: 25, 26 or done with no value (specs Spans)
--   pairs_check N lost m                   the first faulty pair below m (specs Spans)
--   spans_check N lost                     the whole check: 24, 25, 26 or done with no value (specs Spans)
--   is_lost lost i                         bit i is in a span (specs Spans)
--   filled b lost block                   the block with every lost bit made b (specs Spans)
--   Fine N lost j                         pair j has a bit, ends within N bits and begins at or behind the previous pair's end
--   Numbered reply                        a reply that refuses does so by 24, 25 or 26
-- Laws are named by their subject, then by the fact: `before-` is about end_before, `span-` about the test of one pair, `pairs-` about that of
-- all pairs below m, `spans-` about the whole check, `numbered-` about the numbers of refusals, `lost-` and `filled-` about the bits of a list
-- that passes. At the end of a name, `-tests` writes a check out, `-passed` and `-each` lead from a check to the facts, `-refused` and `-all` are
-- the outcomes of a loop over the pairs, `-number` is about the number of a refusal, `-done` about the values that are told.
use Rattle.std.proofs.Common.{ℕ, zero, suc, ◌+◌, ◌/◌, ◌%◌, ◌≤◌, ◌<◌, Bool, true, false, not, ◌||◌, List, [], ⊎_elim, ◌≡◌, refl, sym, ap}
use Rattle.std.proofs.Common.{◌∙◌, not-suc-le-zero, eq-or-lt_of_le, le_of_suc-le-suc, add-one, arith, ltb, eqb, length, ltb-false, lt-ltb}
use Rattle.std.proofs.Common.{le-ltb, eqb-true, eq-eqb, ne_eqb}
use mathlib.Core.Bool.{or-true}
use borrow.Author.Tests.{eqb-false, not-false}
use Rattle.bits.proofs.Tests.{or-neither}
use Rattle.inner_code.specs.Reply.{Reply, done, refused, refuse_if, and_then}
use Rattle.inner_code.proofs.Replies.{refuse-taken, refuse-passed, refuse-done, and_then-passed, and_then-refused, and_then-done}
use Rattle.wiring.specs.Block.{block_check}
use Rattle.wiring.proofs.Blocks.{block-sized, block-clear, block_back}
use Rattle.spans.specs.Spans.{pair_count, start_of, length_of, end_of, end_before, span_check, pairs_check, spans_check, is_lost, filled}
use Rattle.spans.proofs.Filling.{lost-found, length-filled, filled-kept}

-- ---- one pair

pub before-zero : (lost : List ℕ) → end_before lost 0 ≡ 0
unfolding end_before
before-zero lost = refl

pub before-suc : (lost : List ℕ) (j : ℕ) → end_before lost (suc j) ≡ end_of lost j
unfolding end_before
before-suc lost j = refl

pub record Fine (N : ℕ) (lost : List ℕ) (j : ℕ) : Type 0 where
  pub some : 0 < length_of lost j
  pub within : end_of lost j ≤ N
  pub ordered : end_before lost j ≤ start_of lost j

module _ (N : ℕ) (lost : List ℕ) (j : ℕ) where
  span-tests : span_check N lost j
      ≡ refuse_if (eqb (length_of lost j) 0 || ltb N (end_of lost j)) 25 0 (refuse_if (ltb (start_of lost j) (end_before lost j)) 26 0 (done []))
  unfolding span_check
  span-tests = refl

  pub span-empty : length_of lost j ≡ 0 → span_check N lost j ≡ refused 25 0
  span-empty e = span-tests ∙ refuse-taken _ 25 0 _ (rw (eq-eqb _ _ e))

  pub span-beyond : N < end_of lost j → span_check N lost j ≡ refused 25 0
  span-beyond l = span-tests ∙ refuse-taken _ 25 0 _ (rw (lt-ltb _ _ l) (or-true (eqb (length_of lost j) 0)))

  module _ (some : length_of lost j ≡ 0 → ⊥) (within : end_of lost j ≤ N) where
    past_first : span_check N lost j ≡ refuse_if (ltb (start_of lost j) (end_before lost j)) 26 0 (done [])
    past_first = span-tests ∙ refuse-passed _ 25 0 _ (rw (ne_eqb _ _ some, le-ltb _ _ within))

    pub span-early : start_of lost j < end_before lost j → span_check N lost j ≡ refused 26 0
    span-early l = past_first ∙ refuse-taken _ 26 0 _ (lt-ltb _ _ l)

    pub span-fine : end_before lost j ≤ start_of lost j → span_check N lost j ≡ done []
    span-fine l = past_first ∙ refuse-passed _ 26 0 _ (le-ltb _ _ l)

  span-passed : {values : List ℕ} → span_check N lost j ≡ done values → Fine N lost j
  span-passed {values} e =
      let (first, rest) = refuse-done _ 25 0 _ values (sym span-tests ∙ e) in
      let (some, low) = or-neither (eqb (length_of lost j) 0) (ltb N (end_of lost j)) first in
      let (late, end) = refuse-done _ 26 0 _ values rest in
      record {
        some = omega (arith, eqb-false (length_of lost j) 0 some);
        within = ltb-false _ _ low;
        ordered = ltb-false _ _ late;
      }

  span-done : {values : List ℕ} → span_check N lost j ≡ done values → span_check N lost j ≡ done []
  span-done e = let fine = span-passed e in span-fine (λ q. omega (arith, fine.some)) fine.within fine.ordered

-- ---- the pairs below m

pub pairs-zero : (N : ℕ) (lost : List ℕ) → pairs_check N lost 0 ≡ done []
unfolding pairs_check
pairs-zero N lost = refl

pub pairs-one-more : (N : ℕ) (lost : List ℕ) (j : ℕ) → pairs_check N lost j ≡ done [] → span_check N lost j ≡ done []
    → pairs_check N lost (j + 1) ≡ done []
unfolding pairs_check
pairs-one-more N lost j e f = rw add-one (and_then-passed _ _ [] e ∙ f)

-- a loop that stops at pair j has the refusal of the whole
pairs-refused : (N : ℕ) (lost : List ℕ) (m j a b : ℕ) → pairs_check N lost j ≡ done [] → span_check N lost j ≡ refused a b → j < m
    → pairs_check N lost m ≡ refused a b
unfolding pairs_check
pairs-refused N lost zero j a b e f l = absurd (not-suc-le-zero l)
pairs-refused N lost (suc m) j a b e f l =
    ⊎_elim (λ (q : j ≡ m). and_then-passed _ _ [] (rw q at e) ∙ rw q at f)
    (λ (k : j < m). and_then-refused _ _ a b (pairs-refused N lost m j a b e f k)) (eq-or-lt_of_le (le_of_suc-le-suc l))

pairs-each : {values : List ℕ} (N : ℕ) (lost : List ℕ) (m : ℕ) → pairs_check N lost m ≡ done values → (j : ℕ) → j < m → Fine N lost j
unfolding pairs_check
pairs-each N lost zero e j l = absurd (not-suc-le-zero l)
pairs-each {values} N lost (suc m) e j l =
    let ((passed, before), last) = and_then-done _ _ values e in
    ⊎_elim (λ (q : j ≡ m). rw q (span-passed N lost m last)) (λ (k : j < m). pairs-each {values = passed} N lost m before j k)
    (eq-or-lt_of_le (le_of_suc-le-suc l))

pairs-done : {values : List ℕ} (N : ℕ) (lost : List ℕ) (m : ℕ) → pairs_check N lost m ≡ done values → pairs_check N lost m ≡ done []
unfolding pairs_check
pairs-done N lost zero e = refl
pairs-done {values} N lost (suc m) e =
    let ((passed, before), last) = and_then-done _ _ values e in
    and_then-passed (pairs_check N lost m) (span_check N lost m) passed before ∙ span-done N lost m last

-- ---- the whole list

module _ (N : ℕ) (lost : List ℕ) where
  spans-tests : spans_check N lost ≡ refuse_if (not (eqb (length lost % 4) 0)) 24 0 (pairs_check N lost (pair_count lost))
  unfolding spans_check
  spans-tests = refl

  pub spans-unsized : (length lost % 4 ≡ 0 → ⊥) → spans_check N lost ≡ refused 24 0
  spans-unsized other = spans-tests ∙ refuse-taken _ 24 0 _ (ap not (ne_eqb _ _ other))

  spans-pairs : length lost % 4 ≡ 0 → spans_check N lost ≡ pairs_check N lost (pair_count lost)
  spans-pairs whole = spans-tests ∙ refuse-passed _ 24 0 _ (ap not (eq-eqb _ _ whole))

  -- the outcome as a loop over the pairs finds it
  pub spans-refused : (j a b : ℕ) → length lost % 4 ≡ 0 → pairs_check N lost j ≡ done [] → span_check N lost j ≡ refused a b → j < length lost / 4
      → spans_check N lost ≡ refused a b
  unfolding pair_count
  spans-refused j a b whole before here l = spans-pairs whole ∙ pairs-refused N lost (length lost / 4) j a b before here l

  pub spans_all : length lost % 4 ≡ 0 → pairs_check N lost (length lost / 4) ≡ done [] → spans_check N lost ≡ done []
  unfolding pair_count
  spans_all whole all = spans-pairs whole ∙ all

  spans-split : {values : List ℕ} → spans_check N lost ≡ done values
      → (length lost % 4 ≡ 0) × (pairs_check N lost (pair_count lost) ≡ done values)
  spans-split {values} e =
      let (whole, pairs) = refuse-done _ 24 0 _ values (sym spans-tests ∙ e) in (eqb-true _ _ (not-false _ whole), pairs)

  pub spans-each : {values : List ℕ} → spans_check N lost ≡ done values → (j : ℕ) → j < pair_count lost → Fine N lost j
  spans-each e = pairs-each N lost (pair_count lost) (spans-split e).1

  pub spans-done : {values : List ℕ} → spans_check N lost ≡ done values → spans_check N lost ≡ done []
  spans-done e = let (whole, pairs) = spans-split e in spans-pairs whole ∙ pairs-done N lost (pair_count lost) pairs

pub spans-none : (N : ℕ) → spans_check N [] ≡ done []
unfolding spans_check
spans-none N = refl

-- ---- the number of a refusal

abbrev Numbered : Reply → Type 0
Numbered reply = (number place : ℕ) → reply ≡ refused number place → (24 ≤ number) × (number ≤ 26)

numbered-done : (values : List ℕ) → Numbered (done values)
numbered-done values number place e = let z : ◌≡◌ {A = ℕ} 0 1 = cc in absurd (omega arith)

numbered-refuse : (t : Bool) (n : ℕ) (next : Reply) → 24 ≤ n → n ≤ 26 → Numbered next → Numbered (refuse_if t n 0 next)
unfolding refuse_if
numbered-refuse true n next low high rest number place e = let is : n ≡ number = cc in (omega arith, omega arith)
numbered-refuse false n next low high rest number place e = rest number place e

numbered-then : (first next : Reply) → Numbered first → Numbered next → Numbered (and_then first next)
unfolding and_then
numbered-then (done values) next one two = two
numbered-then (refused n p) next one two = one

span-number : (N : ℕ) (lost : List ℕ) (j : ℕ) → Numbered (span_check N lost j)
span-number N lost j number place e =
    numbered-refuse _ 25 _ (omega arith) (omega arith) (numbered-refuse _ 26 _ (omega arith) (omega arith) (numbered-done [])) number place
    (sym (span-tests N lost j) ∙ e)

pairs-number : (N : ℕ) (lost : List ℕ) (m : ℕ) → Numbered (pairs_check N lost m)
unfolding pairs_check
pairs-number N lost zero = numbered-done []
pairs-number N lost (suc m) = numbered-then (pairs_check N lost m) (span_check N lost m) (pairs-number N lost m) (span-number N lost m)

pub spans-number : (N : ℕ) (lost : List ℕ) {number place : ℕ} → spans_check N lost ≡ refused number place → (24 ≤ number) × (number ≤ 26)
spans-number N lost {number} {place} e =
    numbered-refuse _ 24 _ (omega arith) (omega arith) (pairs-number N lost (pair_count lost)) number place (sym (spans-tests N lost) ∙ e)

-- ---- the bits of a list that passes

lost-below : (N : ℕ) (lost : List ℕ) {values : List ℕ} → spans_check N lost ≡ done values → (i : ℕ) → is_lost lost i ≡ true → i < N
lost-below N lost e i l = let (j, below, h, k) = lost-found lost i l in omega (arith, (spans-each N lost e j below).within)

pub filled-block : (N b : ℕ) (lost block : List ℕ) {values : List ℕ} → spans_check N lost ≡ done values → b < 2 → block_check N block ≡ done []
    → block_check N (filled b lost block) ≡ done []
filled-block N b lost block e bit pass =
    block_back N (filled b lost block) (length-filled b lost block ∙ block-sized N block pass)
    (λ i h. filled-kept b lost block bit i (kept i h (is_lost lost i) refl) ∙ block-clear N block pass i h)
  where
    kept : (i : ℕ) → N ≤ i → (t : Bool) → is_lost lost i ≡ t → is_lost lost i ≡ false
    kept i h true q = absurd (omega (arith, lost-below N lost e i q))
    kept i h false q = q
