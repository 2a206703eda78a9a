-- When a block settles, and what the decoder answers and leaves.
--   swept_block plan i block      the block after i sweeps (specs Decode)
--   settled_after plan block i    the block after i sweeps is a codeword (specs Decode)
--   settles_at plan block H       the first count from 0 to H after which it is, H + 1 where none is (specs Decode)
--   trial plan block H           what a trial ends in (specs Decode)
--   keeps_ones .., decoding ..    which of the trials with the lost bits 0 and 1 is kept, and what a decoding ends in (specs Decode)
--   filled b lost block          the block with every lost bit made b (spans specs Spans)
--   flips_outside N lost a b      in how many bits outside the spans two blocks differ (spans specs Spans)
--   decode_check ..               what stops a decoder call before it decodes (specs Answer)
--   decode_answer, decode_sums, decode_visits, decode_output   what the decoder answers, the sums and the visits that it tells, and its output at exit
--                                (specs Answer)
--   DecodingIs .. reply sums visits left   the decoder answers `reply`, tells `sums` and `visits` and leaves the output `left`
--   Answered .. reply sums visits left  the same as a function that decodes ensures it
-- Laws are named by their subject, then by the fact: `settles-` is about the count at which a block settles, `keeps-` about the trial that is
-- kept, `check-` about the tests before a decoding, one outcome each, and `decode-` gives answer, sums, visits and output at one outcome each: a
-- check that refuses (-stopped), none that does (-passed), the trial with zeros or with ones kept (-zeros, -ones), 15 (-neither), and where no bit
-- is lost -settled and -unsettled; decode-means leads from a count that is answered there back to what it says. `number-` is about a number that
-- is told.
use Rattle.std.proofs.Common.{ℕ, ◌+◌, ◌-◌, ◌≤◌, ◌<◌, min, le_refl, Bool, true, false, not, cond, List, [], ◌∷◌, ◌≡◌, refl, sym, ap, ◌∙◌}
use Rattle.std.proofs.Common.{arith, leb, ltb, length, replicate, lt-ltb, le-ltb, le-leb}
use native.Mathlib.Nat.{min-eq_left, min-eq_right}
use native.Mathlib.Decide.{dec_le}
use borrow.Author.Tests.{lt-leb, not-true, not-false}
use Rattle.bits.specs.Bit.{written}
use Rattle.bits.specs.Search.{first_failing}
use Rattle.bits.proofs.Searches.{first-at, first-all, first-failed, first-passed}
use Rattle.inner_code.specs.Reply.{Reply, done, refused, refuse_if, and_then}
use Rattle.inner_code.proofs.Replies.{refuse-taken, refuse-passed, and_then-passed, and_then-refused, and_then-done, if_done-done, if_done-refused}
use Rattle.inner_code.proofs.SheetChecks.{Sound}
use Rattle.wiring.specs.Plan.{Plan, edge_count, sheet_of, side_of}
use Rattle.wiring.specs.Wiring.{plan_check}
use Rattle.wiring.specs.Block.{block_bytes, block_check}
use Rattle.wiring.specs.declared.side.SideName.{SideName}
use Rattle.spans.specs.Spans.{spans_check, flips_outside, filled}
use Rattle.spans.proofs.Filling.{filled_none}
use Rattle.decoder.specs.Decode.{swept_block, settled_after, settles_at, sweep_sums, visits_made, Trial, trial, keeps_ones, decoding}
use Rattle.decoder.specs.Answer.{decode_check, decode_answer, decode_sums, number_if_done, decode_visits, decode_output}
use Rattle.sweeps.proofs.Sweeping.{sheet-mends, after-stays}

-- ---- where a block settles

module _ (plan : Plan) (block : List ℕ) where
  abbrev unsettled : ℕ → Bool
  unsettled i = not (settled_after plan block i)

  settles-tests : (H : ℕ) → settles_at plan block H ≡ first_failing (H + 1) unsettled
  unfolding settles_at
  settles-tests H = refl

  pub settles-at : (H i : ℕ) → i ≤ H → settled_after plan block i ≡ true → ((j : ℕ) → j < i → settled_after plan block j ≡ false)
      → settles_at plan block H ≡ i
  settles-at H i l e before = settles-tests H ∙ first-at (H + 1) unsettled i (omega arith) (λ j h. ap not (before j h)) (ap not e)

  pub settles-none : (H : ℕ) → ((i : ℕ) → i ≤ H → settled_after plan block i ≡ false) → settles_at plan block H ≡ H + 1
  settles-none H none = settles-tests H ∙ first-all (H + 1) unsettled (λ i l. ap not (none i (omega arith)))

  pub settles-codeword : (H i : ℕ) → settles_at plan block H ≡ i → i ≤ H → settled_after plan block i ≡ true
  settles-codeword H i e l =
      let found : first_failing (H + 1) unsettled ≡ i = sym (settles-tests H) ∙ e in
      not-false _ (rw found at (first-failed (H + 1) unsettled (omega arith)))

  pub settles-first : (H i : ℕ) → settles_at plan block H ≡ i → (j : ℕ) → j < i → settled_after plan block j ≡ false
  settles-first H i e j l = not-true _ (first-passed (H + 1) unsettled j (omega (arith, settles-tests H)))

  -- a settled block stays
  pub settles-stays : ((name : SideName) → Sound (sheet_of plan name)) → (H : ℕ) → settles_at plan block H ≤ H → (j : ℕ) → settles_at plan block H ≤ j
      → swept_block plan j block ≡ swept_block plan (settles_at plan block H) block
  settles-stays s H l j h =
      let i : ℕ = settles_at plan block H in
      let later : i + (j - i) ≡ j = omega arith in
      rw later at (after-stays (side_of plan) (sheet-mends plan s) i (j - i) block (settles-codeword H i refl l))

-- ---- which trial is kept

module _ (plan : Plan) (received lost : List ℕ) (H : ℕ) where
  -- the block at which the trial with the lost bits b settles, and the received bits that it changes outside the spans
  abbrev pub settled_from : ℕ → List ℕ
  settled_from b = swept_block plan (settles_at plan (filled b lost received) H) (filled b lost received)

  abbrev pub changed_from : ℕ → ℕ
  changed_from b = flips_outside (edge_count plan) lost received (settled_from b)

  abbrev trial_from : ℕ → Trial
  trial_from b = trial plan (filled b lost received) H

  abbrev ones_kept : Bool
  ones_kept = keeps_ones (edge_count plan) lost received (trial_from 0) (trial_from 1)

  -- the trial that is kept, by whether it is the one with ones
  abbrev kept_by : Bool → Trial
  kept_by ones = cond ones (trial_from 1) (trial_from 0)

  keeps-zeros : settles_at plan (filled 0 lost received) H ≤ H
      → (settles_at plan (filled 1 lost received) H ≤ H → changed_from 0 ≤ changed_from 1) → ones_kept ≡ false
  unfolding keeps_ones trial
  keeps-zeros in-time fewer =
      elim (dec_le (settles_at plan (filled 1 lost received) H) H) [
        | yes both ↦ rw (le-leb _ _ both, le-leb _ _ in-time, le-ltb _ _ (fewer both))
        | no late ↦ rw (lt-leb (settles_at plan (filled 1 lost received) H) H (omega arith))
      ]

  keeps-ones : settles_at plan (filled 1 lost received) H ≤ H
      → (settles_at plan (filled 0 lost received) H ≤ H → changed_from 1 < changed_from 0) → ones_kept ≡ true
  unfolding keeps_ones trial
  keeps-ones in-time fewer =
      elim (dec_le (settles_at plan (filled 0 lost received) H) H) [
        | yes both ↦ rw (le-leb _ _ both, le-leb _ _ in-time, lt-ltb _ _ (fewer both))
        | no late ↦ rw (le-leb _ _ in-time, lt-leb (settles_at plan (filled 0 lost received) H) H (omega arith))
      ]

  keeps-neither : H < settles_at plan (filled 1 lost received) H → ones_kept ≡ false
  unfolding keeps_ones trial
  keeps-neither late = rw (lt-leb (settles_at plan (filled 1 lost received) H) H late)

-- ---- what the decoder answers and leaves

number-done : (reply : Reply) (number : ℕ) (values : List ℕ) → reply ≡ done values → number_if_done reply number ≡ number
unfolding number_if_done
number-done reply number values e = rw e

number-refused : (reply : Reply) (number n p : ℕ) → reply ≡ refused n p → number_if_done reply number ≡ 0
unfolding number_if_done
number-refused reply number n p e = rw e

pub record DecodingIs (plan : Plan) (received lost output : List ℕ) (H : ℕ) (reply : Reply) (sums : List ℕ) (visits : ℕ) (left : List ℕ)
    : Type 0 where
  pub answer : decode_answer plan received lost output H ≡ reply
  pub tells : decode_sums plan received lost output H ≡ sums
  pub visited : decode_visits plan received lost output H ≡ visits
  pub leaves : decode_output plan received lost output H ≡ left

module _ (plan : Plan) (received lost output : List ℕ) (H : ℕ) where
  -- a check that refuses leaves the output as it is
  pub decode-stopped : {number place : ℕ} → decode_check plan received lost output H ≡ refused number place
      → DecodingIs plan received lost output H (refused number place) (replicate 64 0) 0 output
  unfolding decode_answer decode_sums decode_visits decode_output
  decode-stopped {number} {place} e =
      record {
        answer = and_then-refused _ _ number place e;
        tells = if_done-refused _ _ (replicate 64 0) number place e;
        visited = number-refused _ _ number place e;
        leaves = if_done-refused _ _ output number place e;
      }

  module _ {values : List ℕ} (pass : decode_check plan received lost output H ≡ done values) where
    -- the decoding is answered
    pub decode-passed : DecodingIs plan received lost output H
        (refuse_if (not (decoding plan received lost H).settled) 15 0 (done ((decoding plan received lost H).count ∷ [])))
        (decoding plan received lost H).sums (decoding plan received lost H).visits (written (decoding plan received lost H).block output)
    unfolding decode_answer decode_sums decode_visits decode_output
    decode-passed =
        record {
          answer = and_then-passed _ _ values pass;
          tells = if_done-done _ _ (replicate 64 0) values pass;
          visited = number-done _ _ values pass;
          leaves = if_done-done _ _ output values pass;
        }

    decode-kept : (kept : Trial) → kept_by plan received lost H (ones_kept plan received lost H) ≡ kept
        → DecodingIs plan received lost output H (refuse_if (not kept.settled) 15 0 (done (kept.count ∷ []))) kept.sums kept.visits
        (written (cond kept.settled kept.block received) output)
    unfolding decoding
    decode-kept kept e =
        let r = decode-passed in
        record {
          answer = r.answer ∙ ap (λ (t : Trial). refuse_if (not t.settled) 15 0 (done (t.count ∷ []))) e;
          tells = r.tells ∙ ap (λ (t : Trial). t.sums) e;
          visited = r.visited ∙ ap (λ (t : Trial). t.visits) e;
          leaves = r.leaves ∙ ap (λ (t : Trial). written (cond t.settled t.block received) output) e;
        }

    -- the trial that is kept, where it settles
    decode-from : (b : ℕ) → kept_by plan received lost H (ones_kept plan received lost H) ≡ trial_from plan received lost H b
        → settles_at plan (filled b lost received) H ≤ H
        → DecodingIs plan received lost output H (done (settles_at plan (filled b lost received) H ∷ []))
        (sweep_sums plan (filled b lost received) (settles_at plan (filled b lost received) H))
        (visits_made plan (filled b lost received) (settles_at plan (filled b lost received) H)) (written (settled_from plan received lost H b) output)
    unfolding trial
    decode-from b e l =
        let r = decode-kept (trial_from plan received lost H b) e in
        let in-time : leb (settles_at plan (filled b lost received) H) H ≡ true = le-leb _ H l in
        record {
          answer = r.answer ∙ refuse-passed _ 15 0 _ (ap not in-time);
          tells = r.tells ∙ ap (sweep_sums plan (filled b lost received)) (min-eq_left l);
          visited = r.visited ∙ ap (visits_made plan (filled b lost received)) (min-eq_left l);
          leaves = r.leaves ∙ ap (λ (t : Bool). written (cond t (settled_from plan received lost H b) received) output) in-time;
        }

    pub decode-zeros : settles_at plan (filled 0 lost received) H ≤ H
        → (settles_at plan (filled 1 lost received) H ≤ H → changed_from plan received lost H 0 ≤ changed_from plan received lost H 1)
        → DecodingIs plan received lost output H (done (settles_at plan (filled 0 lost received) H ∷ []))
        (sweep_sums plan (filled 0 lost received) (settles_at plan (filled 0 lost received) H))
        (visits_made plan (filled 0 lost received) (settles_at plan (filled 0 lost received) H)) (written (settled_from plan received lost H 0) output)
    decode-zeros l fewer = decode-from 0 (ap (kept_by plan received lost H) (keeps-zeros plan received lost H l fewer)) l

    pub decode-ones : settles_at plan (filled 1 lost received) H ≤ H
        → (settles_at plan (filled 0 lost received) H ≤ H → changed_from plan received lost H 1 < changed_from plan received lost H 0)
        → DecodingIs plan received lost output H (done (settles_at plan (filled 1 lost received) H ∷ []))
        (sweep_sums plan (filled 1 lost received) (settles_at plan (filled 1 lost received) H))
        (visits_made plan (filled 1 lost received) (settles_at plan (filled 1 lost received) H)) (written (settled_from plan received lost H 1) output)
    decode-ones l fewer = decode-from 1 (ap (kept_by plan received lost H) (keeps-ones plan received lost H l fewer)) l

    pub decode-neither : H < settles_at plan (filled 0 lost received) H → H < settles_at plan (filled 1 lost received) H
        → DecodingIs plan received lost output H (refused 15 0) (sweep_sums plan (filled 0 lost received) H)
        (visits_made plan (filled 0 lost received) H) (written received output)
    unfolding trial
    decode-neither past late =
        let r = decode-kept (trial_from plan received lost H 0) (ap (kept_by plan received lost H) (keeps-neither plan received lost H late)) in
        let not-in-time : leb (settles_at plan (filled 0 lost received) H) H ≡ false = lt-leb _ _ past in
        let made : min (settles_at plan (filled 0 lost received) H) H ≡ H = min-eq_right (omega arith) in
        record {
          answer = r.answer ∙ refuse-taken _ 15 0 _ (ap not not-in-time);
          tells = r.tells ∙ ap (sweep_sums plan (filled 0 lost received)) made;
          visited = r.visited ∙ ap (visits_made plan (filled 0 lost received)) made;
          leaves = r.leaves ∙ ap (λ (t : Bool). written (cond t (settled_from plan received lost H 0) received) output) not-in-time;
        }

  -- ---- the tests before a decoding, from those that have passed and the one that refuses

  pub check-plan : {number place : ℕ} → plan_check plan ≡ refused number place → decode_check plan received lost output H ≡ refused number place
  unfolding decode_check
  check-plan {number} {place} e = and_then-refused _ _ number place e

  module _ {values : List ℕ} (accepted : plan_check plan ≡ done values) where
    pub check-block : {number place : ℕ} → block_check (edge_count plan) received ≡ refused number place
        → decode_check plan received lost output H ≡ refused number place
    unfolding decode_check
    check-block {number} {place} e = and_then-passed _ _ values accepted ∙ and_then-refused _ _ number place e

    module _ {passed : List ℕ} (pass : block_check (edge_count plan) received ≡ done passed) where
      pub check-spans : {number place : ℕ} → spans_check (edge_count plan) lost ≡ refused number place
          → decode_check plan received lost output H ≡ refused number place
      unfolding decode_check
      check-spans {number} {place} e =
          and_then-passed _ _ values accepted ∙ and_then-passed _ _ passed pass ∙ and_then-refused _ _ number place e

      module _ {listed : List ℕ} (spanned : spans_check (edge_count plan) lost ≡ done listed) where
        past-spans : decode_check plan received lost output H
            ≡ refuse_if (ltb (length output) (block_bytes (edge_count plan))) 13 0 (refuse_if (ltb 4096 H) 14 0 (done []))
        unfolding decode_check
        past-spans = and_then-passed _ _ values accepted ∙ and_then-passed _ _ passed pass ∙ and_then-passed _ _ listed spanned

        pub check-short : length output < block_bytes (edge_count plan) → decode_check plan received lost output H ≡ refused 13 0
        check-short short = past-spans ∙ refuse-taken _ 13 0 _ (lt-ltb _ _ short)

        module _ (room : block_bytes (edge_count plan) ≤ length output) where
          past_room : decode_check plan received lost output H ≡ refuse_if (ltb 4096 H) 14 0 (done [])
          past_room = past-spans ∙ refuse-passed _ 13 0 _ (le-ltb _ _ room)

          pub check-limit : 4096 < H → decode_check plan received lost output H ≡ refused 14 0
          check-limit high = past_room ∙ refuse-taken _ 14 0 _ (lt-ltb _ _ high)

          pub check-passed : H ≤ 4096 → decode_check plan received lost output H ≡ done []
          check-passed limited = past_room ∙ refuse-passed _ 14 0 _ (le-ltb _ _ limited)

-- ---- where no bit is lost, both trials are of the received block

module _ (plan : Plan) (received output : List ℕ) (H : ℕ) where
  module _ {values : List ℕ} (pass : decode_check plan received [] output H ≡ done values) where
    pub decode-settled : (count : ℕ) → settles_at plan received H ≡ count → count ≤ H
        → DecodingIs plan received [] output H (done (count ∷ [])) (sweep_sums plan received count) (visits_made plan received count)
        (written (swept_block plan count received) output)
    decode-settled count e l =
        rw (filled_none 0 received, e)
        at (decode-zeros plan received [] output H pass (rw (filled_none 0 received, e) l)
        (λ _. rw (filled_none 0 received, filled_none 1 received) (le_refl _)))

    pub decode-unsettled : H < settles_at plan received H
        → DecodingIs plan received [] output H (refused 15 0) (sweep_sums plan received H) (visits_made plan received H) (written received output)
    decode-unsettled past =
        rw (filled_none 0 received)
        at (decode-neither plan received [] output H pass (rw (filled_none 0 received) past) (rw (filled_none 1 received) past))

  -- a count that is answered is the one at which the block settles, within the limit
  decode-tests : decode_answer plan received [] output H
      ≡ and_then (decode_check plan received [] output H)
      (refuse_if (not (decoding plan received [] H).settled) 15 0 (done ((decoding plan received [] H).count ∷ [])))
  unfolding decode_answer
  decode-tests = refl

  pub decode-means : (count : ℕ) → decode_answer plan received [] output H ≡ done (count ∷ [])
      → (settles_at plan received H ≡ count) × (count ≤ H) × ((values : List ℕ) × (decode_check plan received [] output H ≡ done values))
  decode-means count e =
      let (passed, rest) = and_then-done _ _ (count ∷ []) (sym decode-tests ∙ e) in
      elim (dec_le (settles_at plan received H) H) [
        | yes in-time ↦
            let same = sym (decode-settled passed.1 (settles_at plan received H) refl in-time).answer ∙ e in
            let at : settles_at plan received H ≡ count = cc same in
            (at, omega arith, passed)
        | no late ↦
            let clash = sym (decode-unsettled passed.1 (omega arith)).answer ∙ e in
            let z : ◌≡◌ {A = ℕ} 0 1 = cc clash in
            absurd (omega arith)
      ]
