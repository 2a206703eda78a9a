-- Trials: a block at the front of a buffer is settled there, and what the decoder answers and leaves is told by how its trials come out.
--   written front l               the list l with `front` at its beginning (bits specs Bit)
--   filled b lost block           the block with every lost bit made b: what a trial begins with (spans specs Spans)
--   flips_outside, flips_around     in how many bits outside the spans two blocks differ, and as the code counts them (spans specs Spans, Walking)
--   decode_check ..                what stops a decoder call before it decodes (specs Answer)
--   decode_answer, decode_sums, decode_visits, decode_output    what the decoder answers, the sums and the visits that it tells, and its output at exit
--                                 (specs Answer)
--   Tried ..                      a trial as the code makes it (specs Turns)
--   Opened ..                     its first two sweeps (specs Turns)
--   Decodes ..                    what a function that decodes ensures (specs Answer)
--   settled_from, changed_from ..   the block at which a trial settles, and the received bits that it changes outside the spans (Settling)
--   Passed ..                     what a call knows that nothing stops before it decodes (specs Turns)
--   ByTrial received H trial out r after  a call is answered by a trial whose block stands at the front of `out`: its count, or 15 and the received
--                                 block put back; `after` is what is left (specs Turns)
--   Attempted plan received lost H b attempt block  what the trial with the lost bits b comes to, as the code makes it
-- Laws are named by their subject, then by the fact: `passed-` is about a call that has passed its checks, `over-` about one whose output is written
-- over at the front, `laid-` about a block laid at the front of a buffer and `part-` about any buffer, whose first `size` bytes are lent on and come
-- back as `swept`, `by-` about an answer by a trial, `twice-` about two trials, one outcome each, `kept-` about the tests by which the code keeps one,
-- `front-` about a call whose first two sweeps are made at the front of its output. At the end of a name, `-none` is about the empty list.
-- codeword-answers and copy-codeword are about a block that no sweep changes.
use Rattle.std.proofs.Common.{Ok, Err, ℕ, ◌/◌, ◌≤◌, ◌<◌, min, le_of_eq, Bool, true, false, cond, List, [], ◌∷◌, ◌++◌, ◌≡◌, refl, sym, ap}
use Rattle.std.proofs.Common.{ap₂, ◌∙◌, subst, arith, length, take, drop, replicate, length-take-le, ltb-false, lt-ltb, le-ltb}
use native.Mathlib.Nat.{min-eq_left, min-eq_right}
use native.Mathlib.Decide.{dec_le, ℕ_discrete}
use Rattle.bits.specs.Bit.{written}
use Rattle.bits.proofs.Fronts.{written-part, written_over, written-again, length-written}
use Rattle.inner_code.specs.Reply.{done}
use Rattle.inner_code.proofs.Replies.{and_then-done, refuse-done, refuse-taken, refuse-passed}
use Rattle.wiring.specs.Plan.{Plan, edge_count, side_of}
use Rattle.wiring.specs.Block.{block_bytes, block_check, is_codeword_block, located}
use Rattle.wiring.proofs.Blocks.{block-sized, block-clear, block_back}
use Rattle.wiring.proofs.CodewordBlocks.{located-some}
use Rattle.wiring.proofs.Permutation.{fitted-edges}
use Rattle.wiring.proofs.Plans.{plan-sound, plan-back, plan-entries}
use Rattle.spans.specs.Spans.{flips_outside, filled}
use Rattle.spans.specs.Walking.{flips_around}
use Rattle.spans.proofs.Filling.{filled_none, length-filled}
use Rattle.spans.proofs.Checking.{spans-done, filled-block}
use Rattle.spans.proofs.Gaps.{flips-around}
use Rattle.decoder.specs.Decode.{swept_block, settles_at, sweep_sums, visits_made, Trial, trial, keeps_ones, decoding}
use Rattle.decoder.specs.Turns.{Passed, Tried, Opened, ByTrial}
use Rattle.inner_code.specs.declared.refusal.Refusal.{Refusal}
use Rattle.decoder.specs.declared.decoding.Attempt.{Attempt}
use Rattle.decoder.specs.declared.decoding.Decoding.{Decoding}
use Rattle.decoder.specs.declared.settle.Opening.{Opening}
use Rattle.decoder.specs.declared.settle.Settling.{Settling}
use Rattle.decoder.specs.Answer.{decode_check, Decodes}
use Rattle.decoder.proofs.Settling.{settles-at, settled_from, changed_from, DecodingIs}
use Rattle.decoder.proofs.Settling.{decode-passed, decode-zeros, decode-ones, decode-neither, decode-settled}
use Rattle.decoder.proofs.SweepSums.{sums-zero}
use Rattle.decoder.proofs.VisitCounts.{visits-zero}
use Rattle.sweeps.proofs.Sweeping.{after-zero, length-after}

-- ---- a call that nothing stops before it decodes

pub check-means : (plan : Plan) (received lost output : List ℕ) (H : ℕ) {values : List ℕ} → decode_check plan received lost output H ≡ done values
    → Passed plan received lost output H
unfolding decode_check
check-means plan received lost output H {values} e =
    let ((first, accepted), rest) = and_then-done _ _ values e in
    let ((second, pass), more) = and_then-done _ _ values rest in
    let (listed, tests) = and_then-done _ _ values more in
    let (roomy, last) = refuse-done _ 13 0 _ values tests in
    let (low, end) = refuse-done _ 14 0 _ values last in
    let (s, w) = plan-sound plan accepted in
    let sized = block-sized (edge_count plan) received pass in
    record {
      plan-done = plan-back plan s w;
      block-done = block_back (edge_count plan) received sized (block-clear (edge_count plan) received pass);
      listed = spans-done (edge_count plan) lost listed.1;
      fits = rw sized (ltb-false (length output) (block_bytes (edge_count plan)) roomy);
      limited = ltb-false 4096 H low;
    }

module _ {plan : Plan} {received lost output : List ℕ} {H : ℕ} (p : Passed plan received lost output H) where
  -- the largest block is one of 4,096 bytes
  pub passed-fits : length received ≤ 4096
  unfolding block_bytes
  passed-fits =
      let w = (plan-sound plan p.plan-done).1 in
      omega (arith, block-sized (edge_count plan) received p.block-done, fitted-edges w.left-fits)

  pub passed-filled : (b : ℕ) → b < 2 → block_check (edge_count plan) (filled b lost received) ≡ done []
  passed-filled b l = filled-block (edge_count plan) b lost received p.listed l p.block-done

-- a list of no bytes lists no span
none-lost : (lost : List ℕ) → length lost ≡ 0 → lost ≡ []
none-lost [] e = refl
none-lost (byte ∷ lost) e = absurd (omega arith)

-- ---- a call whose output was written over at the front, by as many bytes as the block has

length-cond : (t : Bool) (a b : List ℕ) {n : ℕ} → length a ≡ n → length b ≡ n → length (cond t a b) ≡ n
length-cond true a b one other = one
length-cond false a b one other = other

length-kept : (t : Bool) (a b : Trial) {n : ℕ} → length a.block ≡ n → length b.block ≡ n → length (cond t a b).block ≡ n
length-kept true a b one other = one
length-kept false a b one other = other

module _ (plan : Plan) (received lost output : List ℕ) (H : ℕ) (checked : decode_check plan received lost output H ≡ done []) where
  length-decoding : length (decoding plan received lost H).block ≡ length received
  unfolding decoding trial
  length-decoding =
      let zeros : Trial = trial plan (filled 0 lost received) H in
      let ones : Trial = trial plan (filled 1 lost received) H in
      let t : Bool = keeps_ones (edge_count plan) lost received zeros ones in
      length-cond (cond t ones zeros).settled (cond t ones zeros).block received (length-kept t ones zeros (each 1) (each 0)) refl
    where
      each : (b : ℕ) → length (settled_from plan received lost H b) ≡ length received
      each b =
          length-after (side_of plan) (settles_at plan (filled b lost received) H) (filled b lost received) ∙ length-filled b lost received

  module _ (front : List ℕ) (sized : length front ≡ length received) where
    over-check : decode_check plan received lost (written front output) H ≡ done []
    unfolding decode_check
    over-check = rw (length-written front output (omega (arith, (check-means plan received lost output H checked).fits))) checked

    over-answers : {r : Decoding} {after : List ℕ} → Decodes plan received lost (written front output) H r after
        → Decodes plan received lost output H r after
    over-answers d =
        let over = decode-passed plan received lost (written front output) H over-check in
        let here = decode-passed plan received lost output H checked in
        record {
          answer = d.answer ∙ over.answer ∙ sym here.answer;
          sums = d.sums ∙ over.tells ∙ sym here.tells;
          visits = d.visits ∙ over.visited ∙ sym here.visited;
          leaves = d.leaves ∙ over.leaves ∙ written-again _ front output (sized ∙ sym length-decoding) ∙ sym here.leaves;
        }

-- ---- a block at the front of a buffer is lent on

module _ (buffer : List ℕ) (size : ℕ) (fits : size ≤ length buffer) (swept : List ℕ) (kept : length swept ≡ length (take size buffer)) where
  part-sized : length swept ≡ size
  part-sized = kept ∙ length-take-le size buffer fits

  -- the buffer with the part back in its place
  part-whole : swept ++ drop size buffer ≡ written swept buffer
  unfolding written
  part-whole = ap (λ (m : ℕ). swept ++ drop m buffer) (sym part-sized)

  pub part-front : take size (swept ++ drop size buffer) ≡ swept
  part-front = ap (take size) part-whole ∙ written-part swept buffer size (sym part-sized)

  pub part-stands : swept ++ drop size buffer ≡ written (take size (swept ++ drop size buffer)) buffer
  part-stands = part-whole ∙ ap (λ (front : List ℕ). written front buffer) (sym part-front)

module _ (block room : List ℕ) {laid : List ℕ} (size : ℕ) (put : laid ≡ written block room) (sized : size ≡ length block) where
  pub laid-part : take size laid ≡ block
  laid-part = ap (take size) put ∙ written-part block room size sized

  module _ (swept : List ℕ) (kept : length swept ≡ length (take size laid)) where
    laid-sized : length swept ≡ length block
    laid-sized = kept ∙ ap length laid-part

    -- the buffer with the part back in its place
    pub laid-whole : swept ++ drop size laid ≡ written swept room
    laid-whole = ap (λ (l : List ℕ). swept ++ drop size l) put ∙ written_over block swept room size sized laid-sized

    pub laid-length : size ≤ length room → length (swept ++ drop size laid) ≡ length room
    laid-length fits = ap length laid-whole ∙ length-written swept room (omega (arith, laid-sized))

    -- a trial that is opened there
    pub laid-opened : {plan : Plan} {H : ℕ} {opening : Opening} {words : List ℕ} → Opened plan (take size laid) H opening words swept
        → Opened plan block opening.limit opening words (take size (swept ++ drop size laid))
    laid-opened {plan} {H} {opening} {words} opened =
        let front = ap (take size) laid-whole ∙ written-part swept room size (sized ∙ sym laid-sized) in
        rw (front, ← laid-part)
        (subst (λ (limit : ℕ). Opened plan (take size laid) limit opening words swept) (sym opened.limit_is) opened)

-- ---- an answer by a trial

module _ (received : List ℕ) (H : ℕ) (trial : Settling) (out : List ℕ) where
  pub by-settled : trial.count ≤ H
      → ByTrial received H trial out (record { outcome = Ok trial.count; sums = trial.sums; visits = trial.visits }) out
  by-settled l =
      let within = le-ltb H trial.count l in
      record {
        answer = sym (refuse-passed _ 15 0 _ within);
        sums = refl;
        visits = refl;
        leaves = ap (λ (t : Bool). cond t (written received out) out) (sym within);
      }

  pub by-unsettled : {after : List ℕ} → H < trial.count → after ≡ written received out
      → ByTrial received H trial out
      (record { outcome = Err Refusal.Unsettled; sums = trial.sums; visits = trial.visits }) after
  by-unsettled l e =
      let past = lt-ltb H trial.count l in
      record {
        answer = sym (refuse-taken _ 15 0 _ past);
        sums = refl;
        visits = refl;
        leaves = e ∙ ap (λ (t : Bool). cond t (written received out) out) (sym past);
      }

-- where no bit is lost, both trials are of the received block
trials-same : (received lost : List ℕ) → length lost ≡ 0 → filled 1 lost received ≡ filled 0 lost received
trials-same received lost e =
    let none = none-lost lost e in
    ap (λ (l : List ℕ). filled 1 l received) none ∙ filled_none 1 received
    ∙ sym (ap (λ (l : List ℕ). filled 0 l received) none ∙ filled_none 0 received)

-- ---- which trial is kept

pub record Attempted (plan : Plan) (received lost : List ℕ) (H b : ℕ) (attempt : Attempt) (block : List ℕ) : Type 0 where
  pub tried : Tried plan (filled b lost received) H attempt.settling.count attempt.settling.sums attempt.settling.visits block
  pub changes : (length lost ≡ 0 → ⊥) → attempt.changed ≡ flips_around (length plan.wiring / 2) lost received block

module _ (plan : Plan) (received lost output : List ℕ) (H : ℕ) (checked : decode_check plan received lost output H ≡ done []) where
  -- the bits that a trial changes outside the spans, as the code counts them
  changed-from : (b : ℕ) {count visits : ℕ} {sums swept block : List ℕ} → Tried plan (filled b lost received) H count sums visits swept
      → count ≤ H → block ≡ swept → {changed : ℕ} → changed ≡ flips_around (length plan.wiring / 2) lost received block
      → changed ≡ changed_from plan received lost H b
  changed-from b t l same e =
      let passed = check-means plan received lost output H checked in
      e ∙ ap₂ (λ (N : ℕ) (block : List ℕ). flips_around N lost received block) (plan-entries plan passed.plan-done) same
      ∙ flips-around (edge_count plan) lost received _ passed.listed
      ∙ ap (flips_outside (edge_count plan) lost received)
      (t.leaves l ∙ ap (λ (i : ℕ). swept_block plan i (filled b lost received)) (sym t.counted))

  -- the trial that is kept, where it settles
  kept-answers : (b : ℕ) {trial : Settling} {swept out after : List ℕ} {r : Decoding}
      → Tried plan (filled b lost received) H trial.count trial.sums trial.visits swept → trial.count ≤ H → out ≡ written swept output
      → ByTrial received H trial out r after
      → DecodingIs plan received lost output H (done (settles_at plan (filled b lost received) H ∷ []))
      (sweep_sums plan (filled b lost received) (settles_at plan (filled b lost received) H))
      (visits_made plan (filled b lost received) (settles_at plan (filled b lost received) H)) (written (settled_from plan received lost H b) output)
      → Decodes plan received lost output H r after
  kept-answers b {trial = trial} {out = out} t l e by kept =
      let within = le-ltb H trial.count l in
      let at = sym t.counted in
      let made = min-eq_left l ∙ at in
      record {
        answer = by.answer ∙ refuse-passed _ 15 0 _ within ∙ ap (λ (i : ℕ). done (i ∷ [])) at ∙ sym kept.answer;
        sums = by.sums ∙ t.told ∙ ap (sweep_sums plan (filled b lost received)) made ∙ sym kept.tells;
        visits = by.visits ∙ t.visited ∙ ap (visits_made plan (filled b lost received)) made ∙ sym kept.visited;
        leaves = by.leaves ∙ ap (λ (t : Bool). cond t (written received out) out) within ∙ e
            ∙ ap (λ (block : List ℕ). written block output) (t.leaves l ∙ ap (λ (i : ℕ). swept_block plan i (filled b lost received)) at)
            ∙ sym kept.leaves;
      }

  module _ {trial : Settling} {swept out after : List ℕ} {r : Decoding}
      (zeros : Tried plan (filled 0 lost received) H trial.count trial.sums trial.visits swept) (stands : out ≡ written swept output)
      (by : ByTrial received H trial out r after) where
    twice-neither : H < trial.count → H < settles_at plan (filled 1 lost received) H → Decodes plan received lost output H r after
    twice-neither past late =
        let neither = decode-neither plan received lost output H checked (omega (arith, zeros.counted)) late in
        let made : min trial.count H ≡ H = min-eq_right (omega arith) in
        let unsettled = lt-ltb H trial.count past in
        record {
          answer = by.answer ∙ refuse-taken _ 15 0 _ unsettled ∙ sym neither.answer;
          sums = by.sums ∙ zeros.told ∙ ap (sweep_sums plan (filled 0 lost received)) made ∙ sym neither.tells;
          visits = by.visits ∙ zeros.visited ∙ ap (visits_made plan (filled 0 lost received)) made ∙ sym neither.visited;
          leaves = by.leaves ∙ ap (λ (t : Bool). cond t (written received out) out) unsettled ∙ ap (written received) stands
              ∙ written-again received swept output (zeros.kept ∙ length-filled 0 lost received) ∙ sym neither.leaves;
        }

    -- the trial with zeros is kept, or neither settles
    twice-zeros : (trial.count ≤ H → settles_at plan (filled 1 lost received) H ≤ H
        → changed_from plan received lost H 0 ≤ changed_from plan received lost H 1)
        → (H < trial.count → H < settles_at plan (filled 1 lost received) H)
        → Decodes plan received lost output H r after
    twice-zeros fewer late =
        elim (dec_le trial.count H) [
          | yes l ↦
              kept-answers 0 zeros l stands by (decode-zeros plan received lost output H checked (omega (arith, zeros.counted)) (fewer l))
          | no l ↦ let past : H < trial.count = omega arith in twice-neither past (late past)
        ]

    -- where no bit is lost, both trials are the same
    twice-none : length lost ≡ 0 → Decodes plan received lost output H r after
    twice-none none =
        let same = trials-same received lost none in
        let changed : changed_from plan received lost H 1 ≡ changed_from plan received lost H 0 =
        ap (λ (block : List ℕ). flips_outside (edge_count plan) lost received (swept_block plan (settles_at plan block H) block)) same in
        twice-zeros (λ _ _. le_of_eq (sym changed))
        (λ past. omega (arith, ap (λ (block : List ℕ). settles_at plan block H) same, zeros.counted))

  twice-ones : {trial : Settling} {swept out after : List ℕ} {r : Decoding}
      → Tried plan (filled 1 lost received) H trial.count trial.sums trial.visits swept → out ≡ written swept output
      → ByTrial received H trial out r after → trial.count ≤ H
      → (settles_at plan (filled 0 lost received) H ≤ H → changed_from plan received lost H 1 < changed_from plan received lost H 0)
      → Decodes plan received lost output H r after
  twice-ones ones e by l fewer =
      kept-answers 1 ones l e by (decode-ones plan received lost output H checked (omega (arith, ones.counted)) fewer)

  -- ---- the tests of the code

  attempt-changed : (b : ℕ) {attempt : Attempt} {block : List ℕ} → Attempted plan received lost H b attempt block → (length lost ≡ 0 → ⊥)
      → attempt.settling.count ≤ H → attempt.changed ≡ changed_from plan received lost H b
  attempt-changed b a some l = changed-from b a.tried l refl (a.changes some)

  module _ {zeros : Attempt} {front : List ℕ} (first : Attempted plan received lost H 0 zeros front) where
    pub kept-alone : {out after : List ℕ} {r : Decoding} → ((length lost ≡ 0 → ⊥) → (zeros.settling.count ≤ H) × (zeros.changed ≡ 0))
        → out ≡ written front output → ByTrial received H zeros.settling out r after → Decodes plan received lost output H r after
    kept-alone alone stands by =
        elim (ℕ_discrete (length lost) 0) [
          | yes none ↦ twice-none first.tried stands by none
          | no some ↦
              let (in-time, same) = alone some in
              twice-zeros first.tried stands by (λ l _. omega (arith, attempt-changed 0 first some l, same)) (λ past. absurd (omega arith))
        ]

    module _ {ones : Attempt} {other : List ℕ} (second : Attempted plan received lost H 1 ones other) (some : length lost ≡ 0 → ⊥) where
      pub kept-zeros : {out after : List ℕ} {r : Decoding}
          → (ones.settling.count ≤ H → (zeros.settling.count ≤ H) × (zeros.changed ≤ ones.changed))
          → out ≡ written front output → ByTrial received H zeros.settling out r after → Decodes plan received lost output H r after
      kept-zeros zeros-win stands by =
          twice-zeros first.tried stands by
          (λ in-time both.
          let l : ones.settling.count ≤ H = omega (arith, second.tried.counted) in
          omega (arith, attempt-changed 0 first some in-time, attempt-changed 1 second some l, (zeros-win l).1))
          (λ past.
          elim (dec_le ones.settling.count H) [
            | yes l ↦ absurd (omega (arith, (zeros-win l).0))
            | no l ↦ omega (arith, second.tried.counted)
          ])

      pub kept-ones : {between out after : List ℕ} {r : Decoding}
          → (ones.settling.count ≤ H) × (zeros.settling.count ≤ H → ones.changed < zeros.changed)
          → between ≡ written front output → out ≡ written other between → ByTrial received H ones.settling out r after
          → Decodes plan received lost output H r after
      kept-ones {between} (in-time, fewer) stands over by =
          let one : length front ≡ length received = first.tried.kept ∙ length-filled 0 lost received in
          let two : length other ≡ length received = second.tried.kept ∙ length-filled 1 lost received in
          twice-ones second.tried (over ∙ ap (written other) stands ∙ written-again other front output (one ∙ sym two)) by in-time
          (λ both.
          let l : zeros.settling.count ≤ H = omega (arith, first.tried.counted) in
          omega (arith, attempt-changed 0 first some l, attempt-changed 1 second some in-time, fewer l))

-- ---- the first two sweeps are made at the front of the output

module _ (plan : Plan) (received lost output : List ℕ) (H : ℕ) (checked : decode_check plan received lost output H ≡ done []) {laid : List ℕ}
    (put : laid ≡ written (filled 0 lost received) output) (swept : List ℕ) (kept : length swept ≡ length (take (length received) laid)) where
  lent : length received ≡ length (filled 0 lost received)
  lent = sym (length-filled 0 lost received)

  front-sized : length swept ≡ length received
  front-sized = laid-sized (filled 0 lost received) output (length received) put lent swept kept ∙ sym lent

  front-whole : swept ++ drop (length received) laid ≡ written swept output
  front-whole = laid-whole (filled 0 lost received) output (length received) put lent swept kept

  pub front-check : decode_check plan received lost (swept ++ drop (length received) laid) H ≡ done []
  front-check = rw front-whole (over-check plan received lost output H checked swept front-sized)

  pub front-answers : {r : Decoding} {after : List ℕ} → Decodes plan received lost (swept ++ drop (length received) laid) H r after
      → Decodes plan received lost output H r after
  front-answers d = over-answers plan received lost output H checked swept front-sized (rw front-whole at d)

  -- they settle the block, and no bit is lost
  pub front-settles : {opening : Opening} {words : List ℕ} → Opened plan (take (length received) laid) H opening words swept
      → (length lost ≡ 0) × ((opening.ended ≡ true) × (opening.count ≤ H))
      → Decodes plan received lost output H (record { outcome = Ok opening.count; sums = opening.sums; visits = opening.visits })
      (swept ++ drop (length received) laid)
  front-settles {opening} opened (none, (ended, in-time)) =
      let settling : Settling = record { count = opening.count; sums = opening.sums; visits = opening.visits } in
      let tried = opened.closed ended in
      let here = laid-part (filled 0 lost received) output (length received) put lent in
      twice-none plan received lost output H checked {trial = settling} (rw here at tried) front-whole (by-settled received H settling _ in-time) none

-- ---- a codeword, which no sweep changes

module _ (plan : Plan) (received output : List ℕ) (H : ℕ) (checked : decode_check plan received [] output H ≡ done [])
    (nowhere : located (side_of plan) received ≡ []) where
  codeword-settled : settles_at plan received H ≡ 0
  codeword-settled =
      settles-at plan received H 0 (omega arith)
      (ap (is_codeword_block (side_of plan)) (after-zero (side_of plan) received) ∙ located-some (side_of plan) received nowhere)
      (λ j l. absurd (omega arith))

  codeword-answers : {after : List ℕ} → after ≡ written received output
      → Decodes plan received [] output H (record { outcome = Ok 0; sums = replicate 64 0; visits = 0 }) after
  codeword-answers e =
      let d = decode-settled plan received output H checked 0 codeword-settled (omega arith) in
      record {
        answer = sym d.answer;
        sums = sums-zero plan received ∙ sym d.tells;
        visits = sym (visits-zero plan received) ∙ sym d.visited;
        leaves = e ∙ ap (λ (block : List ℕ). written block output) (sym (after-zero (side_of plan) received)) ∙ sym d.leaves;
      }

-- where no bit is lost it is answered as it was received
pub copy-codeword : (plan : Plan) (received lost output : List ℕ) (H : ℕ) → decode_check plan received lost output H ≡ done [] → length lost ≡ 0
    → located (side_of plan) received ≡ [] → {after : List ℕ} → after ≡ written received output
    → Decodes plan received lost output H (record { outcome = Ok 0; sums = replicate 64 0; visits = 0 }) after
copy-codeword plan received lost output H checked none nowhere e =
    rw (none-lost lost none) (codeword-answers plan received output H (rw (none-lost lost none) at checked) nowhere e)
