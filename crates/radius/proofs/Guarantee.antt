-- Demand 3: what the margin promises holds of the decoder where no bit is lost.
-- The notions, of specs/Demand.antt, specs/Answer.antt, wiring specs/Block.antt and bits specs/Bit.antt:
--   flips N a b                        the number of bits 0 .. N - 1 in which two blocks differ
--   Block N block                      a block of N bits
--   Codeword plan block                a block of this plan that is a codeword
--   settled_after plan received i       the received block, swept i times, is a codeword
--   stopped_before15 reply              a row before 15 in the table stops the call
--   Restored ..                        what a decoder call is promised with no bit lost
--   spans_check N lost                  the check of a list of lost spans (spans specs Spans)
--   margin_answer plan F                what the margin answers for F flips
-- and, of the proofs,
--   Covered plan F q                   the plan is accepted, F flips are covered, and q sweeps are named for them (Answers)
-- Names: the subject first, then the fact. `swept-` is about the received block after sweeps, `settles-` about the count at which it
-- settles (settles-by: when; settles-as: on what), `free-` about the tests that a call, whatever its list, has passed which no row
-- before 15 stops.
-- The theorems are demand3, about a decoder call, and demand3-alone, which mentions no call.
use Rattle.std.proofs.Common.{ℕ, ◌+◌, ◌≤◌, ◌<◌, ◌≡◌, refl, sym, ap, ◌∙◌, List, [], ◌∷◌, false, true≢false, ⊎_elim, le_trans, arith, length}
use Rattle.std.proofs.Common.{get_or, eqb-true}
use native.Mathlib.Decide.{dec_le}
use borrow.Author.Tests.{not-false}
use Rattle.bits.specs.Bit.{written, flips}
use Rattle.inner_code.specs.Reply.{Reply, done, refused}
use Rattle.inner_code.proofs.SheetChecks.{Sound}
use Rattle.inner_code.proofs.InnerDistance.{distance-pos}
use Rattle.inner_code.proofs.NearestWord.{nearest-near}
use Rattle.wiring.specs.Plan.{Plan, edge_count, sheet_of, side_of}
use Rattle.wiring.specs.Wiring.{plan_check}
use Rattle.wiring.specs.Block.{block_bytes, block_check, Block, Codeword}
use Rattle.wiring.specs.declared.side.SideName.{SideName}
use Rattle.wiring.proofs.Blocks.{bits-number, block-sized, block-clear, block_back}
use Rattle.wiring.proofs.Plans.{plan-sound, plan-joined}
use Rattle.spans.specs.Spans.{spans_check}
use Rattle.spans.proofs.Checking.{spans-done, spans-number}
use Rattle.decoder.specs.Decode.{swept_block, settles_at}
use Rattle.decoder.specs.Answer.{decode_check, decode_answer}
use Rattle.sweeps.proofs.Sweeping.{sheet-mends}
use Rattle.decoder.proofs.Settling.{settles-codeword, settles-first, settles-stays, decode-stopped, decode-settled}
use Rattle.decoder.proofs.Settling.{check-block, check-spans, check-short, check-limit, check-passed}
use Rattle.report.specs.Report.{differs_at}
use Rattle.radius.specs.Answer.{distance_of, margin_answer}
use Rattle.radius.specs.Demand.{stopped_before15, Restored}
use Rattle.radius.proofs.Convergence.{Mending}
use Rattle.radius.proofs.Restoring.{Nears, after-mending, after-restores}
use Rattle.radius.proofs.Answers.{Covered, margin-means}

-- ---- the received block, swept

sheet-nears : (plan : Plan) → ((name : SideName) → Sound (sheet_of plan name)) → (name : SideName)
    → Nears (side_of plan name) (distance_of (side_of plan name))
sheet-nears plan s name = record { mends = sheet-mends plan s name; near = nearest-near _ _ _ (s name).degree-high (s name).rows-lt }

module _ (plan : Plan) (received : List ℕ) (F q : ℕ) (covered : Covered plan F q) (block : Block (edge_count plan) received)
    (c : List ℕ) (code : Codeword plan c) (few : flips (edge_count plan) c received ≤ F) where
  pub swept-mending : Mending (edge_count plan) (side_of plan) (λ name. distance_of (side_of plan name)) F (λ i. differs_at (swept_block plan i received) c)
  swept-mending =
      after-mending (plan-joined plan covered.accepted) (λ name. distance_of (side_of plan name))
      (sheet-nears plan (plan-sound plan covered.accepted).0) c code.satisfied-all (distance-pos _ _) received block.checked F few

  -- every codeword within F flips is what the named sweeps make of the received block
  pub swept-restores : swept_block plan q received ≡ c
  swept-restores =
      rw covered.named (after-restores c received swept-mending code.block-of block (rw covered.named at covered.some))

-- ---- where it settles: where q sweeps make it a codeword c, it has settled by then, as c

module _ (plan : Plan) (received : List ℕ) (H q : ℕ) (c : List ℕ) (code : Codeword plan c) (swept : swept_block plan q received ≡ c) where
  pub settles-by : settles_at plan received H ≤ q
  settles-by =
      elim (dec_le (settles_at plan received H) q) [
        | yes by ↦ by
        | no later ↦
            let not_yet = settles-first plan received H _ refl q (omega arith) in
            absurd (true≢false (sym code.satisfied-all ∙ rw swept at not_yet))
      ]

  pub settles-as : ((name : SideName) → Sound (sheet_of plan name)) → q ≤ H → swept_block plan (settles_at plan received H) received ≡ c
  settles-as s enough = sym (settles-stays plan received s H (le_trans settles-by enough) q settles-by) ∙ swept

-- ---- the tests that a call has passed which no row before 15 stops

module _ (plan : Plan) (received lost output : List ℕ) (H : ℕ) (accepted : plan_check plan ≡ done [])
    (free : stopped_before15 (decode_answer plan received lost output H) ≡ false) where
  not_stopped : {number place : ℕ} → (number ≡ 15 → ⊥) → decode_check plan received lost output H ≡ refused number place → ⊥
  unfolding stopped_before15
  not_stopped {number} {place} another stops =
      another (eqb-true number 15 (not-false _ (sym (ap stopped_before15 (decode-stopped plan received lost output H stops).answer) ∙ free)))

  pub free-block : block_check (edge_count plan) received ≡ done []
  free-block = go (block_check (edge_count plan) received) refl
    where
      go : (reply : Reply) → block_check (edge_count plan) received ≡ reply → block_check (edge_count plan) received ≡ done []
      go (done values) e = block_back _ received (block-sized _ received e) (block-clear _ received e)
      go (refused number place) e =
          absurd (not_stopped
          (λ q. ⊎_elim (λ (a : number ≡ 11). omega arith) (λ (b : number ≡ 12). omega arith) (bits-number 11 12 _ received e))
          (check-block plan received lost output H accepted e))

  pub free-spans : spans_check (edge_count plan) lost ≡ done []
  free-spans = go (spans_check (edge_count plan) lost) refl
    where
      go : (reply : Reply) → spans_check (edge_count plan) lost ≡ reply → spans_check (edge_count plan) lost ≡ done []
      go (done values) e = spans-done (edge_count plan) lost e
      go (refused number place) e =
          absurd (not_stopped (λ q. omega (arith, (spans-number (edge_count plan) lost e).0))
          (check-spans plan received lost output H accepted free-block e))

  free-room : block_bytes (edge_count plan) ≤ length output
  free-room =
      elim (dec_le (block_bytes (edge_count plan)) (length output)) [
        | yes room ↦ room
        | no short ↦ absurd (not_stopped (λ q. omega arith) (check-short plan received lost output H accepted free-block free-spans (omega arith)))
      ]

  free-limit : H ≤ 4096
  free-limit =
      elim (dec_le H 4096) [
        | yes low ↦ low
        | no high ↦
            absurd (not_stopped (λ q. omega arith)
            (check-limit plan received lost output H accepted free-block free-spans free-room (omega arith)))
      ]

  pub free-check : decode_check plan received lost output H ≡ done []
  free-check = check-passed plan received lost output H accepted free-block free-spans free-room free-limit

-- ---- demand 3

pub demand3 : (plan : Plan) (sent received output : List ℕ) (F q H : ℕ)
    → Codeword plan sent
    → ((k : ℕ) → get_or received k 0 < 256)
    → flips (edge_count plan) sent received ≤ F
    → margin_answer plan F ≡ done (q ∷ [])
    → q ≤ H
    → (stopped_before15 (decode_answer plan received [] output H) ≡ false)
    → Restored plan sent received output H q
demand3 plan sent received output F q H code bytes few margin enough free =
    let covered = margin-means plan F q margin in
    let accepted = covered.accepted in
    let pass = free-block plan received [] output H accepted free in
    let check = free-check plan received [] output H accepted free in
    let swept = swept-restores plan received F q covered (record { bytes = bytes; checked = pass }) sent code few in
    let count : ℕ = settles_at plan received H in
    let by : count ≤ q = settles-by plan received H q sent code swept in
    let in-time : count ≤ H = le_trans by enough in
    let as-sent = settles-as plan received H q sent code swept (plan-sound plan accepted).0 enough in
    let decoded = decode-settled plan received output H check count refl in-time in
    record {
      count = count;
      answer = decoded.answer;
      within = by;
      settled = settles-codeword plan received H count refl in-time;
      first = λ i l. settles-first plan received H count refl i l;
      restored = decoded.leaves ∙ ap (λ (block : List ℕ). written block output) as-sent;
    }

pub demand3-alone : (plan : Plan) (sent received other : List ℕ) (F q : ℕ)
    → Codeword plan sent
    → Block (edge_count plan) received
    → flips (edge_count plan) sent received ≤ F
    → margin_answer plan F ≡ done (q ∷ [])
    → Codeword plan other
    → (other ≡ sent → ⊥)
    → F + 1 ≤ flips (edge_count plan) other received
demand3-alone plan sent received other F q code block few margin code' differs =
    let swept = swept-restores plan received F q (margin-means plan F q margin) block in
    elim (dec_le (F + 1) (flips (edge_count plan) other received)) [
      | yes more ↦ more
      | no within ↦ absurd (differs (sym (swept other code' (omega arith)) ∙ swept sent code few))
    ]
