-- Lost spans: a sent codeword with f bits lost and e others flipped comes back, where 2e + f is at most 2F and the plan covers F.
-- The notions, of specs/Demand.antt, specs/Answer.antt, spans specs/Spans.antt, wiring specs/Block.antt and decoder specs/Decode.antt:
--   lost_bits N lost                    how many of the bits 0 .. N - 1 are in a span: f
--   flips_outside N lost a b            in how many of the others two blocks differ: e
--   filled b lost block                the block with every lost bit made b: what a trial begins with
--   settles_at plan block H             the count at which a block settles, above H where it does not
--   Block N block                      a block of N bits
--   Codeword plan block                a block of this plan that is a codeword
--   margin_answer plan F                what the margin answers for F flips
--   stopped_before15 reply              a row before 15 in the table stops the call
--   Mended ..                          what a decoder call is promised with lost spans
-- and, of the decoder's proofs,
--   settled_from .. b                   the block at which the trial with the lost bits b settles
--   changed_from .. b                   the received bits that it changes outside the spans
-- Names: `trial-` is about one trial, whatever its bits (trial-home: one that begins near the sent block; trial-code, trial-same, trial-least:
-- one that settles), `kept-` about the one that is kept. The theorem is lost-restored.
use Rattle.std.proofs.Common.{ℕ, ◌+◌, ◌*◌, ◌≤◌, ◌<◌, false, List, [], ◌∷◌, ◌≡◌, refl, sym, ap, ◌∙◌, le_trans, arith, length, get_or}
use native.Mathlib.Decide.{dec_le}
use Rattle.wiring.proofs.Blocks.{block_room}
use Rattle.bits.specs.Bit.{written, flips}
use Rattle.inner_code.specs.Reply.{done}
use Rattle.wiring.specs.Plan.{Plan, edge_count, side_of}
use Rattle.wiring.specs.Block.{Block, Codeword}
use Rattle.wiring.proofs.Plans.{plan-sound, plan-joined}
use Rattle.spans.specs.Spans.{spans_check, lost_bits, flips_outside, filled}
use Rattle.spans.proofs.Filling.{filled-bytes}
use Rattle.spans.proofs.Checking.{filled-block}
use Rattle.spans.proofs.Outside.{outside-comm, outside-triangle, outside-sum}
use Rattle.decoder.specs.Decode.{settles_at}
use Rattle.decoder.specs.Answer.{decode_check, decode_answer}
use Rattle.sweeps.proofs.Sweeping.{after_block, after-bytes}
use Rattle.decoder.proofs.Settling.{settled_from, changed_from, settles-codeword, DecodingIs, decode-zeros, decode-ones}
use Rattle.radius.specs.Answer.{margin_answer}
use Rattle.radius.specs.Demand.{stopped_before15, Mended}
use Rattle.radius.proofs.Answers.{Covered, margin-means}
use Rattle.radius.proofs.Guarantee.{swept-restores, settles-by, settles-as, free-block, free-spans, free-check}
use Rattle.radius.proofs.Distance.{codewords-same}

module _ (plan : Plan) (sent received lost output : List ℕ) (F q H : ℕ) (code : Codeword plan sent) (margin : margin_answer plan F ≡ done (q ∷ []))
    (enough : q ≤ H) (block : Block (edge_count plan) received) (listed : spans_check (edge_count plan) lost ≡ done [])
    (few : 2 * flips_outside (edge_count plan) lost sent received + lost_bits (edge_count plan) lost ≤ 2 * F) where
  abbrev N : ℕ
  N = edge_count plan

  covered : Covered plan F q
  covered = margin-means plan F q margin

  abbrev trial_of : ℕ → List ℕ
  trial_of b = filled b lost received

  abbrev settled : ℕ → List ℕ
  settled b = settled_from plan received lost H b

  abbrev changed : ℕ → ℕ
  changed b = changed_from plan received lost H b

  -- the flipped bits outside the spans
  abbrev flipped : ℕ
  flipped = flips_outside N lost received sent

  -- ---- one trial

  module _ (b : ℕ) (bit : b < 2) where
    trial-block : Block N (trial_of b)
    trial-block =
        record {
          bytes = filled-bytes b lost received bit block.bytes;
          checked = filled-block N b lost received listed bit block.checked;
        }

    -- one that begins within F flips of the sent block settles at it
    trial-home : flips N sent (trial_of b) ≤ F → (settles_at plan (trial_of b) H ≤ H) × (settled b ≡ sent)
    trial-home near =
        let swept = swept-restores plan (trial_of b) F q covered trial-block sent code near in
        let by = settles-by plan (trial_of b) H q sent code swept in
        (le_trans by enough, settles-as plan (trial_of b) H q sent code swept (plan-sound plan covered.accepted).0 enough)

    module _ (in-time : settles_at plan (trial_of b) H ≤ H) where
      trial-code : Codeword plan (settled b)
      trial-code =
          let count : ℕ = settles_at plan (trial_of b) H in
          record {
            block-of = record {
              bytes = after-bytes (side_of plan) count (trial_of b) trial-block.bytes;
              checked = after_block (side_of plan) (plan-joined plan covered.accepted).whole count (trial_of b) trial-block.checked;
            };
            satisfied-all = settles-codeword plan (trial_of b) H count refl in-time;
          }

      -- one that changes no more bits outside the spans than were flipped settles at the sent block, which it cannot do with fewer
      trial-same : changed b ≤ flipped → settled b ≡ sent
      trial-same fewer =
          sym (codewords-same plan sent (settled b) F q code trial-code margin
          (omega (arith, outside-triangle N lost sent received (settled b), outside-comm N lost sent received)))

      trial-least : flipped ≤ changed b
      trial-least =
          elim (dec_le flipped (changed b)) [
            | yes least ↦ least
            | no fewer ↦ absurd (omega (arith, ap (flips_outside N lost received) (trial-same (omega arith))))
          ]

  -- ---- the trial that is kept

  module _ (check : decode_check plan received lost output H ≡ done []) where
    kept-mended : (b : ℕ) {sums : List ℕ} {visits : ℕ} → settled b ≡ sent
        → DecodingIs plan received lost output H (done (settles_at plan (trial_of b) H ∷ [])) sums visits (written (settled b) output)
        → Mended plan sent received lost output H
    kept-mended b home decoded =
        record {
          count = settles_at plan (trial_of b) H;
          answer = decoded.answer;
          restored = decoded.leaves ∙ ap (λ (l : List ℕ). written l output) home;
        }

    kept-zeros : settles_at plan (trial_of 0) H ≤ H → settled 0 ≡ sent → Mended plan sent received lost output H
    kept-zeros in-time home =
        let same : changed 0 ≡ flipped = ap (flips_outside N lost received) home in
        kept-mended 0 home
        (decode-zeros plan received lost output H check in-time (λ both. omega (arith, trial-least 1 (omega arith) both)))

    -- where zeros are kept all the same, they settle at the sent block too
    kept-ones : settles_at plan (trial_of 1) H ≤ H → settled 1 ≡ sent → Mended plan sent received lost output H
    kept-ones in-time home =
        let same : changed 1 ≡ flipped = ap (flips_outside N lost received) home in
        let ones : (settles_at plan (trial_of 0) H ≤ H → changed 1 < changed 0) → Mended plan sent received lost output H =
        λ fewer. kept-mended 1 home (decode-ones plan received lost output H check in-time fewer) in
        elim (dec_le (settles_at plan (trial_of 0) H) H) [
          | no late ↦ ones (λ both. absurd (late both))
          | yes both ↦
              elim (dec_le (changed 0) flipped) [
                | yes as-few ↦ kept-zeros both (trial-same 0 (omega arith) both as-few)
                | no more ↦ ones (λ _. omega arith)
              ]
        ]

    -- the two trials begin with 2e + f flips together, so one of them begins with at most F
    kept-restored : Mended plan sent received lost output H
    kept-restored =
        let fits : N ≤ length received * 8 = block_room N received block.checked in
        let together = outside-sum N lost sent received fits in
        elim (dec_le (flips N sent (trial_of 0)) F) [
          | yes near ↦ let (in-time, home) = trial-home 0 (omega arith) near in kept-zeros in-time home
          | no far ↦ let (in-time, home) = trial-home 1 (omega arith) (omega arith) in kept-ones in-time home
        ]

pub lost-restored : (plan : Plan) (sent received lost output : List ℕ) (F q H : ℕ)
    → Codeword plan sent
    → ((k : ℕ) → get_or received k 0 < 256)
    → 2 * flips_outside (edge_count plan) lost sent received + lost_bits (edge_count plan) lost ≤ 2 * F
    → margin_answer plan F ≡ done (q ∷ [])
    → q ≤ H
    → (stopped_before15 (decode_answer plan received lost output H) ≡ false)
    → Mended plan sent received lost output H
lost-restored plan sent received lost output F q H code bytes few margin enough free =
    let accepted = (margin-means plan F q margin).accepted in
    let block : Block (edge_count plan) received = record { bytes = bytes; checked = free-block plan received lost output H accepted free } in
    let listed = free-spans plan received lost output H accepted free in
    kept-restored plan sent received lost output F q H code margin enough block listed few (free-check plan received lost output H accepted free)
