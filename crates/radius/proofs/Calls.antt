-- A decoder call that nothing stops before it decodes: an accepted plan, a block of it, a list of spans that passes, room for a block in the
-- output, and a limit of at most 4,096. It settles or is 15. So the condition of demand3 and lost-restored on a call holds of every call that a
-- host means.
--   decode_check ..           what stops a call before it decodes (decoder specs Answer)
--   stopped_before15 reply    a row before 15 in the table stops the call (specs Demand)
use Rattle.std.proofs.Common.{ℕ, ◌≤◌, Bool, true, false, not, List, [], ◌∷◌, ◌≡◌, refl, ap, ◌∙◌, length}
use Rattle.inner_code.specs.Reply.{done, refuse_if}
use Rattle.wiring.specs.Plan.{Plan, edge_count}
use Rattle.wiring.specs.Wiring.{plan_check}
use Rattle.wiring.specs.Block.{block_bytes, Block}
use Rattle.spans.specs.Spans.{spans_check}
use Rattle.decoder.specs.Decode.{decoding}
use Rattle.decoder.specs.Answer.{decode_check, decode_answer}
use Rattle.decoder.proofs.Settling.{check-passed, decode-passed}
use Rattle.radius.specs.Demand.{stopped_before15}

free-either : (unsettled : Bool) (values : List ℕ) → stopped_before15 (refuse_if unsettled 15 0 (done values)) ≡ false
unfolding stopped_before15 refuse_if
free-either true values = refl
free-either false values = refl

module _ (plan : Plan) (received lost output : List ℕ) (H : ℕ) (accepted : plan_check plan ≡ done []) (block : Block (edge_count plan) received)
    (listed : spans_check (edge_count plan) lost ≡ done []) (room : block_bytes (edge_count plan) ≤ length output) (limited : H ≤ 4096) where
  pub call-passed : decode_check plan received lost output H ≡ done []
  call-passed = check-passed plan received lost output H accepted block.checked listed room limited

  pub call-free : stopped_before15 (decode_answer plan received lost output H) ≡ false
  call-free =
      ap stopped_before15 (decode-passed plan received lost output H call-passed).answer
      ∙ free-either (not (decoding plan received lost H).settled) ((decoding plan received lost H).count ∷ [])
