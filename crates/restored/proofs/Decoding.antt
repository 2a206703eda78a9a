-- Decoder calls on a received block of which nothing is lost, with an output of eight bytes.
--   Received received                what is received of the sent block (specs Sent)
--   settled_after plan received i     the received block, swept i times, is a codeword (decoder specs Decode)
--   Restored ..                      what a decoder call is promised (radius specs Demand)
--   sweeps_of                        how a call ended (specs Outcome)
-- Names: `decode-` is about a call: its tests pass (-passed), and no row before 15 stops it (-free), so the guarantee holds of it
-- (-restored); the limit is the count at which the block settles (-at), or one less (-before). `outcome-` reads an answer of the code.
use Rattle.std.proofs.Common.{Result, Ok, Err, refl, ap, ◌≡◌, List, [], ◌∷◌, true, false, ℕ, ◌-◌, ◌≤◌, ◌<◌, le_refl, arith, length}
use Rattle.inner_code.specs.Reply.{done, refused}
use Rattle.wiring.specs.Square.{square_plan}
use Rattle.spans.proofs.Checking.{spans-none}
use Rattle.decoder.specs.Decode.{settled_after}
use Rattle.decoder.specs.Answer.{decode_check, decode_answer, decode_reply}
use Rattle.inner_code.specs.Refusal.{number_of}
use Rattle.inner_code.specs.declared.refusal.Refusal.{Refusal}
use Rattle.decoder.proofs.Settling.{settles-at, settles-none, decode-settled, decode-unsettled}
use Rattle.radius.specs.Demand.{stopped_before15, Restored}
use Rattle.radius.proofs.Calls.{call-passed, call-free}
use Rattle.radius.proofs.Guarantee.{demand3}
use Rattle.restored.specs.Sent.{sent_block, Received}
use Rattle.restored.specs.Outcome.{sweeps_of}
use Rattle.restored.proofs.SquarePlan.{square-accepted, square-margin, square-room, sent-codeword, received-block, received-few}

module _ {received : List ℕ} (r : Received received) (output : List ℕ) (room : length output ≡ 8) where
  decode-passed : (H : ℕ) → H ≤ 4096 → decode_check square_plan received [] output H ≡ done []
  decode-passed H l = call-passed square_plan received [] output H square-accepted (received-block r) (spans-none _) (square-room output room) l

  decode-free : (H : ℕ) → H ≤ 4096 → stopped_before15 (decode_answer square_plan received [] output H) ≡ false
  decode-free H l = call-free square_plan received [] output H square-accepted (received-block r) (spans-none _) (square-room output room) l

  pub decode-restored : (H : ℕ) → 2 ≤ H → H ≤ 4096 → Restored square_plan sent_block received output H 2
  decode-restored H enough l =
      demand3 square_plan sent_block received output 3 2 H sent-codeword r.bytes (received-few r) square-margin enough (decode-free H l)

  -- a block that is a codeword after so many sweeps and after no fewer
  module _ (count : ℕ) (low : count ≤ 4096) (first : (i : ℕ) → i < count → settled_after square_plan received i ≡ false) where
    pub decode-at : settled_after square_plan received count ≡ true → decode_answer square_plan received [] output count ≡ done (count ∷ [])
    decode-at settled =
        (decode-settled square_plan received output count (decode-passed count low) count
        (settles-at square_plan received count count (le_refl count) settled first) (le_refl count)).answer

    pub decode-before : 0 < count → decode_answer square_plan received [] output (count - 1) ≡ refused 15 0
    decode-before some =
        (decode-unsettled square_plan received output (count - 1) (decode-passed (count - 1) (omega arith))
        (omega (arith, settles-none square_plan received (count - 1) (λ i h. first i (omega arith))))).answer

-- ---- answers of the code

pub outcome-count : (outcome : Result ℕ Refusal) (count : ℕ) → decode_reply outcome ≡ done (count ∷ []) → sweeps_of outcome ≡ count
outcome-count (Ok answered) count e = cc
outcome-count (Err r) count e = let z : ◌≡◌ {A = ℕ} 0 1 = cc in absurd (omega arith)

-- refusal 15 is one alone
fifteen : (r : Refusal) → number_of r ≡ 15 → r ≡ Refusal.Unsettled
fifteen Refusal.SheetShort e = absurd (omega arith)
fifteen Refusal.DegreeOutOfRange e = absurd (omega arith)
fifteen Refusal.RowsOutOfRange e = absurd (omega arith)
fifteen Refusal.SheetLengthWrong e = absurd (omega arith)
fifteen (Refusal.RowTooLarge row) e = absurd (omega arith)
fifteen (Refusal.RowDependent row) e = absurd (omega arith)
fifteen Refusal.VerticesOutOfRange e = absurd (omega arith)
fifteen Refusal.EdgeCountsDiffer e = absurd (omega arith)
fifteen Refusal.WiringLengthWrong e = absurd (omega arith)
fifteen (Refusal.EntryTooLarge entry) e = absurd (omega arith)
fifteen (Refusal.EntryRepeated entry) e = absurd (omega arith)
fifteen Refusal.BlockLengthWrong e = absurd (omega arith)
fifteen Refusal.StrayBit e = absurd (omega arith)
fifteen Refusal.SpansLengthWrong e = absurd (omega arith)
fifteen Refusal.SpanOutOfBlock e = absurd (omega arith)
fifteen Refusal.SpanOutOfOrder e = absurd (omega arith)
fifteen Refusal.OutputShort e = absurd (omega arith)
fifteen Refusal.LimitTooLarge e = absurd (omega arith)
fifteen Refusal.Unsettled e = refl
fifteen Refusal.ListShort e = absurd (omega arith)
fifteen Refusal.FlipsTooMany e = absurd (omega arith)
fifteen Refusal.FlipsNotCovered e = absurd (omega arith)
fifteen Refusal.BitTooLarge e = absurd (omega arith)
fifteen Refusal.SweepsSpent e = absurd (omega arith)
fifteen Refusal.PlanTooLarge e = absurd (omega arith)
fifteen Refusal.MessageLengthWrong e = absurd (omega arith)
fifteen Refusal.MessageStrayBit e = absurd (omega arith)
fifteen Refusal.NoCodeword e = absurd (omega arith)

pub outcome-unsettled : (outcome : Result ℕ Refusal) → decode_reply outcome ≡ refused 15 0 → outcome ≡ Err Refusal.Unsettled
outcome-unsettled (Ok answered) e = let z : ◌≡◌ {A = ℕ} 0 1 = cc in absurd (omega arith)
outcome-unsettled (Err r) e = let same : number_of r ≡ 15 = cc in ap Err (fifteen r same)
