-- What the sums say of a block of which no bit is lost and that settles after one sweep: its first sum is the number of bits in which the received
-- and the settled block differ, which is what the lengths of the report's runs add up to.
--   decode_answer, decode_sums, decode_output   what the decoder answers, the sums that it tells, and its output at exit (decoder specs Answer)
--   report_answer, report_list                 what the report answers, and its list at exit (report specs Answer)
--   flips N a b                              the number of bits 0 .. N - 1 in which two byte strings differ (bits specs Bit)
-- Of blocks that settle later nothing is claimed beyond the definition of the sums: a bit that one sweep changes another may change back.
use Rattle.std.proofs.Common.{ℕ, ◌+◌, ◌*◌, List, [], ◌∷◌, ◌≡◌, sym, ap, ◌∙◌, arith, length, get_or, take}
use Rattle.bits.specs.Bit.{pair_at, written, flips}
use Rattle.bits.specs.Sum.{sum}
use Rattle.bits.proofs.Fronts.{written-part}
use Rattle.inner_code.specs.Reply.{done}
use Rattle.wiring.specs.Plan.{Plan, edge_count, side_of}
use Rattle.decoder.specs.Decode.{swept_block, sweep_sum}
use Rattle.decoder.specs.Answer.{decode_answer, decode_sums, decode_output}
use Rattle.sweeps.proofs.Sweeping.{after-zero, length-after}
use Rattle.decoder.proofs.Settling.{decode-settled, decode-means}
use Rattle.decoder.proofs.SweepSums.{sums-made}
use Rattle.report.specs.Answer.{report_answer, report_list}
use Rattle.report.proofs.Lengths.{report-lengths}

module _ (plan : Plan) (received output : List ℕ) (H : ℕ) where
  module _ (once : decode_answer plan received [] output H ≡ done (1 ∷ [])) (settled : List ℕ) (sized : length settled ≡ length received)
      (left : decode_output plan received [] output H ≡ written settled output) where
    -- the block at the front of the output is the received one after one sweep
    settled_is : settled ≡ swept_block plan 1 received
    settled_is =
        let (at, within, (values, pass)) = decode-means plan received output H 1 once in
        let swept = swept_block plan 1 received in
        let kept : length swept ≡ length received = length-after (side_of plan) 1 received in
        sym (written-part settled output (length received) (sym sized))
        ∙ ap (take (length received)) (sym left ∙ (decode-settled plan received output H pass 1 at within).leaves)
        ∙ written-part swept output (length received) (sym kept)

    pub first-sum : get_or (decode_sums plan received [] output H) 0 0 ≡ flips (edge_count plan) received settled
    unfolding sweep_sum
    first-sum =
        let (at, within, (values, pass)) = decode-means plan received output H 1 once in
        ap (λ (sums : List ℕ). get_or sums 0 0) (decode-settled plan received output H pass 1 at within).tells
        ∙ sums-made plan received 1 0 (omega arith) (omega arith)
        ∙ ap (λ (block : List ℕ). flips (edge_count plan) block (swept_block plan 1 received)) (after-zero (side_of plan) received)
        ∙ ap (flips (edge_count plan) received) (sym settled_is)

    pub first-sum-reported : (list : List ℕ) (pairs : ℕ) → report_answer plan received settled list ≡ done (pairs ∷ [])
        → sum pairs (λ p. pair_at (report_list plan received settled list) (4 * p + 2)) ≡ get_or (decode_sums plan received [] output H) 0 0
    first-sum-reported list pairs e = report-lengths plan received settled list pairs e ∙ sym first-sum
