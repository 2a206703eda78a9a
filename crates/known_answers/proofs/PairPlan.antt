-- Byte 80 of the pair plan, at every limit: its one vertex a side reads a tie, so no sweep changes it, and it never settles.
--   received     the byte, as the block received
--   pair-waits   the decoder's answer, its sums and its output, at every limit up to 4,096; pair-waits-longest: its answer at that one
use Rattle.std.proofs.Common.{ℕ, ◌+◌, ◌≤◌, zero-le, min, false, List, [], ◌∷◌, ◌≡◌, refl, sym, ap, ap₂, ◌∙◌, zero-add, arith, lit≤}
use Rattle.std.proofs.Common.{replicate}
use native.Mathlib.Nat.{min-eq_left}
use lib.Count.{ones, ones_in}
use Rattle.bits.specs.Bit.{digit, word, bit_at, put_digit, with_bit, pair_at, written, flips}
use Rattle.bits.specs.Search.{least, some_below, first_failing}
use Rattle.bits.proofs.Flips.{flips-none}
use Rattle.inner_code.specs.Code.{combination, is_codeword, key, no_key, least_pattern, tied, nearest_pattern, nearest_word}
use Rattle.inner_code.specs.Reply.{done, refused, refuse_if, and_then}
use Rattle.inner_code.specs.Sheet.{degree, row_count, row_of, row_check, rows_check, sheet_check}
use Rattle.wiring.specs.Plan.{edge_of, side_bit, edge_count, side_of}
use Rattle.wiring.specs.Wiring.{entry_check, entries_check, count_faulty, wiring_check, plan_check}
use Rattle.wiring.specs.Block.{block_bytes, bits_check, block_check, vertex_word, scattered, satisfied, first_unsatisfied, is_codeword_block}
use Rattle.wiring.specs.declared.side.SideName.{SideName}
use Rattle.spans.proofs.Checking.{spans-none}
use Rattle.sweeps.specs.Sweep.{visited, sweep, after_sweeps}
use Rattle.decoder.specs.Decode.{swept_block, settled_after, sweep_sum, sweep_sums}
use Rattle.decoder.specs.Answer.{decode_answer, decode_sums, decode_output}
use Rattle.decoder.proofs.Settling.{settles-none, check-passed, decode-unsettled}
use Rattle.sweeps.proofs.Sweeping.{after-still}
use Rattle.decoder.proofs.SweepSums.{sums-zero, noted-still}
use Rattle.known_answers.specs.Table.{pair_plan}

abbrev received : List ℕ
received = 0x80 ∷ []

-- a sweep of either side leaves it as it is
waits : (name : SideName) → sweep (side_of pair_plan name) received ≡ received
unfolding
    sweep visited nearest_word nearest_pattern tied least_pattern least key no_key is_codeword some_below combination digit word bit_at put_digit with_bit
    pair_at ones ones_in degree row_count row_of edge_of side_bit vertex_word scattered
waits SideName.Left = refl
waits SideName.Right = refl

no-codeword : is_codeword_block (side_of pair_plan) received ≡ false
unfolding
    is_codeword_block first_unsatisfied satisfied first_failing is_codeword some_below combination digit word bit_at pair_at degree row_count row_of edge_of
    side_bit vertex_word
no-codeword = refl

accepted : plan_check pair_plan ≡ done []
unfolding
    plan_check sheet_check rows_check row_check is_codeword some_below combination digit pair_at degree row_count row_of wiring_check count_faulty
    entries_check entry_check edge_of refuse_if and_then
accepted = refl

block-accepted : block_check (edge_count pair_plan) received ≡ done []
unfolding bits_check block_bytes some_below bit_at digit degree refuse_if
block-accepted = refl

-- after any number of sweeps
same : (i : ℕ) → swept_block pair_plan i received ≡ received
unfolding after_sweeps
same i = ap (λ (n : ℕ). swept_block pair_plan n received) (sym (zero-add i)) ∙ after-still (side_of pair_plan) 0 i received waits

unsettled : (i : ℕ) → settled_after pair_plan received i ≡ false
unsettled i = ap (is_codeword_block (side_of pair_plan)) (same i) ∙ no-codeword

still : (i : ℕ) → sweep_sum pair_plan received i ≡ 0
unfolding sweep_sum
still i = ap₂ (flips (edge_count pair_plan)) (same i) (same (i + 1)) ∙ flips-none (edge_count pair_plan) received

pub pair-waits : (H : ℕ) → H ≤ 4096
    → (decode_answer pair_plan received [] (0 ∷ []) H ≡ refused 15 0)
    × (decode_sums pair_plan received [] (0 ∷ []) H ≡ replicate 64 0)
    × (decode_output pair_plan received [] (0 ∷ []) H ≡ received)
unfolding written block_bytes degree
pair-waits H limited =
    let never = settles-none pair_plan received H (λ i l. unsettled i) in
    let pass = check-passed pair_plan received [] (0 ∷ []) H accepted block-accepted (spans-none _) (lit≤ tt) limited in
    let ends = decode-unsettled pair_plan received (0 ∷ []) H pass (omega (arith, never)) in
    let none : min 0 H ≡ 0 = min-eq_left zero-le in (
      ends.answer,
      ends.tells ∙ sym (noted-still pair_plan received H 0 (λ j l. still j)) ∙ ap (sweep_sums pair_plan received) none
          ∙ sym (sums-zero pair_plan received),
      ends.leaves,
    )

-- the row of document 02: 15, with as many sweeps as a call may allow
pub pair-waits-longest : decode_answer pair_plan received [] (0 ∷ []) 4096 ≡ refused 15 0
pair-waits-longest = (pair-waits 4096 (lit≤ tt)).0
