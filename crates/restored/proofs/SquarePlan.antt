-- The square plan with the house code: it is accepted, its margin covers three flips within two sweeps, and it has the codewords that the
-- program needs.
--   square_plan            the plan (wiring specs Square)
--   sent_block             the codeword that is sent (specs Sent)
--   zero_block             eight bytes of zeros: another codeword, and what an output holds before a call
--   Received received     what is received of the sent block (specs Sent)
-- Names: the subject first, then the fact. `square-` is about the plan, `sent-` and `zero-` about the two codewords, `received-` about a
-- received block, `bytes-` about the bytes of a block.
use Rattle.std.proofs.Common.{◌≡◌, refl, ◌∙◌, List, [], ◌∷◌, true, ℕ, ◌≤◌, ◌<◌, le_refl, arith, lit<, length, get_or}
use native.Mathlib.Decide.{dec_le}
use lib.Count.{ones}
use lib.ListN.{get_or-eq_default}
use Rattle.bits.specs.Bit.{written, flips}
use Rattle.bits.specs.Search.{largest}
use Rattle.bits.proofs.Searches.{largest-bounds}
use Rattle.bits.proofs.Bytes.{bit_at-past}
use Rattle.inner_code.specs.Reply.{done}
use Rattle.inner_code.specs.Code.{distance}
use Rattle.inner_code.specs.Sheet.{degree, row_count, row_of}
use Rattle.inner_code.specs.House.{house_sheet}
use Rattle.wiring.specs.Plan.{edge_count, side_of, side_bit}
use Rattle.wiring.specs.Wiring.{plan_check}
use Rattle.wiring.specs.Block.{block_bytes, is_codeword_block, Block, Codeword}
use Rattle.wiring.specs.Square.{square_wiring, square_plan}
use Rattle.wiring.proofs.Blocks.{block_back}
use Rattle.meetings.specs.Spread.{spread}
use Rattle.radius.specs.Answer.{margin_answer}
use Rattle.restored.specs.Flip.{Flipped}
use Rattle.restored.specs.Sent.{sent_block, Received}
use Rattle.bits.proofs.Flips.{flips-none}

-- ---- the plan

pub square-accepted : plan_check square_plan ≡ done []
unfolding plan_check house_sheet square_wiring
square-accepted = refl

pub square-margin : margin_answer square_plan 3 ≡ done (2 ∷ [])
unfolding margin_answer distance ones spread house_sheet square_wiring side_bit degree row_count row_of
square-margin = refl

pub square-edges : edge_count square_plan ≡ 64
unfolding degree house_sheet
square-edges = refl

pub square-room : (output : List ℕ) → length output ≡ 8 → block_bytes (edge_count square_plan) ≤ length output
unfolding block_bytes
square-room output e = rw (square-edges, e) (le_refl 8)

-- eight bytes are a block of the plan
square-block : (block : List ℕ) → length block ≡ 8 → ((k : ℕ) → get_or block k 0 < 256) → Block (edge_count square_plan) block
unfolding block_bytes
square-block block e bytes = record { bytes = bytes; checked = rw square-edges (block_back 64 block e (λ i h. bit_at-past block i (omega arith))) }

-- ---- its codewords

abbrev pub zero_block : List ℕ
zero_block = 0 ∷ 0 ∷ 0 ∷ 0 ∷ 0 ∷ 0 ∷ 0 ∷ 0 ∷ []

-- every byte is below 256 if the largest is
bytes_below : (block : List ℕ) → largest (length block) (λ k. get_or block k 0) < 256 → (k : ℕ) → get_or block k 0 < 256
bytes_below block l k =
    elim (dec_le (length block) k) [
      | yes past ↦ omega (arith, get_or-eq_default block 0 past)
      | no inside ↦ omega (arith, largest-bounds (length block) (λ (j : ℕ). get_or block j 0) k (omega arith))
    ]

sent-sized : length sent_block ≡ 8
unfolding sent_block
sent-sized = refl

sent-bytes : (k : ℕ) → get_or sent_block k 0 < 256
unfolding sent_block largest
sent-bytes = bytes_below sent_block (lit< tt)

zero-bytes : (k : ℕ) → get_or zero_block k 0 < 256
unfolding largest
zero-bytes = bytes_below zero_block (lit< tt)

sent-satisfied : is_codeword_block (side_of square_plan) sent_block ≡ true
unfolding is_codeword_block house_sheet square_wiring side_bit degree row_count row_of sent_block
sent-satisfied = refl

pub sent-codeword : Codeword square_plan sent_block
sent-codeword = record { block-of = square-block sent_block sent-sized sent-bytes; satisfied-all = sent-satisfied }

pub sent-written : written sent_block zero_block ≡ sent_block
unfolding written sent_block
sent-written = refl

zero-satisfied : is_codeword_block (side_of square_plan) zero_block ≡ true
unfolding is_codeword_block house_sheet square_wiring side_bit degree row_count row_of
zero-satisfied = refl

pub zero-codeword : Codeword square_plan zero_block
zero-codeword = record { block-of = square-block zero_block refl zero-bytes; satisfied-all = zero-satisfied }

pub zero-another : zero_block ≡ sent_block → ⊥
unfolding sent_block
zero-another e = let z : ◌≡◌ {A = ℕ} 0 15 = cc in omega arith

-- ---- a received block

pub received-flipped : {received : List ℕ} → length received ≡ length sent_block → Flipped sent_block sent_block received 3 → Received received
received-flipped kept flipped =
    record { sized = kept ∙ sent-sized; bytes = flipped.bytes sent-bytes; few = omega (arith, flipped.few, flips-none 64 sent_block) }

pub received-block : {received : List ℕ} → Received received → Block (edge_count square_plan) received
received-block {received} r = square-block received r.sized r.bytes

pub received-few : {received : List ℕ} → Received received → flips (edge_count square_plan) sent_block received ≤ 3
received-few r = rw square-edges r.few
