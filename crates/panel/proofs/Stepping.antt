-- Sweep calls made one by one, and the full decoding with H 4,096.
--   after_calls plan i state      the state after i sweep calls (specs Calls)
--   SweptHome, NeverSettles      what sweep calls come to where the full decoding settles, and where it does not (specs Calls)
--   TrueState plan state         a state whose count is the true one of its block (specs Calls)
--   loaded_state plan block       the state that loading gives (specs State)
--   counted_state plan i block    the state of a block with its true count, at sweep number i (Counts)
--   swept_block plan i block      the block after i sweeps (decoder specs Decode)
--   settled_after plan block i    the block after i sweeps is a codeword (decoder specs Decode)
--   settles_at plan block H       the first count from 0 to H after which it is, H + 1 where none is (decoder specs Decode)
--   stepped plan block i         the state of the block after i sweeps, at sweep number i
-- Laws are named by their subject, then by the fact: `calls-` is about calls from any state, `stepped-` about the states that a loaded one
-- comes to, `steps-` about calls after a loading, `set-steps-` about calls after a bit is set. At the end of a name, `-made` is one call on an
-- unsettled state, `-at` the state after i calls before the block settles, and `-ended` the state from then on.
-- The theorems are steps-swept, which says what each call leaves, steps-settle and steps-unsettled, which compare the calls after a loading
-- with what the full decoding answers and leaves, and set-steps-settle and set-steps-unsettled, the same after a bit is set.
use Rattle.std.proofs.Common.{ℕ, zero, suc, ◌+◌, ◌-◌, ◌≤◌, ◌<◌, false, true≢false, List, [], ◌∷◌, ◌≡◌, refl, sym, ap, ap₂, ◌∙◌, le_refl}
use Rattle.std.proofs.Common.{lt-suc_self, add-zero, add-suc, add-one, arith, length, take}
use native.Mathlib.Decide.{dec_le}
use Rattle.bits.specs.Bit.{with_bit}
use Rattle.bits.proofs.Fronts.{written-part}
use Rattle.inner_code.specs.Reply.{done, refused}
use Rattle.wiring.specs.Plan.{Plan, edge_count, side_of}
use Rattle.wiring.specs.Wiring.{plan_check}
use Rattle.wiring.specs.Block.{block_bytes, block_check}
use Rattle.wiring.proofs.Blocks.{block-sized}
use Rattle.wiring.proofs.Plans.{plan-joined}
use Rattle.sweeps.specs.Sweep.{sweep, turn}
use Rattle.decoder.specs.Decode.{swept_block, settled_after, settles_at}
use Rattle.decoder.specs.Answer.{decode_answer, decode_output}
use Rattle.sweeps.proofs.Sweeping.{after-zero, after-one-more, after_block, length-after}
use Rattle.decoder.proofs.Settling.{settles-codeword, settles-first, decode-settled, decode-means}
use Rattle.decoder.proofs.Trials.{check-means}
use Rattle.unsatisfied.specs.Count.{unsatisfied_count}
use Rattle.unsatisfied.proofs.Counting.{count-codeword, count_none}
use Rattle.panel.specs.State.{count_in, sweeps_in, block_in, state_of, loaded_state, set_to}
use Rattle.panel.specs.Answer.{told, sweep_answer, sweep_output, set_output}
use Rattle.panel.specs.Calls.{after_calls, TrueState, SweptHome, NeverSettles}
use Rattle.panel.proofs.States.{count-of, sweeps-of, block-of, told_of}
use Rattle.panel.proofs.Answers.{Ends, swept_in, settled-stays, sweep-stopped, sweep-spent}
use Rattle.panel.proofs.Counts.{counted_state, counted-true, sweep-counted, set-loads}
use Rattle.panel.proofs.Unsettled.{unsettled-means}

-- ---- calls from any state

module _ (plan : Plan) (state : List ℕ) where
  calls-zero : after_calls plan 0 state ≡ state
  unfolding after_calls
  calls-zero = refl

  calls-suc : (i : ℕ) → after_calls plan (suc i) state ≡ sweep_output plan (after_calls plan i state)
  unfolding after_calls
  calls-suc i = refl

  -- a state that a call leaves as it is stays
  calls-stay : (m j : ℕ) → sweep_output plan (after_calls plan m state) ≡ after_calls plan m state
      → after_calls plan (m + j) state ≡ after_calls plan m state
  calls-stay m zero same = rw add-zero
  calls-stay m (suc j) same = rw add-suc (calls-suc (m + j) ∙ ap (sweep_output plan) (calls-stay m j same) ∙ same)

-- ---- calls after a loading

abbrev stepped : Plan → List ℕ → ℕ → List ℕ
stepped plan block i = counted_state plan i (swept_block plan i block)

module _ (plan : Plan) (block : List ℕ) where
  stepped-zero : loaded_state plan block ≡ stepped plan block 0
  unfolding loaded_state
  stepped-zero = ap (counted_state plan 0) (sym (after-zero (side_of plan) block))

  stepped-number : (i : ℕ) → sweeps_in (stepped plan block i) ≡ i
  stepped-number i = sweeps-of _ i (swept_block plan i block)

  -- the sweep that its number asks for is the next one
  stepped-block : (i : ℕ) → swept_in plan (stepped plan block i) ≡ swept_block plan (i + 1) block
  stepped-block i =
      ap₂ (λ (m : ℕ) (b : List ℕ). sweep (side_of plan (turn m)) b) (stepped-number i) (block-of _ i (swept_block plan i block))
      ∙ sym (after-one-more (side_of plan) i block)

  stepped-some : (i : ℕ) → settled_after plan block i ≡ false → count_in (stepped plan block i) ≡ 0 → ⊥
  stepped-some i missed none = true≢false (sym (count_none (side_of plan) _ (sym (count-of _ i _) ∙ none)) ∙ missed)

module _ (plan : Plan) (block : List ℕ) (accepted : plan_check plan ≡ done []) (pass : block_check (edge_count plan) block ≡ done []) where
  stepped-true : (i : ℕ) → TrueState plan (stepped plan block i)
  stepped-true i = counted-true plan _ accepted (after_block (side_of plan) (plan-joined plan accepted).whole i block pass) i

  steps-made : (i : ℕ) → i < 4096 → settled_after plan block i ≡ false
      → Ends (sweep_answer plan (stepped plan block i)) (sweep_output plan (stepped plan block i))
      (told (stepped plan block (i + 1))) (stepped plan block (i + 1))
  steps-made i low missed =
      let number = stepped-number plan block i in
      let r = sweep-counted plan (stepped plan block i) (stepped-true i) (stepped-some plan block i missed) (rw number low) in
      let next = ap₂ (λ (m : ℕ) (b : List ℕ). counted_state plan (m + 1) b) number (stepped-block plan block i) in
      record { answers = r.answers ∙ sym (told_of _ _ (swept_in plan (stepped plan block i))) ∙ ap told next; leaves = r.leaves ∙ next }

  -- as long as the block is not settled, each call makes one sweep of the full decoding and has the true count of its block
  pub steps-swept : (i : ℕ) → i ≤ 4096 → ((j : ℕ) → j < i → settled_after plan block j ≡ false)
      → after_calls plan i (loaded_state plan block) ≡ state_of (unsatisfied_count (side_of plan) (swept_block plan i block)) i (swept_block plan i block)
  steps-swept zero low missed = calls-zero plan (loaded_state plan block) ∙ stepped-zero plan block
  steps-swept (suc i) low missed =
      calls-suc plan (loaded_state plan block) i
      ∙ ap (sweep_output plan) (steps-swept i (omega arith) (λ j l. missed j (omega arith)))
      ∙ (steps-made i low (missed i (lt-suc_self i))).leaves ∙ ap (stepped plan block) (add-one i)

  -- the calls up to a count m, where the block does not settle before it
  module _ (m : ℕ) (within : m ≤ 4096) (missed : (j : ℕ) → j < m → settled_after plan block j ≡ false) where
    steps-at : (i : ℕ) → i ≤ m → after_calls plan i (loaded_state plan block) ≡ stepped plan block i
    steps-at i l = steps-swept i (omega arith) (λ j k. missed j (omega arith))

    steps-some : (i : ℕ) → i < m → count_in (after_calls plan i (loaded_state plan block)) ≡ 0 → ⊥
    steps-some i l none = stepped-some plan block i (missed i l) (rw (steps-at i (omega arith)) at none)

    steps-number : (i : ℕ) → i ≤ m → sweeps_in (after_calls plan i (loaded_state plan block)) ≡ i
    steps-number i l = ap sweeps_in (steps-at i l) ∙ stepped-number plan block i

    steps-told : (i : ℕ) → i < m
        → sweep_answer plan (after_calls plan i (loaded_state plan block)) ≡ told (after_calls plan (i + 1) (loaded_state plan block))
    steps-told i l =
        ap (sweep_answer plan) (steps-at i (omega arith)) ∙ (steps-made i (omega arith) (missed i l)).answers
        ∙ ap told (sym (steps-at (i + 1) (omega arith)))

    -- and those from it on, where a call leaves the state as it is
    steps-ended : sweep_output plan (stepped plan block m) ≡ stepped plan block m
        → (i : ℕ) → m ≤ i → after_calls plan i (loaded_state plan block) ≡ stepped plan block m
    steps-ended same i l =
        let here = steps-at m (le_refl m) in
        let later : m + (i - m) ≡ i = omega arith in
        rw later at (calls-stay plan (loaded_state plan block) m (i - m) (ap (sweep_output plan) here ∙ same ∙ sym here)) ∙ here

  steps-home : (q : ℕ) → settles_at plan block 4096 ≡ q → q ≤ 4096 → SweptHome plan (loaded_state plan block) (swept_block plan q block) q
  steps-home q at within =
      let missed = settles-first plan block 4096 q at in
      let none = count-codeword (side_of plan) (swept_block plan q block) (settles-codeword plan block 4096 q at within) in
      let still = settled-stays plan (stepped plan block q) (stepped-true q).accepted (count-of _ q _ ∙ none) in
      let ended = steps-ended q within missed still.leaves in
      record {
        unsettled = steps-some q within missed;
        numbered = steps-number q within missed;
        swept = steps-told q within missed;
        home = λ i l. ended i l ∙ ap (λ (count : ℕ). state_of count q (swept_block plan q block)) none;
        stays = λ i l. ap (sweep_answer plan) (ended i l) ∙ still.answers ∙ ap (λ (m : ℕ). done (0 ∷ m ∷ [])) (stepped-number plan block q);
      }

  steps-never : 4096 < settles_at plan block 4096 → NeverSettles plan (loaded_state plan block)
  steps-never late =
      let last = stepped plan block 4096 in
      let missed : (j : ℕ) → j ≤ 4096 → settled_after plan block j ≡ false = λ j l. settles-first plan block 4096 _ refl j (omega arith) in
      let before : (j : ℕ) → j < 4096 → settled_after plan block j ≡ false = λ j l. missed j (omega arith) in
      let some = stepped-some plan block 4096 (missed 4096 (le_refl 4096)) in
      let spent = sweep-spent plan last (stepped-true 4096).accepted some (omega (arith, stepped-number plan block 4096)) in
      let stop = sweep-stopped plan last spent in
      let ended = steps-ended 4096 (le_refl 4096) before stop.leaves in
      record {
        unsettled = λ i none.
            elim (dec_le 4096 i) [
              | yes past ↦ some (rw (ended i past) at none)
              | no early ↦ steps-some 4096 (le_refl 4096) before i (omega arith) none
            ];
        numbered = steps-number 4096 (le_refl 4096) before;
        swept = steps-told 4096 (le_refl 4096) before;
        spent = λ i l. ap (sweep_answer plan) (ended i l) ∙ stop.answers;
      }

-- ---- the calls and the full decoding

pub steps-settle : (plan : Plan) (block output : List ℕ) (q : ℕ) → decode_answer plan block [] output 4096 ≡ done (q ∷ [])
    → SweptHome plan (loaded_state plan block) (take (block_bytes (edge_count plan)) (decode_output plan block [] output 4096)) q
steps-settle plan block output q e =
    let (at, within, (values, check)) = decode-means plan block output 4096 q e in
    let passed = check-means plan block [] output 4096 check in
    let size : ℕ = block_bytes (edge_count plan) in
    let sized : size ≡ length (swept_block plan q block) =
    sym (length-after (side_of plan) q block ∙ block-sized (edge_count plan) block passed.block-done) in
    let settled = ap (take size) (decode-settled plan block output 4096 check q at within).leaves ∙ written-part _ output size sized in
    rw settled (steps-home plan block passed.plan-done passed.block-done q at within)

pub steps-unsettled : (plan : Plan) (block output : List ℕ) → decode_answer plan block [] output 4096 ≡ refused 15 0
    → NeverSettles plan (loaded_state plan block)
steps-unsettled plan block output e =
    let (passed, late) = unsettled-means plan block output 4096 e in
    steps-never plan block passed.plan-done passed.block-done late

-- ---- the same after a bit is set: the calls go as after loading the block with the bit set

module _ (plan : Plan) (state output : List ℕ) (bit value : ℕ) (t : TrueState plan state) (low : bit < edge_count plan) where
  pub set-steps-settle : (q : ℕ) → decode_answer plan (with_bit (block_in state) bit (set_to value)) [] output 4096 ≡ done (q ∷ [])
      → SweptHome plan (set_output plan bit value state)
      (take (block_bytes (edge_count plan)) (decode_output plan (with_bit (block_in state) bit (set_to value)) [] output 4096)) q
  set-steps-settle q e = rw (set-loads plan state t bit value low) (steps-settle plan _ output q e)

  pub set-steps-unsettled : decode_answer plan (with_bit (block_in state) bit (set_to value)) [] output 4096 ≡ refused 15 0
      → NeverSettles plan (set_output plan bit value state)
  set-steps-unsettled e = rw (set-loads plan state t bit value low) (steps-unsettled plan _ output e)
