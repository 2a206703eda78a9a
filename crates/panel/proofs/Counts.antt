-- True states: a state whose count is the true one keeps a true one through sweeps and set bits.
--   unsatisfied_count sides block  how many vertices read no inner codeword: the true count (unsatisfied specs Count)
--   moved_count plan count before after  a count as the true one changes from one block to another (specs State)
--   TrueState plan state          a state whose count is the true one of its block (specs Calls)
--   loaded_state plan block        the state that loading gives (specs State)
--   counted_state plan sweeps block  the state of a block with its true count, at any sweep number
--   swept_in plan state, set_in bit value state  the block of a state after the sweep that its number asks for, and with a bit set (Answers)
--   count_change sides before after  by how much the true count of the second block is above that of the first, 65,536 added (unsatisfied specs
--                                 Count)
-- Laws are named by their subject, then by the fact: `count-`, `change-` and `moved-` are about numbers, `counted-` about counted_state,
-- `load-`, `sweep-` and `set-` about the three services, `settled-` about a state whose count is 0. At the end of a name, `-true` says that a
-- count is true, `-counted` that a service leaves a counted state, `-codeword` and `-back` lead from count 0 to a codeword block and back.
use Rattle.std.proofs.Common.{ℕ, ◌+◌, ◌≤◌, ◌<◌, Bool, true, false, cond, List, [], ◌∷◌, ◌≡◌, refl, sym, ap, ◌∙◌, arith, eqb, length, take}
use Rattle.std.proofs.Common.{take_all}
use native.Mathlib.Decide.{dec_le, ℕ_discrete}
use Rattle.bits.specs.Bit.{with_bit, written}
use Rattle.bits.proofs.Bytes.{bit_at-other, length-with_bit}
use Rattle.bits.proofs.Fronts.{written-part, length-written}
use Rattle.inner_code.specs.Reply.{done}
use Rattle.inner_code.proofs.Replies.{and_then-passed}
use Rattle.wiring.specs.Plan.{Plan, edge_count, left, right, side_of}
use Rattle.wiring.specs.Wiring.{plan_check}
use Rattle.wiring.specs.Block.{block_check, is_codeword_block}
use Rattle.wiring.proofs.Blocks.{block-sized, block-clear, block_back}
use Rattle.wiring.proofs.Permutation.{side-fits}
use Rattle.wiring.proofs.Plans.{plan-sound, plan-joined}
use Rattle.sweeps.specs.Sweep.{turn}
use Rattle.sweeps.proofs.Sweeping.{sweep-block}
use Rattle.unsatisfied.specs.Count.{unsatisfied_count, count_change}
use Rattle.unsatisfied.proofs.Counting.{count-le-all, count-codeword, count_none}
use Rattle.panel.specs.State.{state_bytes, count_in, sweeps_in, block_in, state_of, loaded_state, moved_count, set_to}
use Rattle.panel.specs.Answer.{load_check, load_output, sweep_answer, sweep_output, set_output}
use Rattle.panel.specs.Calls.{TrueState}
use Rattle.panel.proofs.States.{count-of, block-of, length-of}
use Rattle.panel.proofs.Answers.{Ends, Accepted, swept_in, set_in, state-long, state-means, load-means, load-made}
use Rattle.panel.proofs.Answers.{sweep-stopped, sweep-spent, sweep-made, settled-stays, set-stopped, set-outside, set-inside, set-made}

-- ---- counts of an accepted plan

module _ (plan : Plan) {values : List ℕ} (accepted : plan_check plan ≡ done values) where
  pub count-le : (block : List ℕ) → unsatisfied_count (side_of plan) block ≤ 4096
  count-le block =
      let fits = side-fits plan (plan-sound plan accepted).1 in
      omega (arith, count-le-all (side_of plan) block, (fits left).n-high, (fits right).n-high)

  pub change-le : (before after : List ℕ) → count_change (side_of plan) before after ≤ 69632
  unfolding count_change
  change-le before after = omega (arith, count-le after)

  moved-true : (before after : List ℕ)
      → moved_count plan (unsatisfied_count (side_of plan) before) before after ≡ unsatisfied_count (side_of plan) after
  unfolding moved_count
  moved-true before after = omega (arith, count-le before, count-le after)

-- ---- the state of a block with its true count

abbrev pub counted_state : Plan → ℕ → List ℕ → List ℕ
counted_state plan sweeps block = state_of (unsatisfied_count (side_of plan) block) sweeps block

module _ (plan : Plan) (block : List ℕ) {values : List ℕ} (accepted : plan_check plan ≡ done values)
    (pass : block_check (edge_count plan) block ≡ done []) where
  pub counted-true : (sweeps : ℕ) → TrueState plan (counted_state plan sweeps block)
  counted-true sweeps =
      let count : ℕ = unsatisfied_count (side_of plan) block in
      let same = block-of count sweeps block in
      record {
        accepted =
            state-long plan _ (omega (arith, length-of count sweeps block)) ∙ and_then-passed _ _ values accepted ∙ rw same pass;
        counted = count-of _ sweeps block ∙ ap (unsatisfied_count (side_of plan)) (sym same);
      }

  pub load-true : TrueState plan (loaded_state plan block)
  unfolding loaded_state
  load-true = counted-true 0

-- ---- loading

module _ (plan : Plan) (block lent : List ℕ) {values : List ℕ} (e : load_check plan block lent ≡ done values) where
  loaded-written : load_output plan block lent ≡ written (loaded_state plan block) lent
  unfolding loaded_state
  loaded-written = (load-made plan block lent e _ refl).leaves

  loaded-length : length (loaded_state plan block) ≡ state_bytes (edge_count plan)
  loaded-length =
      let (accepted, pass) = load-means plan block lent e in
      (state-means plan _ (load-true plan block accepted pass).accepted).sized

  -- the state stands at the front of the lent bytes
  pub load-front : take (state_bytes (edge_count plan)) (load_output plan block lent) ≡ loaded_state plan block
  load-front = ap (take (state_bytes (edge_count plan))) loaded-written ∙ written-part (loaded_state plan block) lent _ (sym loaded-length)

  -- in a buffer of its length nothing stands behind it
  pub load-whole : length lent ≡ state_bytes (edge_count plan) → load_output plan block lent ≡ loaded_state plan block
  load-whole sized =
      let kept = ap length loaded-written ∙ length-written (loaded_state plan block) lent (omega (arith, loaded-length)) in
      sym (take_all (state_bytes (edge_count plan)) (load_output plan block lent) (omega arith)) ∙ load-front

-- ---- a true state

-- what a bit is set to is a bit
pub set_to-lt : (value : ℕ) → set_to value < 2
unfolding set_to
set_to-lt value = go (eqb value 0)
  where
    go : (none : Bool) → cond none 0 1 < 2
    go true = omega arith
    go false = omega arith

with_bit-block : (N : ℕ) (block : List ℕ) (bit b : ℕ) → bit < N → b < 2 → block_check N block ≡ done []
    → block_check N (with_bit block bit b) ≡ done []
with_bit-block N block bit b low small pass =
    block_back N (with_bit block bit b) (length-with_bit block bit b ∙ block-sized N block pass)
    (λ i h. bit_at-other block bit i b (omega arith) small ∙ block-clear N block pass i h)

module _ (plan : Plan) (state : List ℕ) (t : TrueState plan state) where
  means : Accepted plan state
  means = state-means plan state t.accepted

  -- the count moves as the true one does
  count-moves : (after : List ℕ) → unsatisfied_count (side_of plan) after ≡ moved_count plan (count_in state) (block_in state) after
  count-moves after =
      sym (ap (λ (count : ℕ). moved_count plan count (block_in state) after) t.counted ∙ moved-true plan means.plan-done (block_in state) after)

  -- a settled state is one whose block is a codeword
  pub settled-codeword : count_in state ≡ 0 → is_codeword_block (side_of plan) (block_in state) ≡ true
  settled-codeword none = count_none (side_of plan) (block_in state) (sym t.counted ∙ none)

  pub settled_back : is_codeword_block (side_of plan) (block_in state) ≡ true → count_in state ≡ 0
  settled_back code = t.counted ∙ count-codeword (side_of plan) (block_in state) code

  -- ---- through a sweep call

  pub sweep-counted : (count_in state ≡ 0 → ⊥) → sweeps_in state < 4096
      → Ends (sweep_answer plan state) (sweep_output plan state)
      (done (unsatisfied_count (side_of plan) (swept_in plan state) ∷ (sweeps_in state + 1) ∷ []))
      (counted_state plan (sweeps_in state + 1) (swept_in plan state))
  sweep-counted some low = sweep-made plan state t.accepted some low _ (swept_in plan state) refl (count-moves (swept_in plan state))

  pub sweep-true : TrueState plan (sweep_output plan state)
  sweep-true =
      elim (ℕ_discrete (count_in state) 0) [
        | yes none ↦ rw (settled-stays plan state t.accepted none).leaves t
        | no some ↦
            elim (dec_le 4096 (sweeps_in state)) [
              | yes high ↦ rw (sweep-stopped plan state (sweep-spent plan state t.accepted some high)).leaves t
              | no low ↦
                  let pass = sweep-block ((plan-joined plan means.plan-done).whole (turn (sweeps_in state))) (block_in state) means.block-done in
                  rw (sweep-counted some (omega arith)).leaves
                  (counted-true plan (swept_in plan state) means.plan-done pass (sweeps_in state + 1))
            ]
      ]

  -- ---- through the setting of a bit

  module _ (bit value : ℕ) where
    pub set-loads : bit < edge_count plan → set_output plan bit value state ≡ loaded_state plan (with_bit (block_in state) bit (set_to value))
    unfolding loaded_state
    set-loads low =
        let check = set-inside plan bit state t.accepted low in
        (set-made plan bit value state check _ (set_in bit value state) refl (count-moves (set_in bit value state))).leaves

    set-block : bit < edge_count plan → block_check (edge_count plan) (set_in bit value state) ≡ done []
    set-block low = with_bit-block (edge_count plan) (block_in state) bit (set_to value) low (set_to-lt value) means.block-done

    pub set-true : TrueState plan (set_output plan bit value state)
    set-true =
        elim (dec_le (edge_count plan) bit) [
          | yes high ↦ rw (set-stopped plan bit value state (set-outside plan bit state t.accepted high)).leaves t
          | no low ↦
              rw (set-loads (omega arith)) (load-true plan (set_in bit value state) means.plan-done (set-block (omega arith)))
        ]
