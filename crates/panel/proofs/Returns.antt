-- What the services on a state return, by what the functions return that they call on a block.
--   count_answer plan block          the refusals of a plan and a block, or the true count (unsatisfied specs Answer)
--   bit_answer, bit_block             the answer and the block at exit where a bit of a block is set (unsatisfied specs Answer)
--   once_check, once_answer, once_block  what stops one sweep of a block, its answer, and the block at exit (single_sweep specs Answer)
--   lent_block state, with_block state block  the bytes that the code lends on, and the state when a block comes back in their place (States)
--   load_answer, load_output ..       what each service answers, and the lent bytes at exit (specs Answer)
--   Returned answer output reply after  the reply and the bytes at exit are the answer and the output: what a service ensures
--   Loaded, Swept, Set              the same of each service
--   Lent plan state check next reply after  a function to which the block was lent on has told the change of the true count up to the block `next`
--                                   and left that block, or the refusal of the check and the block as it was
-- Laws are named by the service, then by the outcome. `-too-short` is a state of fewer bytes than stand before a block, `-state-refused` and
-- `-block-refused` a call that the check of the state or the function on the block turns back, `-lent` what that function returns, `-put` a
-- state that is written, `-low` a bound on the number that the function tells. load-no-room is a buffer that is too short, sweep-settled a
-- settled state, sweep-over one whose sweeps are all made. `lent-` laws are about Lent.
use Rattle.std.proofs.Common.{ℕ, ◌+◌, ◌%◌, ◌≤◌, ◌<◌, List, [], ◌∷◌, ◌≡◌, refl, sym, ap, ap₂, ◌∙◌, mod-eq_of_lt, arith, length}
use Rattle.bits.specs.Bit.{pair_at, written}
use Rattle.inner_code.specs.Reply.{Reply, done, refused, and_then, if_done}
use Rattle.inner_code.proofs.Replies.{and_then-done, and_then-back, if_done-done, if_done-refused}
use Rattle.wiring.specs.Plan.{Plan, edge_count, side_of}
use Rattle.wiring.specs.Wiring.{plan_check}
use Rattle.wiring.specs.Block.{block_check}
use Rattle.wiring.specs.declared.side.SideName.{SideName}
use Rattle.wiring.proofs.Blocks.{block-sized}
use Rattle.sweeps.specs.Sweep.{turn}
use Rattle.unsatisfied.specs.Count.{unsatisfied_count, count_change}
use Rattle.unsatisfied.specs.Answer.{count_answer, bit_answer, bit_block}
use Rattle.single_sweep.specs.Answer.{once_check, once_answer, once_block}
use Rattle.panel.specs.State.{state_bytes, count_in, sweeps_in, block_in, state_of, moved_count, set_to}
use Rattle.panel.specs.Answer.{state_check, load_answer, load_output, sweep_answer, sweep_output, set_check, set_answer, set_output}
use Rattle.panel.proofs.States.{lent_block, with_block, block-lent, block_back, block_same, block-copied}
use Rattle.panel.proofs.Answers.{Ends, state-short, state-long, state-plan, load-uncounted, load-short, load-passed, load-stopped, load-made}
use Rattle.panel.proofs.Answers.{swept_in, sweep-state, sweep-stopped, settled-stays, sweep-spent, sweep-made}
use Rattle.panel.proofs.Answers.{set_in, set-state, set-checked, set-stopped, set-made}
use Rattle.panel.proofs.Counts.{count-le, change-le, set_to-lt}

abbrev Returned : Reply → List ℕ → Reply → List ℕ → Type 0
Returned answer output reply after = record { result_value : reply ≡ answer; state_after : after ≡ output }

returned : {answer reply said : Reply} {output left after : List ℕ} → Ends answer output reply left → said ≡ reply → after ≡ left
    → Returned answer output said after
returned e says same = record { result_value = says ∙ sym e.answers; state_after = same ∙ sym e.leaves }

-- ---- loading

module _ (plan : Plan) (block : List ℕ) {count : ℕ} (counts : done (count ∷ []) ≡ count_answer plan block) where
  count-told : ((values : List ℕ) × (plan_check plan ≡ done values)) × ((values : List ℕ) × (block_check (edge_count plan) block ≡ done values))
      × (count ≡ unsatisfied_count (side_of plan) block)
  unfolding count_answer
  count-told =
      let (accepted, rest) = and_then-done _ _ _ (sym counts) in
      let (pass, same) = and_then-done _ _ _ rest in
      (accepted, pass, cc same)

  pub load_low : count < 65536
  load_low = let ((values, accepted), pass, is) = count-told in omega (arith, count-le plan accepted block)

module _ (plan : Plan) (block lent : List ℕ) where
  abbrev Loaded : Reply → List ℕ → Type 0
  Loaded = Returned (load_answer plan block lent) (load_output plan block lent)

  pub load-block-refused : {number place : ℕ} → refused number place ≡ count_answer plan block → Loaded (refused number place) lent
  load-block-refused e = returned (load-stopped plan block lent (load-uncounted plan block lent (sym e))) refl refl

  module _ {count : ℕ} (counts : done (count ∷ []) ≡ count_answer plan block) where
    pub load-no-room : length lent < 4 + length block → Loaded (refused 13 0) lent
    unfolding state_bytes
    load-no-room short =
        let ((values, accepted), (others, pass), is) = count-told plan block counts in
        let stops = load-short plan block lent accepted pass (omega (arith, block-sized _ block pass)) in
        returned (load-stopped plan block lent stops) refl refl

    pub load-put : 4 + length block ≤ length lent → {head after : List ℕ} → head ≡ state_of count 0 (block_in lent)
        → after ≡ written block (lent_block head) → Loaded (done (count ∷ 0 ∷ [])) (with_block head after)
    unfolding state_bytes
    load-put room {head} put copied =
        let ((values, accepted), (others, pass), is) = count-told plan block counts in
        let free = load-passed plan block lent accepted pass (omega (arith, block-sized _ block pass)) in
        returned (load-made plan block lent free count is) refl (ap (with_block head) copied ∙ block-copied head count 0 lent block put)

-- ---- a block that is lent on to a function which tells the change of the true count

pub record Lent (plan : Plan) (state : List ℕ) (check : Reply) (next : List ℕ) (reply : Reply) (after : List ℕ) : Type 0 where
  pub tells : reply ≡ and_then check (done (count_change (side_of plan) (block_in state) next ∷ []))
  pub leaves : after ≡ if_done check next (block_in state)

module _ {plan : Plan} {state : List ℕ} {check : Reply} {next after : List ℕ} where
  lent-refused : {number place : ℕ} → Lent plan state check next (refused number place) after
      → (check ≡ refused number place) × (with_block state after ≡ state)
  lent-refused {number} {place} l =
      let stops = and_then-back check _ number place (sym l.tells) in
      (stops, block_same state after (l.leaves ∙ if_done-refused check next _ number place stops))

  module _ {change : ℕ} (l : Lent plan state check next (done (change ∷ [])) after) where
    lent-check : (values : List ℕ) × (check ≡ done values)
    lent-check = (and_then-done check _ _ (sym l.tells)).0

    lent-next : after ≡ next
    lent-next = let (values, pass) = lent-check in l.leaves ∙ if_done-done check next _ values pass

    lent-change : change ≡ count_change (side_of plan) (block_in state) next
    lent-change = let same = (and_then-done check _ _ (sym l.tells)).1 in cc same

    lent-low : plan_check plan ≡ done [] → change ≤ 69632
    lent-low accepted = rw lent-change (change-le plan accepted (block_in state) next)

    lent-moved : (count : ℕ) → count ≡ pair_at state 0 → (count + change) % 65536 ≡ moved_count plan (count_in state) (block_in state) after
    unfolding moved_count count_in
    lent-moved count is =
        ap₂ (λ (x y : ℕ). (x + y) % 65536) is (lent-change ∙ ap (count_change (side_of plan) (block_in state)) (sym lent-next))

-- ---- a sweep call

module _ (plan : Plan) (state : List ℕ) where
  abbrev Swept : Reply → List ℕ → Type 0
  Swept = Returned (sweep_answer plan state) (sweep_output plan state)

  pub sweep-state-refused : {number place : ℕ} → refused number place ≡ state_check plan state → Swept (refused number place) state
  sweep-state-refused e = returned (sweep-stopped plan state (sweep-state plan state (sym e))) refl refl

  pub sweep-too-short : length state < 4 → {number place : ℕ} → refused number place ≡ and_then (plan_check plan) (refused 11 0)
      → Swept (refused number place) state
  sweep-too-short short e = sweep-state-refused (e ∙ sym (state-short plan state short))

  module _ {count sweeps : ℕ} (counted : count ≡ pair_at state 0) (numbered : sweeps ≡ pair_at state 2)
      (accepted : state_check plan state ≡ done []) where
    pub sweep-settled : count ≡ 0 → Swept (done (count ∷ sweeps ∷ [])) state
    unfolding count_in sweeps_in
    sweep-settled none =
        returned (settled-stays plan state accepted (sym counted ∙ none)) (ap₂ (λ (c s : ℕ). done (c ∷ s ∷ [])) none numbered) refl

    pub sweep-over : (count ≡ 0 → ⊥) → 4096 ≤ sweeps → Swept (refused 28 0) state
    unfolding count_in sweeps_in
    sweep-over some high =
        let over = sweep-spent plan state accepted (λ none. some (counted ∙ none)) (omega arith) in
        returned (sweep-stopped plan state over) refl refl

  -- the block is lent on to one sweep
  abbrev pub SweptLent : Reply → List ℕ → Type 0
  SweptLent = Lent plan state (state_check plan state) (swept_in plan state)

  pub sweep-lent : {sweeps : ℕ} → sweeps ≡ pair_at state 2 → 4 ≤ length state → {side : SideName} {reply : Reply} {after : List ℕ}
      → side ≡ turn sweeps → reply ≡ once_answer plan side (lent_block state) → after ≡ once_block plan side (lent_block state) → SweptLent reply after
  unfolding once_answer once_block once_check sweeps_in
  sweep-lent numbered long is answers leaves =
      let side-is = is ∙ ap turn numbered in
      let check = state-long plan state long in
      record {
        tells = answers ∙ ap₂ (once_answer plan) side-is (block-lent state) ∙ rw check;
        leaves = leaves ∙ ap₂ (once_block plan) side-is (block-lent state) ∙ rw check;
      }

  module _ {after : List ℕ} where
    pub sweep-block-refused : {number place : ℕ} → SweptLent (refused number place) after → Swept (refused number place) (with_block state after)
    sweep-block-refused l =
        let (stops, same) = lent-refused l in
        returned (sweep-stopped plan state (sweep-state plan state stops)) refl same

    module _ {change : ℕ} (l : SweptLent (done (change ∷ [])) after) where
      pub sweep-low : change ≤ 69632
      sweep-low = let (values, pass) = lent-check l in lent-low l (state-plan plan state pass)

      pub sweep-put : {count sweeps : ℕ} → count ≡ pair_at state 0 → sweeps ≡ pair_at state 2 → 4 ≤ length state → (count ≡ 0 → ⊥) → sweeps < 4096
          → {left : List ℕ} → left ≡ state_of ((count + change) % 65536) (sweeps + 1) (block_in (with_block state after))
          → Swept (done ((count + change) % 65536 ∷ (sweeps + 1) ∷ [])) left
      unfolding count_in sweeps_in
      sweep-put {count} counted numbered long some low put =
          let (values, pass) = lent-check l in
          let unsettled = sweep-made plan state pass (λ none. some (counted ∙ none)) (omega arith) in
          returned (unsettled _ after (lent-next l) (lent-moved l count counted))
          (ap (λ (m : ℕ). done ((count + change) % 65536 ∷ (m + 1) ∷ [])) numbered)
          (put ∙ ap₂ (λ (m : ℕ) (block : List ℕ). state_of ((count + change) % 65536) (m + 1) block) numbered (block_back state long after))

-- ---- the setting of a bit

module _ (plan : Plan) (bit value : ℕ) (state : List ℕ) where
  abbrev Set : Reply → List ℕ → Type 0
  Set = Returned (set_answer plan bit value state) (set_output plan bit value state)

  pub set-too-short : length state < 4 → {number place : ℕ} → refused number place ≡ and_then (plan_check plan) (refused 11 0)
      → Set (refused number place) state
  set-too-short short e =
      returned (set-stopped plan bit value state (set-state plan bit state (state-short plan state short ∙ sym e))) refl refl

  abbrev pub SetLent : Reply → List ℕ → Type 0
  SetLent = Lent plan state (set_check plan bit state) (set_in bit value state)

  pub set-lent : 4 ≤ length state → {digit : ℕ} {reply : Reply} {after : List ℕ} → digit ≡ set_to value
      → reply ≡ bit_answer plan bit digit (lent_block state) → after ≡ bit_block plan bit digit (lent_block state) → SetLent reply after
  unfolding bit_answer bit_block
  set-lent long is answers leaves =
      let check = set-checked plan bit state long in
      let same : set_to value % 2 ≡ set_to value = mod-eq_of_lt (set_to-lt value) in
      record {
        tells = answers ∙ ap₂ (bit_answer plan bit) is (block-lent state) ∙ rw (check, same);
        leaves = leaves ∙ ap₂ (bit_block plan bit) is (block-lent state) ∙ rw (check, same);
      }

  module _ {after : List ℕ} where
    pub set-block-refused : {number place : ℕ} → SetLent (refused number place) after → Set (refused number place) (with_block state after)
    set-block-refused l = let (stops, same) = lent-refused l in returned (set-stopped plan bit value state stops) refl same

    module _ {change : ℕ} (l : SetLent (done (change ∷ [])) after) where
      pub set-low : change ≤ 69632
      unfolding set_check
      set-low =
          let (values, pass) = lent-check l in
          let ((passed, accepted), inside) = and_then-done (state_check plan state) _ values pass in
          lent-low l (state-plan plan state accepted)

      pub set-put : 4 ≤ length state → (count : ℕ) {left : List ℕ} → count ≡ pair_at state 0
          → left ≡ state_of ((count + change) % 65536) 0 (block_in (with_block state after))
          → Set (done ((count + change) % 65536 ∷ 0 ∷ [])) left
      set-put long count counted put =
          let (values, pass) = lent-check l in
          returned (set-made plan bit value state pass _ after (lent-next l) (lent-moved l count counted)) refl
          (put ∙ ap (state_of _ 0) (block_back state long after))
