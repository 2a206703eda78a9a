-- What the services on a state answer, and what they leave in it: one law for each outcome of their tests.
--   state_check plan state           what stops a call on a state (specs Answer)
--   load_check, sweep_check, set_check what stops a loading, a sweep call and the setting of a bit (specs Answer)
--   load_answer, load_output ..       what each service answers, and the lent bytes at exit (specs Answer)
--   loaded_state plan block          the state that loading gives (specs State)
--   moved_count plan count before after  a count as the true one changes (specs State)
--   swept_in plan state              the block of a state after the sweep that its number asks for
--   set_in bit value state           the block of a state with a bit set
--   Accepted plan state             what a state is that nothing stops
--   Ends answer output reply left   a call with this answer and output answers `reply` and leaves `left`
--   count_answer plan block, bit_check plan bit block  the answer of a count of a block, and what stops the setting of a bit in a block
--                                   (unsatisfied specs Answer)
-- Laws are named by their subject, then by the fact: `state-`, `load-`, `sweep-` and `set-` are about the check of a state and about the three
-- services. state-short and state-long are the check of a state by its length. The tests of a check come in their order, one outcome each;
-- load-uncounted and set-checked tell the first of them by what a function on a block tells. After them `-stopped` is answer and output where
-- the check refuses, and `-made` where it passes, by the count and the block that the call comes to. settled-stays is a sweep call on a settled
-- state. state-plan, state-means and load-means lead from a check that passes to the facts.
use Rattle.std.proofs.Common.{ℕ, ◌+◌, ◌≤◌, ◌<◌, not, ◌&&◌, List, [], ◌∷◌, ◌≡◌, sym, ap, ◌∙◌, arith, eqb, leb, length, length-drop, lt-ltb}
use Rattle.std.proofs.Common.{le-ltb, le-leb, eq-eqb, ne_eqb, eqb-true}
use native.Mathlib.Decide.{ℕ_discrete}
use borrow.Author.Tests.{lt-leb, not-false}
use Rattle.bits.specs.Bit.{with_bit, written}
use Rattle.inner_code.specs.Reply.{Reply, done, refused, refuse_if, and_then, if_done}
use Rattle.inner_code.proofs.Replies.{refuse-taken, refuse-passed, refuse-done, and_then-passed, and_then-refused, and_then-done}
use Rattle.inner_code.proofs.Replies.{and_then-assoc, and_then-back, if_done-done, if_done-refused}
use Rattle.wiring.specs.Plan.{Plan, edge_count, side_of}
use Rattle.wiring.specs.Wiring.{plan_check}
use Rattle.wiring.specs.Block.{block_check}
use Rattle.wiring.proofs.Blocks.{bits-unsized, block-sized, block-clear, block_back}
use Rattle.wiring.proofs.Plans.{plan-done}
use Rattle.sweeps.specs.Sweep.{sweep, turn}
use Rattle.unsatisfied.specs.Count.{unsatisfied_count}
use Rattle.unsatisfied.specs.Answer.{count_answer, bit_check}
use Rattle.panel.specs.State.{state_bytes, count_in, sweeps_in, block_in, state_of, loaded_state, moved_count, swept_state, set_to, set_state}
use Rattle.panel.specs.Answer.{state_check, told, load_check, load_answer, load_output, sweep_check, sweep_answer, sweep_output}
use Rattle.panel.specs.Answer.{set_check, set_answer, set_output}
use Rattle.panel.proofs.States.{told_of}

pub record Ends (answer : Reply) (output : List ℕ) (reply : Reply) (left : List ℕ) : Type 0 where
  pub answers : answer ≡ reply
  pub leaves : output ≡ left

-- ---- a call whose check refuses leaves what it was lent; one whose check passes leaves another state

module _ (check reply : Reply) (next lent : List ℕ) where
  ends-stopped : {number place : ℕ} → check ≡ refused number place
      → Ends (and_then check reply) (if_done check next lent) (refused number place) lent
  ends-stopped {number} {place} e =
      record { answers = and_then-refused check reply number place e; leaves = if_done-refused check next lent number place e }

  ends-done : {values : List ℕ} → check ≡ done values → Ends (and_then check reply) (if_done check next lent) reply next
  ends-done {values} e = record { answers = and_then-passed check reply values e; leaves = if_done-done check next lent values e }

-- ---- the check of a state

pub record Accepted (plan : Plan) (state : List ℕ) : Type 0 where
  pub plan-done : plan_check plan ≡ done []
  pub sized : length state ≡ state_bytes (edge_count plan)
  pub block-done : block_check (edge_count plan) (block_in state) ≡ done []

module _ (plan : Plan) (state : List ℕ) where
  -- fewer bytes than stand before a block are no state
  pub state-short : length state < 4 → state_check plan state ≡ and_then (plan_check plan) (refused 11 0)
  unfolding state_check state_bytes
  state-short short = ap (and_then (plan_check plan)) (refuse-taken _ 11 0 _ (ap not (ne_eqb _ (state_bytes (edge_count plan)) (λ same. omega arith))))

  -- from four bytes on, a state is refused or passes as its block is
  pub state-long : 4 ≤ length state → state_check plan state ≡ and_then (plan_check plan) (block_check (edge_count plan) (block_in state))
  unfolding state_check state_bytes block_in
  state-long long =
      ap (and_then (plan_check plan))
      (elim (ℕ_discrete (length state) (state_bytes (edge_count plan))) [
        | yes sized ↦ refuse-passed _ 11 0 _ (ap not (eq-eqb _ _ sized))
        | no other ↦
            refuse-taken _ 11 0 _ (ap not (ne_eqb _ _ other))
            ∙ sym (bits-unsized 11 12 _ (block_in state) (λ sized. other (omega (arith, length-drop 4 state))))
      ])

  pub state-plan : {values : List ℕ} → state_check plan state ≡ done values → plan_check plan ≡ done []
  unfolding state_check
  state-plan {values} e = let ((passed, accepted), rest) = and_then-done _ _ values e in plan-done plan accepted

  pub state-means : state_check plan state ≡ done [] → Accepted plan state
  unfolding state_check
  state-means e =
      let (first, rest) = and_then-done (plan_check plan) _ [] e in
      let (sized, block) = refuse-done _ 11 0 _ [] rest in
      record { plan-done = state-plan e; sized = eqb-true _ _ (not-false _ sized); block-done = block }

-- ---- loading

module _ (plan : Plan) (block lent : List ℕ) where
  -- what stops the count of a block stops its loading
  pub load-uncounted : {number place : ℕ} → count_answer plan block ≡ refused number place → load_check plan block lent ≡ refused number place
  unfolding count_answer load_check
  load-uncounted {number} {place} e =
      let first = plan_check plan in
      let second = block_check (edge_count plan) block in
      let stops = and_then-back (and_then first second) _ number place (and_then-assoc first second _ ∙ e) in
      sym (and_then-assoc first second _) ∙ and_then-refused _ _ number place stops

  module _ {values passed : List ℕ} (accepted : plan_check plan ≡ done values) (pass : block_check (edge_count plan) block ≡ done passed) where
    pub load-short : length lent < state_bytes (edge_count plan) → load_check plan block lent ≡ refused 13 0
    unfolding load_check
    load-short short =
        and_then-passed _ _ values accepted ∙ and_then-passed _ _ passed pass ∙ refuse-taken _ 13 0 _ (lt-ltb _ _ short)

    pub load-passed : state_bytes (edge_count plan) ≤ length lent → load_check plan block lent ≡ done []
    unfolding load_check
    load-passed room =
        and_then-passed _ _ values accepted ∙ and_then-passed _ _ passed pass ∙ refuse-passed _ 13 0 _ (le-ltb _ _ room)

  pub load-means : {values : List ℕ} → load_check plan block lent ≡ done values
      → (plan_check plan ≡ done []) × (block_check (edge_count plan) block ≡ done [])
  unfolding load_check
  load-means {values} e =
      let ((first, accepted), rest) = and_then-done _ _ values e in
      let ((second, pass), last) = and_then-done _ _ values rest in
      (plan-done plan accepted, block_back _ block (block-sized _ block pass) (block-clear _ block pass))

  loaded-counted : (count : ℕ) → count ≡ unsatisfied_count (side_of plan) block → loaded_state plan block ≡ state_of count 0 block
  unfolding loaded_state
  loaded-counted count is = rw is

  abbrev Loading : Reply → List ℕ → Type 0
  Loading = Ends (load_answer plan block lent) (load_output plan block lent)

  pub load-stopped : {number place : ℕ} → load_check plan block lent ≡ refused number place → Loading (refused number place) lent
  unfolding load_answer load_output
  load-stopped = ends-stopped _ _ _ lent

  load-done : {values : List ℕ} → load_check plan block lent ≡ done values
      → Loading (told (loaded_state plan block)) (written (loaded_state plan block) lent)
  unfolding load_answer load_output
  load-done = ends-done _ _ _ lent

  pub load-made : {values : List ℕ} → load_check plan block lent ≡ done values → (count : ℕ) → count ≡ unsatisfied_count (side_of plan) block
      → Loading (done (count ∷ 0 ∷ [])) (written (state_of count 0 block) lent)
  load-made e count is =
      let r = load-done e in
      let next = loaded-counted count is in
      record {
        answers = r.answers ∙ ap told next ∙ told_of count 0 block;
        leaves = r.leaves ∙ ap (λ (state : List ℕ). written state lent) next;
      }

-- ---- a sweep call

abbrev pub swept_in : Plan → List ℕ → List ℕ
swept_in plan state = sweep (side_of plan (turn (sweeps_in state))) (block_in state)

module _ (plan : Plan) (state : List ℕ) where
  pub sweep-state : {number place : ℕ} → state_check plan state ≡ refused number place → sweep_check plan state ≡ refused number place
  unfolding sweep_check
  sweep-state {number} {place} e = and_then-refused _ _ number place e

  -- the state after a sweep call, settled before it or not
  swept-settled : count_in state ≡ 0 → swept_state plan state ≡ state
  unfolding swept_state
  swept-settled none = rw (eq-eqb (count_in state) 0 none)

  swept-moved : (count_in state ≡ 0 → ⊥) → (count : ℕ) (after : List ℕ) → after ≡ swept_in plan state
      → count ≡ moved_count plan (count_in state) (block_in state) after → swept_state plan state ≡ state_of count (sweeps_in state + 1) after
  unfolding swept_state
  swept-moved some count after is moved = rw (ne_eqb (count_in state) 0 some, moved, is)

  told-settled : count_in state ≡ 0 → told state ≡ done (0 ∷ sweeps_in state ∷ [])
  unfolding told
  told-settled none = ap (λ (count : ℕ). done (count ∷ sweeps_in state ∷ [])) none

  abbrev Sweeping : Reply → List ℕ → Type 0
  Sweeping = Ends (sweep_answer plan state) (sweep_output plan state)

  pub sweep-stopped : {number place : ℕ} → sweep_check plan state ≡ refused number place → Sweeping (refused number place) state
  unfolding sweep_answer sweep_output
  sweep-stopped = ends-stopped _ _ _ state

  sweep-done : {values : List ℕ} → sweep_check plan state ≡ done values → Sweeping (told (swept_state plan state)) (swept_state plan state)
  unfolding sweep_answer sweep_output
  sweep-done = ends-done _ _ _ state

  module _ {values : List ℕ} (accepted : state_check plan state ≡ done values) where
    past-state : sweep_check plan state ≡ refuse_if (not (eqb (count_in state) 0) && leb 4096 (sweeps_in state)) 28 0 (done [])
    unfolding sweep_check
    past-state = and_then-passed _ _ values accepted

    pub settled-stays : count_in state ≡ 0 → Sweeping (done (0 ∷ sweeps_in state ∷ [])) state
    settled-stays none =
        let r = sweep-done (past-state ∙ refuse-passed _ 28 0 _ (rw (eq-eqb _ _ none))) in
        let same = swept-settled none in
        record { answers = r.answers ∙ ap told same ∙ told-settled none; leaves = r.leaves ∙ same }

    module _ (some : count_in state ≡ 0 → ⊥) where
      pub sweep-spent : 4096 ≤ sweeps_in state → sweep_check plan state ≡ refused 28 0
      sweep-spent high = past-state ∙ refuse-taken _ 28 0 _ (rw (ne_eqb _ _ some, le-leb _ _ high))

      pub sweep-made : sweeps_in state < 4096 → (count : ℕ) (after : List ℕ) → after ≡ swept_in plan state
          → count ≡ moved_count plan (count_in state) (block_in state) after
          → Sweeping (done (count ∷ (sweeps_in state + 1) ∷ [])) (state_of count (sweeps_in state + 1) after)
      sweep-made low count after is moved =
          let r = sweep-done (past-state ∙ refuse-passed _ 28 0 _ (rw (ne_eqb _ _ some, lt-leb _ _ low))) in
          let next = swept-moved some count after is moved in
          record { answers = r.answers ∙ ap told next ∙ told_of _ _ after; leaves = r.leaves ∙ next }

-- ---- the setting of a bit

abbrev pub set_in : ℕ → ℕ → List ℕ → List ℕ
set_in bit value state = with_bit (block_in state) bit (set_to value)

module _ (plan : Plan) (bit : ℕ) (state : List ℕ) where
  pub set-state : {number place : ℕ} → state_check plan state ≡ refused number place → set_check plan bit state ≡ refused number place
  unfolding set_check
  set-state {number} {place} e = and_then-refused _ _ number place e

  module _ {values : List ℕ} (accepted : state_check plan state ≡ done values) where
    pub set-outside : edge_count plan ≤ bit → set_check plan bit state ≡ refused 27 0
    unfolding set_check
    set-outside high = and_then-passed _ _ values accepted ∙ refuse-taken _ 27 0 _ (le-leb _ _ high)

    pub set-inside : bit < edge_count plan → set_check plan bit state ≡ done []
    unfolding set_check
    set-inside low = and_then-passed _ _ values accepted ∙ refuse-passed _ 27 0 _ (lt-leb _ _ low)

  -- what stops the setting of a bit in the block stops it in the state
  pub set-checked : 4 ≤ length state → bit_check plan bit (block_in state) ≡ set_check plan bit state
  unfolding bit_check set_check
  set-checked long = sym (and_then-assoc (plan_check plan) (block_check (edge_count plan) (block_in state)) _) ∙ rw (state-long plan state long)

module _ (plan : Plan) (bit value : ℕ) (state : List ℕ) where
  set-moved : (count : ℕ) (after : List ℕ) → after ≡ set_in bit value state → count ≡ moved_count plan (count_in state) (block_in state) after
      → set_state plan bit value state ≡ state_of count 0 after
  unfolding set_state
  set-moved count after is moved = rw (moved, is)

  abbrev Setting : Reply → List ℕ → Type 0
  Setting = Ends (set_answer plan bit value state) (set_output plan bit value state)

  pub set-stopped : {number place : ℕ} → set_check plan bit state ≡ refused number place → Setting (refused number place) state
  unfolding set_answer set_output
  set-stopped = ends-stopped _ _ _ state

  set-done : {values : List ℕ} → set_check plan bit state ≡ done values
      → Setting (told (set_state plan bit value state)) (set_state plan bit value state)
  unfolding set_answer set_output
  set-done = ends-done _ _ _ state

  pub set-made : {values : List ℕ} → set_check plan bit state ≡ done values → (count : ℕ) (after : List ℕ)
      → after ≡ set_in bit value state → count ≡ moved_count plan (count_in state) (block_in state) after
      → Setting (done (count ∷ 0 ∷ [])) (state_of count 0 after)
  set-made e count after is moved =
      let r = set-done e in
      let next = set-moved count after is moved in
      record { answers = r.answers ∙ ap told next ∙ told_of count 0 after; leaves = r.leaves ∙ next }
