-- What docs/GUARANTEE.md promises of a panel's state, each once more in request Seven's words and from the theorem alone: a theorem that says
-- less, or asks for more, is refused here. tests/weaker has such theorems.
--   load_output, sweep_output, set_output  the lent bytes after loading a block, after a sweep call, after a bit is set (panel specs Answer)
--   after_calls plan i state      the state after i sweep calls, one by one on one plan (panel specs Calls)
--   count_in, sweeps_in, block_in   a state's count, sweep number and block (panel specs State)
--   unsatisfied_count sides block  the true count: how many vertices read no inner codeword (unsatisfied specs Count)
-- and here
--   Answered plan start i            sweep call i + 1 makes a sweep: it is answered with the count that the state then has, and the number i + 1
--   Settles plan start settled q  from a state on, calls one by one settle after q sweeps at a block, and then change nothing
--   Unsettled plan start         from a state on, no call settles it: 4,096 of them make a sweep, and each after these is 28
--   settled plan block output    the block that the full decoding with H 4,096 leaves in its output
use Rattle.std.proofs.Common.{ℕ, suc, ◌+◌, ◌≤◌, ◌<◌, true, List, [], ◌∷◌, ◌≡◌, refl, sym, ap, ◌∙◌, arith, length, take}
use Rattle.bits.specs.Bit.{with_bit, flips}
use Rattle.inner_code.specs.Reply.{done, refused}
use Rattle.wiring.specs.Plan.{Plan, edge_count, side_of}
use Rattle.wiring.specs.Block.{block_bytes, is_codeword_block, Block, Codeword}
use Rattle.decoder.specs.Answer.{decode_answer, decode_output}
use Rattle.decoder.proofs.Settling.{decode-means}
use Rattle.decoder.proofs.Trials.{check-means}
use Rattle.unsatisfied.specs.Count.{unsatisfied_count}
use Rattle.panel.specs.State.{state_bytes, count_in, sweeps_in, block_in, state_of, loaded_state, set_to}
use Rattle.panel.specs.Answer.{state_check, told, load_check, load_answer, load_output, sweep_answer, sweep_output, set_output}
use Rattle.panel.specs.Calls.{after_calls, TrueState, SweptHome, NeverSettles}
use Rattle.panel.proofs.States.{count-of, block-of}
use Rattle.panel.proofs.Answers.{load-means, load-passed, load-made}
use Rattle.panel.proofs.Counts.{load-true, load-front, load-whole, settled-codeword, settled_back, sweep-true, set-true}
use Rattle.panel.proofs.Stepping.{steps-settle, steps-unsettled, set-steps-settle, set-steps-unsettled}
use Rattle.panel.proofs.Unsettled.{unsettled-means}
use Rattle.radius.specs.Answer.{margin_answer}
use Rattle.radius.proofs.Answers.{margin-means}
use Rattle.known_answers.proofs.PanelRestored.{panel-restored}

-- ---- the words

abbrev Answered : Plan → List ℕ → ℕ → Type 0
Answered plan start i = sweep_answer plan (after_calls plan i start) ≡ done (count_in (after_calls plan (i + 1) start) ∷ (i + 1) ∷ [])

abbrev Settles : Plan → List ℕ → List ℕ → ℕ → Type 0
Settles plan start settled q =
    ((i : ℕ) → i < q → (count_in (after_calls plan i start) ≡ 0 → ⊥) × Answered plan start i)
    × ((i : ℕ) → i ≤ q → sweeps_in (after_calls plan i start) ≡ i)
    × ((i : ℕ) → q ≤ i → (count_in (after_calls plan i start) ≡ 0) × (block_in (after_calls plan i start) ≡ settled))
    × ((i : ℕ) → q ≤ i
    → (sweep_answer plan (after_calls plan i start) ≡ done (0 ∷ q ∷ [])) × (sweep_output plan (after_calls plan i start) ≡ after_calls plan i start))

abbrev Unsettled : Plan → List ℕ → Type 0
Unsettled plan start =
    ((i : ℕ) → count_in (after_calls plan i start) ≡ 0 → ⊥)
    × ((i : ℕ) → i ≤ 4096 → sweeps_in (after_calls plan i start) ≡ i)
    × ((i : ℕ) → i < 4096 → Answered plan start i)
    × ((i : ℕ) → 4096 ≤ i → sweep_answer plan (after_calls plan i start) ≡ refused 28 0)

abbrev settled : Plan → List ℕ → List ℕ → List ℕ
settled plan block output = take (block_bytes (edge_count plan)) (decode_output plan block [] output 4096)

-- ---- what the theorems say, in these words

values-numbered : (state : List ℕ) (n : ℕ) → sweeps_in state ≡ n → told state ≡ done (count_in state ∷ n ∷ [])
unfolding told
values-numbered state n e = ap (λ (m : ℕ). done (count_in state ∷ m ∷ [])) e

-- no call leaves the state as it is, and one more leaves what a sweep call leaves
pub calls-none : (plan : Plan) (start : List ℕ) → after_calls plan 0 start ≡ start
unfolding after_calls
calls-none plan start = refl

calls-suc : (plan : Plan) (start : List ℕ) (i : ℕ) → sweep_output plan (after_calls plan i start) ≡ after_calls plan (suc i) start
unfolding after_calls
calls-suc plan start i = refl

pub calls-more : (plan : Plan) (start : List ℕ) (i : ℕ) → sweep_output plan (after_calls plan i start) ≡ after_calls plan (i + 1) start
calls-more plan start i = let next : suc i ≡ i + 1 = omega arith in calls-suc plan start i ∙ ap (λ (n : ℕ). after_calls plan n start) next

module _ {plan : Plan} {start settled : List ℕ} {q : ℕ} (calls : SweptHome plan start settled q) where
  settling-unsettled : (i : ℕ) → i < q → count_in (after_calls plan i start) ≡ 0 → ⊥
  settling-unsettled i l = calls.unsettled i l

  settling-numbered : (i : ℕ) → i ≤ q → sweeps_in (after_calls plan i start) ≡ i
  settling-numbered i l = calls.numbered i l

  settling-answered : (i : ℕ) → i < q → sweep_answer plan (after_calls plan i start) ≡ told (after_calls plan (i + 1) start)
  settling-answered i l = calls.swept i l

  settling-holds : (i : ℕ) → q ≤ i → after_calls plan i start ≡ state_of 0 q settled
  settling-holds i l = calls.home i l

  settling-stays : (i : ℕ) → q ≤ i → sweep_answer plan (after_calls plan i start) ≡ done (0 ∷ q ∷ [])
  settling-stays i l = calls.stays i l

  settles-by : Settles plan start settled q
  settles-by = (
    (λ i l. (settling-unsettled i l, settling-answered i l ∙ values-numbered _ (i + 1) (settling-numbered (i + 1) (omega arith)))),
    settling-numbered,
    (λ i l. (ap count_in (settling-holds i l) ∙ count-of 0 q settled, ap block_in (settling-holds i l) ∙ block-of 0 q settled)),
    (λ i l. (settling-stays i l, calls-more plan start i ∙ settling-holds (i + 1) (omega arith) ∙ sym (settling-holds i l))),
  )

module _ {plan : Plan} {start : List ℕ} (calls : NeverSettles plan start) where
  never-settled : (i : ℕ) → count_in (after_calls plan i start) ≡ 0 → ⊥
  never-settled i none = calls.unsettled i none

  never-numbered : (i : ℕ) → i ≤ 4096 → sweeps_in (after_calls plan i start) ≡ i
  never-numbered i l = calls.numbered i l

  never-answered : (i : ℕ) → i < 4096 → sweep_answer plan (after_calls plan i start) ≡ told (after_calls plan (i + 1) start)
  never-answered i l = calls.swept i l

  never-spent : (i : ℕ) → 4096 ≤ i → sweep_answer plan (after_calls plan i start) ≡ refused 28 0
  never-spent i l = calls.spent i l

  unsettled-by : Unsettled plan start
  unsettled-by = (
    never-settled,
    never-numbered,
    (λ i l. never-answered i l ∙ values-numbered _ (i + 1) (never-numbered (i + 1) (omega arith))),
    never-spent,
  )

-- ---- loading gives the true count and sweep 0

module _ (plan : Plan) (block lent : List ℕ) {values : List ℕ} (e : load_check plan block lent ≡ done values) where
  pub loading-tells : load_answer plan block lent ≡ done (unsatisfied_count (side_of plan) block ∷ 0 ∷ [])
  loading-tells = (load-made plan block lent e _ refl).answers

  pub loading-leaves : take (state_bytes (edge_count plan)) (load_output plan block lent)
      ≡ state_of (unsatisfied_count (side_of plan) block) 0 block
  unfolding loaded_state
  loading-leaves = load-front plan block lent e

  pub loading-true : TrueState plan (state_of (unsatisfied_count (side_of plan) block) 0 block)
  unfolding loaded_state
  loading-true = let (accepted, pass) = load-means plan block lent e in load-true plan block accepted pass

-- ---- a true count stays true, and is 0 exactly where the block is a codeword

module _ (plan : Plan) (state : List ℕ) (accepted : state_check plan state ≡ done [])
    (counted : count_in state ≡ unsatisfied_count (side_of plan) (block_in state)) where
  true-state : TrueState plan state
  true-state = record { accepted = accepted; counted = counted }

  pub swept-counted : count_in (sweep_output plan state) ≡ unsatisfied_count (side_of plan) (block_in (sweep_output plan state))
  swept-counted = (sweep-true plan state true-state).counted

  pub swept-accepted : state_check plan (sweep_output plan state) ≡ done []
  swept-accepted = (sweep-true plan state true-state).accepted

  pub settled-is-codeword : count_in state ≡ 0 → is_codeword_block (side_of plan) (block_in state) ≡ true
  settled-is-codeword none = settled-codeword plan state true-state none

  pub codeword-is-settled : is_codeword_block (side_of plan) (block_in state) ≡ true → count_in state ≡ 0
  codeword-is-settled code = settled_back plan state true-state code

  module _ (bit value : ℕ) where
    pub set-counted : count_in (set_output plan bit value state) ≡ unsatisfied_count (side_of plan) (block_in (set_output plan bit value state))
    set-counted = (set-true plan state true-state bit value).counted

    pub set-accepted : state_check plan (set_output plan bit value state) ≡ done []
    set-accepted = (set-true plan state true-state bit value).accepted

    -- setting a bit starts again at sweep 0, with the block as it then is
    module _ (output : List ℕ) (low : bit < edge_count plan) where
      abbrev block : List ℕ
      block = with_bit (block_in state) bit (set_to value)

      module _ (q : ℕ) (e : decode_answer plan block [] output 4096 ≡ done (q ∷ [])) where
        set-settling : SweptHome plan (set_output plan bit value state) (settled plan block output) q
        set-settling = set-steps-settle plan state output bit value true-state low q e

        pub set-calls-settle : Settles plan (set_output plan bit value state) (settled plan block output) q
        set-calls-settle = settles-by set-settling

      module _ (e : decode_answer plan block [] output 4096 ≡ refused 15 0) where
        set-never : NeverSettles plan (set_output plan bit value state)
        set-never = set-steps-unsettled plan state output bit value true-state low e

        pub set-calls-unsettled : Unsettled plan (set_output plan bit value state)
        set-calls-unsettled = unsettled-by set-never

-- ---- after loading, calls one by one settle at the block and the count of the full decoding with H 4,096, or not at all where it is unsettled

module _ (plan : Plan) (block lent output : List ℕ) (fits : length lent ≡ state_bytes (edge_count plan)) where
  pub calls-settle : (q : ℕ) → decode_answer plan block [] output 4096 ≡ done (q ∷ [])
      → Settles plan (load_output plan block lent) (settled plan block output) q
  calls-settle q e =
      let (at, within, (values, check)) = decode-means plan block output 4096 q e in
      let passed = check-means plan block [] output 4096 check in
      let loads = load-passed plan block lent passed.plan-done passed.block-done (omega arith) in
      rw (load-whole plan block lent loads fits) (settles-by (steps-settle plan block output q e))

  pub calls-unsettled : decode_answer plan block [] output 4096 ≡ refused 15 0 → Unsettled plan (load_output plan block lent)
  calls-unsettled e =
      let (passed, late) = unsettled-means plan block output 4096 e in
      let loads = load-passed plan block lent passed.plan-done passed.block-done (omega arith) in
      rw (load-whole plan block lent loads fits) (unsettled-by (steps-unsettled plan block output e))

-- ---- a covered block, loaded and swept call by call: from the q-th call on the state is settled and holds the block sent

pub loaded-returns : (plan : Plan) (sent received lent : List ℕ) (F q : ℕ)
    → Codeword plan sent
    → Block (edge_count plan) received
    → length lent ≡ state_bytes (edge_count plan)
    → flips (edge_count plan) sent received ≤ F
    → margin_answer plan F ≡ done (q ∷ [])
    → (i : ℕ)
    → q ≤ i
    → (count_in (after_calls plan i (load_output plan received lent)) ≡ 0) × (block_in (after_calls plan i (load_output plan received lent)) ≡ sent)
loaded-returns plan sent received lent F q code block fits few margin i late =
    let (count, within, calls) = panel-restored plan sent received F q code block few margin in
    let accepted = (margin-means plan F q margin).accepted in
    let loads = load-passed plan received lent accepted block.checked (omega arith) in
    let (before, numbers, settles, stays) = settles-by calls in
    rw (load-whole plan received lent loads fits) (settles i (omega arith))
