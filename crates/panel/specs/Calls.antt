-- Calls one by one, and what a state promises.
--   after_calls plan i state     the state after i sweep calls, one by one on one plan
--   TrueState plan state        a state whose count is the number of unsatisfied vertices of its block
--   SweptHome plan state settled q  what sweep calls come to from a state where the full decoding settles after q sweeps: each of the first q
--                               makes a sweep, none before the q-th settles the state, and from it on the state stays, with count 0, number q
--                               and the settled block
--   NeverSettles plan state     what they come to where it is unsettled: no call settles the state, each of the first 4,096 makes a sweep, and
--                               each after them is 28
use Rattle.std.specs.Prelude.{ℕ, zero, suc, ◌+◌, ◌≤◌, ◌<◌, List, [], ◌∷◌, ◌≡◌}
use Rattle.inner_code.specs.Reply.{done, refused}
use Rattle.wiring.specs.Plan.{Plan, side_of}
use Rattle.unsatisfied.specs.Count.{unsatisfied_count}
use Rattle.panel.specs.State.{count_in, sweeps_in, block_in, state_of}
use Rattle.panel.specs.Answer.{state_check, told, sweep_answer, sweep_output}

unfoldable pub after_calls : Plan → ℕ → List ℕ → List ℕ
unfolding sweep_output
after_calls plan zero state = state
after_calls plan (suc i) state = sweep_output plan (after_calls plan i state)

pub record TrueState (plan : Plan) (state : List ℕ) : Type 0 where
  pub accepted : state_check plan state ≡ done []
  pub counted : count_in state ≡ unsatisfied_count (side_of plan) (block_in state)

pub record SweptHome (plan : Plan) (state settled : List ℕ) (q : ℕ) : Type 0 where
  pub unsettled : (i : ℕ) → i < q → count_in (after_calls plan i state) ≡ 0 → ⊥
  pub numbered : (i : ℕ) → i ≤ q → sweeps_in (after_calls plan i state) ≡ i
  pub swept : (i : ℕ) → i < q → sweep_answer plan (after_calls plan i state) ≡ told (after_calls plan (i + 1) state)
  pub home : (i : ℕ) → q ≤ i → after_calls plan i state ≡ state_of 0 q settled
  pub stays : (i : ℕ) → q ≤ i → sweep_answer plan (after_calls plan i state) ≡ done (0 ∷ q ∷ [])

pub record NeverSettles (plan : Plan) (state : List ℕ) : Type 0 where
  pub unsettled : (i : ℕ) → count_in (after_calls plan i state) ≡ 0 → ⊥
  pub numbered : (i : ℕ) → i ≤ 4096 → sweeps_in (after_calls plan i state) ≡ i
  pub swept : (i : ℕ) → i < 4096 → sweep_answer plan (after_calls plan i state) ≡ told (after_calls plan (i + 1) state)
  pub spent : (i : ℕ) → 4096 ≤ i → sweep_answer plan (after_calls plan i state) ≡ refused 28 0
