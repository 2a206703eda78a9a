-- What the services on a state answer, and what they leave in it.
--   state_check plan state      what stops a call on a state: 1 to 10, 23, 11 for another length than a state takes, 12
--   told state                 a state's count and sweep number, as a call answers them
--   load_check, load_answer, load_output     loading: 1 to 10, 23, 11, 12, 13 if the lent bytes are fewer than a state takes, or the state at their
--                              front
--   sweep_check, sweep_answer, sweep_output  a sweep call: a state's refusals, 28 for an unsettled one at sweep 4,096 or above, or the state swept
--   set_check, set_answer, set_output        a bit set: a state's refusals, 27 for a bit number at or above N, or the state with the bit set
--   shown_reply r               the paper's number, place and values for each case of an answer in the code
use Rattle.std.specs.Prelude.{ℕ, List, [], ◌∷◌, not, ◌&&◌, eqb, ltb, leb, length, Result, Ok, Err}
use Rattle.bits.specs.Bit.{written}
use Rattle.inner_code.specs.Refusal.{number_of, place_of}
use Rattle.inner_code.specs.Reply.{Reply, done, refused, refuse_if, and_then, if_done}
use Rattle.inner_code.specs.declared.refusal.Refusal.{Refusal}
use Rattle.wiring.specs.Plan.{Plan, edge_count}
use Rattle.wiring.specs.Wiring.{plan_check}
use Rattle.wiring.specs.Block.{block_check}
use Rattle.panel.specs.State.{state_bytes, count_in, sweeps_in, block_in, loaded_state, swept_state, set_state}
use Rattle.panel.specs.declared.shown.Shown.{Shown}

unfoldable pub state_check : Plan → List ℕ → Reply
unfolding and_then refuse_if plan_check state_bytes block_in
state_check plan state =
    and_then (plan_check plan)
    (refuse_if (not (eqb (length state) (state_bytes (edge_count plan)))) 11 0 (block_check (edge_count plan) (block_in state)))

unfoldable pub told : List ℕ → Reply
unfolding count_in sweeps_in
told state = done (count_in state ∷ sweeps_in state ∷ [])

unfoldable pub load_check : Plan → List ℕ → List ℕ → Reply
unfolding and_then refuse_if plan_check state_bytes
load_check plan block lent =
    and_then (plan_check plan)
    (and_then (block_check (edge_count plan) block) (refuse_if (ltb (length lent) (state_bytes (edge_count plan))) 13 0 (done [])))

unfoldable pub load_answer : Plan → List ℕ → List ℕ → Reply
unfolding and_then load_check told loaded_state
load_answer plan block lent = and_then (load_check plan block lent) (told (loaded_state plan block))

unfoldable pub load_output : Plan → List ℕ → List ℕ → List ℕ
unfolding if_done written load_check loaded_state
load_output plan block lent = if_done (load_check plan block lent) (written (loaded_state plan block) lent) lent

unfoldable pub sweep_check : Plan → List ℕ → Reply
unfolding and_then refuse_if state_check count_in sweeps_in
sweep_check plan state =
    and_then (state_check plan state) (refuse_if (not (eqb (count_in state) 0) && leb 4096 (sweeps_in state)) 28 0 (done []))

unfoldable pub sweep_answer : Plan → List ℕ → Reply
unfolding and_then sweep_check told swept_state
sweep_answer plan state = and_then (sweep_check plan state) (told (swept_state plan state))

unfoldable pub sweep_output : Plan → List ℕ → List ℕ
unfolding if_done sweep_check swept_state
sweep_output plan state = if_done (sweep_check plan state) (swept_state plan state) state

unfoldable pub set_check : Plan → ℕ → List ℕ → Reply
unfolding and_then refuse_if state_check
set_check plan bit state = and_then (state_check plan state) (refuse_if (leb (edge_count plan) bit) 27 0 (done []))

unfoldable pub set_answer : Plan → ℕ → ℕ → List ℕ → Reply
unfolding and_then set_check told set_state
set_answer plan bit value state = and_then (set_check plan bit state) (told (set_state plan bit value state))

unfoldable pub set_output : Plan → ℕ → ℕ → List ℕ → List ℕ
unfolding if_done set_check set_state
set_output plan bit value state = if_done (set_check plan bit state) (set_state plan bit value state) state

abbrev pub shown_reply : Result Shown Refusal → Reply
shown_reply (Ok shown) = done (shown.count ∷ shown.sweeps ∷ [])
shown_reply (Err r) = refused (number_of r) (place_of r)
