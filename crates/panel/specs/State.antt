-- The panel's state: the number of unsatisfied vertices and the sweep number, two bytes each, high byte first, and then the block.
--   state_bytes N              the length of a state of a block of N bits
--   count_in, sweeps_in, block_in  the parts of a state: count, sweep number, block
--   state_of count sweeps block  the state with these parts
--   loaded_state plan block    the state that loading gives: the true count and sweep 0
--   moved_count plan count before after  a count as the true one changes from one block to another, modulo 65,536
--   swept_state plan state     the state after a sweep call: a settled one, whose count is 0, as it is, and any other with the sweep made that its
--                             number asks for
--   set_to value               what a bit is set to: 0 to 0, any other number to 1
--   set_state plan bit value state  the state with a bit of its block set, at sweep 0
use Rattle.std.specs.Prelude.{ℕ, ◌+◌, ◌/◌, ◌%◌, List, ◌∷◌, cond, eqb, drop}
use Rattle.bits.specs.Bit.{pair_at, with_bit}
use Rattle.wiring.specs.Plan.{Plan, side_of}
use Rattle.wiring.specs.Block.{block_bytes}
use Rattle.sweeps.specs.Sweep.{sweep, turn}
use Rattle.unsatisfied.specs.Count.{unsatisfied_count, count_change}

unfoldable pub state_bytes : ℕ → ℕ
unfolding block_bytes
state_bytes N = 4 + block_bytes N

unfoldable pub count_in : List ℕ → ℕ
unfolding pair_at
count_in state = pair_at state 0

unfoldable pub sweeps_in : List ℕ → ℕ
unfolding pair_at
sweeps_in state = pair_at state 2

unfoldable pub block_in : List ℕ → List ℕ
block_in state = drop 4 state

unfoldable pub state_of : ℕ → ℕ → List ℕ → List ℕ
state_of count sweeps block = count / 256 ∷ count % 256 ∷ sweeps / 256 ∷ sweeps % 256 ∷ block

unfoldable pub loaded_state : Plan → List ℕ → List ℕ
unfolding state_of unsatisfied_count
loaded_state plan block = state_of (unsatisfied_count (side_of plan) block) 0 block

unfoldable pub moved_count : Plan → ℕ → List ℕ → List ℕ → ℕ
unfolding count_change
moved_count plan count before after = (count + count_change (side_of plan) before after) % 65536

unfoldable pub swept_state : Plan → List ℕ → List ℕ
unfolding count_in sweeps_in block_in state_of moved_count sweep turn
swept_state plan state =
    let after : List ℕ = sweep (side_of plan (turn (sweeps_in state))) (block_in state) in
    cond (eqb (count_in state) 0) state (state_of (moved_count plan (count_in state) (block_in state) after) (sweeps_in state + 1) after)

unfoldable pub set_to : ℕ → ℕ
set_to value = cond (eqb value 0) 0 1

unfoldable pub set_state : Plan → ℕ → ℕ → List ℕ → List ℕ
unfolding count_in block_in state_of moved_count set_to with_bit
set_state plan bit value state =
    let after : List ℕ = with_bit (block_in state) bit (set_to value) in
    state_of (moved_count plan (count_in state) (block_in state) after) 0 after
