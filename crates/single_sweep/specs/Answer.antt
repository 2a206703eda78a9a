-- What one sweep of a block answers and leaves, without a state: none of this is needed to believe a contract of a service.
--   once_check plan block           what stops it: 1 to 10, 23, 11, 12
--   once_answer plan name block     these, or the change of the true count where the side that is named is swept
--   once_block plan name block      the block at exit
use Rattle.std.specs.Prelude.{ℕ, List, [], ◌∷◌}
use Rattle.inner_code.specs.Reply.{Reply, done, and_then, if_done}
use Rattle.wiring.specs.Plan.{Plan, edge_count, side_of}
use Rattle.wiring.specs.Wiring.{plan_check}
use Rattle.wiring.specs.Block.{block_check}
use Rattle.wiring.specs.declared.side.SideName.{SideName}
use Rattle.sweeps.specs.Sweep.{sweep}
use Rattle.unsatisfied.specs.Count.{count_change}

unfoldable pub once_check : Plan → List ℕ → Reply
unfolding and_then plan_check
once_check plan block = and_then (plan_check plan) (block_check (edge_count plan) block)

unfoldable pub once_answer : Plan → SideName → List ℕ → Reply
unfolding and_then once_check count_change sweep
once_answer plan name block =
    and_then (once_check plan block) (done (count_change (side_of plan) block (sweep (side_of plan name) block) ∷ []))

unfoldable pub once_block : Plan → SideName → List ℕ → List ℕ
unfolding if_done once_check sweep
once_block plan name block = if_done (once_check plan block) (sweep (side_of plan name) block) block
