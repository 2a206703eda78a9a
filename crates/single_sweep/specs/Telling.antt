-- How the code counts what a sweep changes: none of this is needed to believe a contract of a service.
--   across_from side wiring places i  the entry of the other side at which the bit stands that entry i of this side has
--   Visited plan side before v change block  the first v vertices of a side are visited: the block that is left, and the change of the true count
use Rattle.std.specs.Prelude.{ℕ, ◌+◌, List, ◌≡◌}
use Rattle.bits.specs.Window.{at}
use Rattle.wiring.specs.Plan.{Plan, edge_of, side_of}
use Rattle.wiring.specs.declared.side.SideName.{SideName}
use Rattle.unsatisfied.specs.Count.{unsatisfied_count}
use Rattle.sweeps.specs.Sweep.{visited}
use Rattle.sweeps.specs.Sweeping.{nearest_of}

unfoldable pub across_from : SideName → List ℕ → List ℕ → ℕ → ℕ
unfolding at edge_of
across_from SideName.Left wiring places i = at places i
across_from SideName.Right wiring places i = edge_of wiring i

pub record Visited (plan : Plan) (side : SideName) (before : List ℕ) (v change : ℕ) (block : List ℕ) : Type 0 where
  pub swept : block ≡ visited (nearest_of (side_of plan side)) (side_of plan side) v before
  pub counted : change + unsatisfied_count (side_of plan) before ≡ 65536 + unsatisfied_count (side_of plan) block
