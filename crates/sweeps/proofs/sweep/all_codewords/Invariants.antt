use Rattle.std.proofs.Common.{true, List, ◌≡◌, ℕ, ◌<◌}
use Rattle.wiring.specs.Block.{satisfied}
use Rattle.wiring.specs.Plan.{side_by}
use Rattle.wiring.specs.declared.side.SideName.{SideName}
use Rattle.sweeps.proofs.sweep.all_codewords.Given as goal

abbrev pub invariant-loop-v : goal.invariant-loop-v
invariant-loop-v l =
    (wiring : List ℕ) (u : ℕ) → u < l.v → satisfied (side_by l.sheet l.n wiring SideName.Left) l.block u ≡ true
