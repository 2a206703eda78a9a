use Rattle.wiring.specs.Plan.{side_by}
use Rattle.wiring.specs.declared.side.SideName.{SideName}
use Rattle.sweeps.specs.Sweeping.{SideReady}
use Rattle.sweeps.proofs.Visiting.{Visits}
use Rattle.sweeps.proofs.sweep.sweep_first.Given as goal

abbrev pub invariant-loop-v : goal.invariant-loop-v
invariant-loop-v l =
    Visits (side_by l.sheet l.n l.wiring SideName.Left) l.initial.block l.v l.changed l.ties l.block × SideReady l.sheet l.n l.wiring l.finder
