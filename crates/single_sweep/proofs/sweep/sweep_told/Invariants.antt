use Rattle.finder.specs.Finding.{Finds}
use Rattle.wiring.specs.Plan.{Plan, sheet_of}
use Rattle.wiring.specs.PlanParts.{plan_in}
use Rattle.single_sweep.specs.Telling.{Visited}
use Rattle.single_sweep.proofs.sweep.sweep_told.Given as goal

abbrev pub invariant-loop-v : goal.invariant-loop-v
invariant-loop-v l =
    let plan : Plan = plan_in l.plan.parts in
    record { visited : Visited plan l.side l.initial.block l.v l.change l.block; finds : Finds (sheet_of plan l.side) l.finder }
