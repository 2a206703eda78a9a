use Rattle.std.proofs.Common.{List, ◌≡◌, ℕ}
use Rattle.wiring.specs.Plan.{Plan}
use Rattle.wiring.specs.PlanParts.{plan_in}
use Rattle.sweeps.specs.Sweep.{turn}
use Rattle.sweeps.specs.Sweeping.{Ready}
use Rattle.decoder.specs.Turns.{Midway}
use Rattle.decoder.proofs.settle.finish.Given as goal

abbrev pub invariant-loop-count : goal.invariant-loop-count
invariant-loop-count l =
    let plan : Plan = plan_in l.plan.parts in
    record {
      at_turn : l.side ≡ turn l.count;
      midway : (received : List ℕ) → Midway plan received l.limit 2 l.initial.sums l.initial.visits l.initial.kept l.initial.block
          → Midway plan received l.limit l.count l.sums l.visits l.kept l.block;
      ready : Ready plan l.left_finder l.right_finder;
    }
