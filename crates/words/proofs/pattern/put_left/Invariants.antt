use Rattle.wiring.specs.PlanParts.{plan_in}
use Rattle.wiring.specs.declared.side.SideName.{SideName}
use Rattle.words.proofs.Putting.{Putting}
use Rattle.words.proofs.pattern.put_left.Given as goal

abbrev pub invariant-loop-rest : goal.invariant-loop-rest
invariant-loop-rest l =
    Putting (plan_in l.plan.parts) SideName.Left l.v l.pattern l.initial.block l.initial.kept l.block l.kept l.rest

abbrev pub decreases-loop-rest : goal.decreases-loop-rest
decreases-loop-rest l = l.rest
