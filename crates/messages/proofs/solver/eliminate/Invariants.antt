use Rattle.wiring.specs.PlanParts.{plan_in}
use Rattle.messages.specs.Columns.{Eliminated}
use Rattle.messages.proofs.solver.eliminate.Given as goal

abbrev pub invariant-loop-m : goal.invariant-loop-m
invariant-loop-m l = Eliminated (plan_in l.fn.plan.parts) l.side l.m l.initial.columns l.columns
