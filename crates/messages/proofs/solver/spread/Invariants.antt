use Rattle.messages.proofs.Pivots.{SpreadSoFar}
use Rattle.messages.proofs.solver.spread.Given as goal

abbrev pub invariant-loop-e : goal.invariant-loop-e
invariant-loop-e l = SpreadSoFar l.p l.hits l.initial.columns l.e l.columns
