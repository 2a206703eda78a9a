use Rattle.bits.specs.Window.{at}
use Rattle.meetings.specs.Walk.{arrivals, Counted}
use Rattle.meetings.proofs.spread.count_edges.Given as goal

abbrev pub invariant-loop-left : goal.invariant-loop-left
invariant-loop-left l = Counted (arrivals (at l.lefts) l.from l.left-index) l.initial.counts l.counts
