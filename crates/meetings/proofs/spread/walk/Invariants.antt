use Rattle.bits.specs.Window.{at}
use Rattle.meetings.specs.Walk.{walked, Counted}
use Rattle.meetings.proofs.spread.walk.Given as goal

abbrev pub invariant-loop-right : goal.invariant-loop-right
invariant-loop-right l =
    Counted (walked (at l.ends.lefts.now) (at l.ends.rights.now) l.ends.dr l.base l.right-index) l.initial.counts l.counts
