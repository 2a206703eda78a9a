use Rattle.std.proofs.Common.{◌≡◌}
use Rattle.bits.specs.Window.{at}
use Rattle.meetings.specs.Walk.{uneven_by}
use Rattle.meetings.proofs.spread.unevenness_of.Given as goal

abbrev pub invariant-loop-count : goal.invariant-loop-count
invariant-loop-count l = l.sum ≡ uneven_by (at l.counts) l.nr l.dl l.count-index
