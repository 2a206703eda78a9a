use Rattle.std.proofs.Common.{◌≡◌}
use Rattle.bits.specs.Window.{at}
use Rattle.meetings.specs.Walk.{largest_walked}
use Rattle.meetings.proofs.spread.largest_unevenness.Given as goal

abbrev pub invariant-loop-u : goal.invariant-loop-u
invariant-loop-u l =
    let ends = l.ends in
    l.largest ≡ largest_walked (at ends.lefts.now) (at ends.rights.now) ends.nl ends.nr ends.dl ends.dr l.u
