-- `meetings::largest_unevenness` meets its contract: each turn's counts are those of the walk of u alone, so that its sum is the one of u,
-- and after u turns `largest` is the largest of the first u sums.
use Rattle.std.proofs.Common.{sym, ◌∙◌, ◌++◌, drop, arith, rules}
use Rattle.std.proofs.lemmas.List.{length-take-le}
use Rattle.bits.specs.Window.{at}
use Rattle.meetings.specs.Walk.{Fresh}
use Rattle.meetings.proofs.Walks.{walked-summable, walked-uneven, fresh-filled, largest-none, largest-one-more}
use Rattle.meetings.proofs.spread.largest_unevenness.Goals as goal
use Rattle.meetings.proofs.spread.largest_unevenness.Goals.{After-fill}

pub loop-u-init : goal.loop-u-init
loop-u-init c = let ends = c.args.ends in sym (largest-none (at ends.lefts.now) (at ends.rights.now) ends.nl ends.nr ends.dl ends.dr)

fresh : (c : After-fill) → Fresh c.args.ends.nl (c.fill.new.self ++ drop c.args.ends.nl c.loop-u.counts)
fresh c =
    let ends = c.args.ends in
    fresh-filled ends.nl c.fill.new.self (drop ends.nl c.loop-u.counts)
    (rw (length-take-le ends.nl c.loop-u.counts (omega (arith, ends.listed.nl-high))) at (c.fill.ensures.after (λ y e. search rules)))

pub walk-requires-clause-fresh : goal.walk-requires-clause-fresh
walk-requires-clause-fresh c = fresh (goal.at.walk-requires-clause-fresh c).After-fill

pub unevenness_of-requires-clause-summable : goal.unevenness_of-requires-clause-summable
unevenness_of-requires-clause-summable c =
    let zeros = fresh (goal.at.unevenness_of-requires-clause-summable c).After-fill in
    walked-summable c.args.ends.listed c.loop-u.u (omega arith) _ zeros _ c.walk.ensures (omega (arith, c.walk.auto.counts, zeros.sized))

pub loop-u-preserved : goal.loop-u-preserved
loop-u-preserved c =
    let ends = c.args.ends in
    let zeros = fresh (goal.at.loop-u-preserved c).After-fill in
    let sum_is = c.unevenness_of.ensures ∙ walked-uneven ends.listed c.loop-u.u (omega arith) _ zeros _ c.walk.ensures in
    omega (arith, c.max-largest.ensures, sum_is, largest-one-more (at ends.lefts.now) (at ends.rights.now) ends.nl ends.nr ends.dl ends.dr c.loop-u.u)
