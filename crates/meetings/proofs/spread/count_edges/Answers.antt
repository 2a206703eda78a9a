-- `meetings::count_edges` meets its contract: after i turns each count has risen by the number of the first i entries with that left
-- vertex. No count can wrap, since d entries put at most 16 on it.
use Rattle.std.proofs.Common.{◌+◌, ◌<◌, length, arith}
use Rattle.bits.specs.Window.{at}
use Rattle.meetings.proofs.Walks.{length-part, part-at, counted_none, counted-one-more, counted-low}
use Rattle.meetings.proofs.spread.count_edges.Goals as goal
use Rattle.meetings.proofs.spread.count_edges.Goals.{In-loop-left}

pub loop-left-init : goal.loop-left-init
loop-left-init c = counted_none (at c.args.lefts.now) c.args.from c.args.counts.now

-- the vertex of a turn is that of the next entry
below : (c : In-loop-left) → c.loop-left.left-index < c.args.d
below c = omega (arith, length-part c.args.lefts.now c.args.from c.args.d c.requires.inside)

inside : (c : In-loop-left) → at c.args.lefts.now (c.args.from + c.loop-left.left-index) < length c.loop-left.counts
inside c = omega (arith, c.requires.left_lt c.loop-left.left-index (below c))

pub bounds-counts-left : goal.bounds-counts-left
bounds-counts-left c =
    let turn = (goal.at.bounds-counts-left c).In-loop-left in
    rw (part-at c.args.lefts.now c.args.from c.args.d c.loop-left.left-index (below turn)) (inside turn)

pub overflow_add-counts : goal.overflow_add-counts
unfolding at
overflow_add-counts c =
    let args = c.args in
    let before = c.loop-left in
    let turn = (goal.at.overflow_add-counts c).In-loop-left in
    let low =
    counted-low args.lefts.now args.from args.d before.left-index args.counts.now before.counts c.requires (below turn) before.invariant in
    rw (part-at args.lefts.now args.from args.d before.left-index (below turn)) (omega (arith, low))

pub bounds-counts-left-in-loop-left : goal.bounds-counts-left-in-loop-left
bounds-counts-left-in-loop-left c =
    let turn = (goal.at.bounds-counts-left-in-loop-left c).In-loop-left in
    rw (part-at c.args.lefts.now c.args.from c.args.d c.loop-left.left-index (below turn)) (inside turn)

pub loop-left-preserved : goal.loop-left-preserved
unfolding at
loop-left-preserved c =
    let args = c.args in
    let before = c.loop-left in
    let turn = (goal.at.loop-left-preserved c).In-loop-left in
    rw (part-at args.lefts.now args.from args.d before.left-index (below turn))
    (counted-one-more (at args.lefts.now) args.from before.left-index args.counts.now before.counts before.auto.counts
    (c.requires.left_lt before.left-index (below turn)) before.invariant)
