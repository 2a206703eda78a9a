-- `meetings::walk` meets its contract: after j turns each count has risen by the number of walks that go by one of the first j edges.
use Rattle.std.proofs.Common.{◌*◌, ◌<◌, arith}
use Rattle.meetings.proofs.Walks.{length-part, part-at, walk_none, walk-one-more, walk-countable, ends-room, ends-walkable}
use Rattle.meetings.proofs.spread.walk.Goals as goal
use Rattle.meetings.proofs.spread.walk.Goals.{In-loop-right}

pub loop-right-init : goal.loop-right-init
loop-right-init c = let ends = c.args.ends in walk_none ends.lefts.now ends.rights.now (c.args.u * ends.dl) ends.dr c.args.counts.now

-- the vertex of a turn is that of the next edge
below : (c : In-loop-right) → c.loop-right.right-index < c.args.ends.dl
below c =
    let ends = c.args.ends in
    omega (arith, length-part ends.rights.now (c.args.u * ends.dl) ends.dl (ends-room ends.listed c.args.u c.requires.is_vertex))

pub count_edges-requires : goal.count_edges-requires
count_edges-requires c =
    let ends = c.args.ends in
    let before = c.loop-right in
    let walkable = ends-walkable ends.listed c.args.u c.requires.is_vertex _ c.requires.fresh in
    let l = below (goal.at.count_edges-requires c).In-loop-right in
    rw (part-at ends.rights.now (c.args.u * ends.dl) ends.dl before.right-index l)
    (walk-countable ends.lefts.now ends.rights.now _ ends.dr ends.dl before.right-index c.args.counts.now before.counts
    walkable l before.auto.counts before.invariant)

pub loop-right-preserved : goal.loop-right-preserved
loop-right-preserved c =
    let ends = c.args.ends in
    let before = c.loop-right in
    let l = below (goal.at.loop-right-preserved c).In-loop-right in
    walk-one-more ends.lefts.now ends.rights.now _ ends.dr before.right-index c.args.counts.now before.counts
    c.count_edges.new.counts before.auto.counts before.invariant
    (rw (part-at ends.rights.now (c.args.u * ends.dl) ends.dl before.right-index l) at c.count_edges.ensures)
