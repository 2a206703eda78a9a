-- `meetings::unevenness_of` meets its contract: after w turns `sum` is the sum over the first w counts. Each summand is at most 2^19, so
-- that 2,048 of them fit 32 bits.
use Rattle.std.proofs.Common.{◌≡◌, sym, ◌+◌, ◌<◌, take, get_or, arith}
use Rattle.std.proofs.lemmas.List.{length-take-le, get_or-take}
use Rattle.bits.specs.Sum.{gap}
use Rattle.bits.specs.Window.{at}
use Rattle.meetings.proofs.Walks.{uneven-none, uneven-one-more, uneven-le, met-le}
use Rattle.meetings.proofs.spread.unevenness_of.Goals as goal
use Rattle.meetings.proofs.spread.unevenness_of.Goals.{In-loop-count}

pub loop-count-init : goal.loop-count-init
loop-count-init c = sym (uneven-none (at c.args.counts.now) c.args.nr c.args.dl)

below : (c : In-loop-count) → c.loop-count.count-index < c.args.nl
below c = omega (arith, length-take-le c.args.nl c.args.counts.now c.requires.summable.sized)

-- the count of a turn is that of the next vertex
count_is : (c : In-loop-count) → get_or (take c.args.nl c.args.counts.now) c.loop-count.count-index 0 ≡ at c.args.counts.now c.loop-count.count-index
unfolding at
count_is c = get_or-take c.args.nl c.args.counts.now c.loop-count.count-index 0 (below c)

pub overflow_mul-met : goal.overflow_mul-met
overflow_mul-met c =
    let turn = (goal.at.overflow_mul-met c).In-loop-count in
    rw (count_is turn) (omega (arith, met-le c.requires.summable c.loop-count.count-index (below turn)))

pub loop-count-preserved : goal.loop-count-preserved
unfolding gap
loop-count-preserved c =
    let turn = (goal.at.loop-count-preserved c).In-loop-count in
    omega (
      arith,
      rw (count_is turn) at c.abs_diff-sum.ensures,
      uneven-one-more (at c.args.counts.now) c.args.nr c.args.dl c.loop-count.count-index,
    )

pub overflow_add-sum : goal.overflow_add-sum
unfolding gap
overflow_add-sum c =
    let turn = (goal.at.overflow_add-sum c).In-loop-count in
    let l = below turn in
    omega (
      arith,
      rw (count_is turn) at c.abs_diff-sum.ensures,
      uneven-one-more (at c.args.counts.now) c.args.nr c.args.dl c.loop-count.count-index,
      uneven-le c.requires.summable _ c.requires.dl_bound (c.loop-count.count-index + 1) (omega arith),
      c.requires.summable.nl-high,
    )
