-- `words::put_left` meets its contract: each turn puts the highest one of the rest on the block and tells the right vertex at the other end of its
-- edge.
use Rattle.std.proofs.Common.{ℕ, ◌+◌, ◌-◌, ◌*◌, ◌/◌, ◌<◌, refl, ap, arith, div-lt_iff_lt-mul, pow_pos}
use lib.Arith.{digits_lt}
use Rattle.bits.specs.Window.{at}
use Rattle.wiring.specs.Plan.{Plan, side_bit, edge_count, left, right, other}
use Rattle.wiring.specs.PlanParts.{plan_in}
use Rattle.wiring.proofs.EdgePlaces.{places-lt, places-bit}
use Rattle.wiring.proofs.Permutation.{fitted-edges}
use Rattle.wiring.proofs.Plans.{plan-whole, plan-few, plan-entries}
use Rattle.words.specs.Marks.{news_of, told_right}
use Rattle.words.proofs.Degrees.{left-degree, right-degree, left-fits, right-fits}
use Rattle.words.proofs.Patterns.{rest-high}
use Rattle.words.proofs.Putting.{putting-start, putting-done, putting-more}
use Rattle.words.proofs.pattern.put_left.Goals as goal
use Rattle.words.proofs.pattern.put_left.Goals.{After-highest-high}

pub overflow_mul-base : goal.overflow_mul-base
overflow_mul-base c =
    let fits = left-fits c.args.plan.now in
    omega (arith, digits_lt {r = 0} {c = c.args.plan.now.left.d} c.requires.v_lt_nl (omega (arith, fits.d-low)), fitted-edges fits)

pub loop-rest-init : goal.loop-rest-init
loop-rest-init c =
    let p = c.args.plan.now in
    putting-start (plan_in p.parts) p.passed left c.args.v c.requires.v_lt_nl c.args.pattern _ _ c.requires.pattern_bound c.requires.words_read

-- ---- the highest one of the rest, and the edge at its bit

module _ (c : After-highest-high) where
  abbrev plan : Plan
  plan = plan_in c.args.plan.now.parts

  abbrev edge : ℕ
  edge = c.args.v * c.args.plan.now.left.d + (c.args.plan.now.left.d - 1 - c.highest-high.result)

  within : c.highest-high.result < c.args.plan.now.left.d
  within =
      rw (left-degree c.args.plan.now)
      (rest-high c.loop-rest.invariant.left_over _ c.highest-high.ensures.power_low c.highest-high.ensures.power_high)

  edge-lt : edge < edge_count plan
  edge-lt =
      let in-word : c.args.plan.now.left.d - 1 - c.highest-high.result < c.args.plan.now.left.d = omega (arith, within) in
      omega (arith, digits_lt c.requires.v_lt_nl in-word, ap (λ (d : ℕ). c.args.plan.now.parts.nl * d) (left-degree c.args.plan.now))

  edge-few : edge < 32768
  edge-few = omega (arith, edge-lt, plan-few plan c.args.plan.now.passed)

  place-lt : at c.args.places.now edge < edge_count plan
  place-lt = places-lt plan c.args.plan.now.passed c.requires.places_noted edge edge-lt

  place-vertex : at c.args.places.now edge / c.args.plan.now.right.d < c.args.plan.now.parts.nr
  place-vertex =
      let w = plan-whole plan c.args.plan.now.passed right in
      rw (right-degree c.args.plan.now) ((div-lt_iff_lt-mul w.degree-pos).1 (rw w.entries place-lt))

pub overflow_sub-edge : goal.overflow_sub-edge
overflow_sub-edge c = omega (arith, within c)

pub overflow_sub-edge-in-loop-rest : goal.overflow_sub-edge-in-loop-rest
overflow_sub-edge-in-loop-rest c = omega (arith, within c)

pub overflow_add-edge : goal.overflow_add-edge
overflow_add-edge c = omega (arith, edge-few c)

pub offset_bounds-places-edge : goal.offset_bounds-places-edge
offset_bounds-places-edge c = omega (arith, edge-few c)

pub bounds-places-edge : goal.bounds-places-edge
bounds-places-edge c =
    let p = c.args.plan.now in
    omega (arith, edge-lt (goal.at.bounds-places-edge c).After-highest-high, plan-entries (plan_in p.parts) p.passed, c.requires.places_noted.sized)

pub tell_right-requires : goal.tell_right-requires
unfolding at
tell_right-requires c =
    let fits = right-fits c.args.plan.now in record {
      d_nonzero = (omega (arith, fits.d-low), fits.d-high);
      kept_len = c.loop-rest.invariant.keeps.reads.sized;
      d_bound = omega (arith, place-vertex (goal.at.tell_right-requires c).After-highest-high, fits.n-high);
    }

pub power-rest-requires : goal.power-rest-requires
power-rest-requires c = omega (arith, within (goal.at.power-rest-requires c).After-highest-high, (left-fits c.args.plan.now).d-high)

pub overflow_sub-rest : goal.overflow_sub-rest
overflow_sub-rest c = omega (arith, c.power-rest.ensures, c.highest-high.ensures.power_low)

pub loop-rest-smaller : goal.loop-rest-smaller
loop-rest-smaller c = omega (arith, c.power-rest.ensures, c.highest-high.ensures.power_low, pow_pos c.highest-high.result)

pub loop-rest-preserved : goal.loop-rest-preserved
unfolding at side_bit told_right news_of other
loop-rest-preserved c =
    let p = c.args.plan.now in
    let here = (goal.at.loop-rest-preserved c).After-highest-high in
    let bit = places-bit (plan_in p.parts) p.passed c.requires.places_noted (edge here) (edge-lt here) in
    putting-more (plan_in p.parts) p.passed left c.args.v c.requires.v_lt_nl c.args.pattern _ _ c.loop-rest.invariant _ c.highest-high.ensures.power_low
    c.highest-high.ensures.power_high _ (rw (left-degree p)) c.power-rest.ensures c.turn_bit.ensures _ (place-lt here) bit refl _ (place-lt here) bit
    (rw (right-degree p) at c.tell_right.ensures)

pub returns : goal.returns
returns c =
    let p = c.args.plan.now in
    putting-done (plan_in p.parts) p.passed left c.args.v c.requires.v_lt_nl c.args.pattern _ _ c.loop-rest.invariant (omega arith)
