-- `words::put_right` meets its contract: each turn puts the highest one of the rest on the block and on the vertex's own word, and marks the left
-- vertex of the bit.
use Rattle.std.proofs.Common.{ℕ, ◌≡◌, ◌+◌, ◌-◌, ◌*◌, ◌/◌, ◌%◌, ◌^◌, ◌<◌, ◌∙◌, refl, sym, ap, ap₂, arith, div-lt_iff_lt-mul, bit_xor, set}
use Rattle.std.proofs.Common.{length-set, pow_pos}
use lib.Arith.{digits_lt, digits_div, digits_mod}
use Rattle.bits.specs.Window.{at}
use Rattle.inner_code.specs.Sheet.{degree}
use Rattle.wiring.specs.Plan.{Plan, side_bit, edge_of, edge_count, left, right, other}
use Rattle.wiring.specs.PlanParts.{plan_in}
use Rattle.wiring.proofs.Permutation.{fitted-edges}
use Rattle.wiring.proofs.Plans.{plan-whole, plan-few}
use Rattle.words.specs.Marks.{news_of, marked}
use Rattle.words.proofs.Degrees.{left-degree, right-degree, left-fits, right-fits}
use Rattle.words.proofs.Marks.{marks-high}
use Rattle.words.proofs.Patterns.{rest-high}
use Rattle.words.proofs.Putting.{putting-start, putting-done, putting-entry, putting-more}
use Rattle.words.proofs.pattern.put_right.Goals as goal
use Rattle.words.proofs.pattern.put_right.Goals.{After-highest-high, Start}

vertex-few : (c : Start) → c.args.v < 2048
vertex-few c = omega (arith, c.requires.v_lt_nr, (right-fits c.args.plan.now).n-high)

pub overflow_mul-base : goal.overflow_mul-base
overflow_mul-base c =
    let fits = right-fits c.args.plan.now in
    omega (arith, digits_lt {r = 0} {c = c.args.plan.now.right.d} c.requires.v_lt_nr (omega (arith, fits.d-low)), fitted-edges fits)

pub loop-rest-init : goal.loop-rest-init
loop-rest-init c =
    let p = c.args.plan.now in
    putting-start (plan_in p.parts) p.passed right c.args.v c.requires.v_lt_nr c.args.pattern _ _ c.requires.pattern_bound c.requires.words_read

-- ---- the highest one of the rest, its entry, and the edge there

module _ (c : After-highest-high) where
  abbrev plan : Plan
  plan = plan_in c.args.plan.now.parts

  abbrev entry : ℕ
  entry = c.args.v * c.args.plan.now.right.d + (c.args.plan.now.right.d - 1 - c.highest-high.result)

  within : c.highest-high.result < c.args.plan.now.right.d
  within =
      rw (right-degree c.args.plan.now)
      (rest-high c.loop-rest.invariant.left_over _ c.highest-high.ensures.power_low c.highest-high.ensures.power_high)

  high-few : c.highest-high.result < 16
  high-few = omega (arith, within, (right-fits c.args.plan.now).d-high)

  in-word : c.args.plan.now.right.d - 1 - c.highest-high.result < c.args.plan.now.right.d
  in-word = omega (arith, within)

  entry-lt : entry < edge_count plan
  entry-lt =
      rw (right-degree c.args.plan.now)
      (putting-entry plan c.args.plan.now.passed right c.args.v c.requires.v_lt_nr c.args.pattern _ _ c.loop-rest.invariant _
      c.highest-high.ensures.power_low c.highest-high.ensures.power_high)

  entry-few : entry < 32768
  entry-few = omega (arith, entry-lt, plan-few plan c.args.plan.now.passed)

  edge-lt : edge_of c.args.plan.now.parts.wiring.now entry < edge_count plan
  unfolding side_bit
  edge-lt = (plan-whole plan c.args.plan.now.passed right).bit-lt entry entry-lt

  -- its left vertex
  left-few : edge_of c.args.plan.now.parts.wiring.now entry / c.args.plan.now.left.d < 2048
  left-few =
      let w = plan-whole plan c.args.plan.now.passed left in
      let l : edge_of c.args.plan.now.parts.wiring.now entry / degree c.args.plan.now.parts.left_sheet.now < c.args.plan.now.parts.nl =
      (div-lt_iff_lt-mul w.degree-pos).1 (rw w.entries edge-lt) in
      rw (left-degree c.args.plan.now) (omega (arith, l, (left-fits c.args.plan.now).n-high))

pub overflow_sub-d : goal.overflow_sub-d
overflow_sub-d c = omega (arith, within (goal.at.overflow_sub-d c).After-highest-high)

pub overflow_sub-d-in-loop-rest : goal.overflow_sub-d-in-loop-rest
overflow_sub-d-in-loop-rest c = omega (arith, within (goal.at.overflow_sub-d-in-loop-rest c).After-highest-high)

pub overflow_add-base : goal.overflow_add-base
overflow_add-base c = omega (arith, entry-few (goal.at.overflow_add-base c).After-highest-high)

pub edge_at-edge-requires : goal.edge_at-edge-requires
edge_at-edge-requires c =
    omega (arith, digits_lt c.requires.v_lt_nr (in-word (goal.at.edge_at-edge-requires c).After-highest-high), (right-fits c.args.plan.now).sized)

pub offset_bounds-kept-v : goal.offset_bounds-kept-v
offset_bounds-kept-v c = omega (arith, vertex-few (goal.at.offset_bounds-kept-v c).Start)

pub bounds-kept-v : goal.bounds-kept-v
bounds-kept-v c = omega (arith, vertex-few (goal.at.bounds-kept-v c).Start)

pub power-requires : goal.power-requires
power-requires c = high-few (goal.at.power-requires c).After-highest-high

pub offset_bounds-kept-v-in-loop-rest : goal.offset_bounds-kept-v-in-loop-rest
offset_bounds-kept-v-in-loop-rest c = omega (arith, vertex-few (goal.at.offset_bounds-kept-v-in-loop-rest c).Start)

pub bounds-kept-v-in-loop-rest : goal.bounds-kept-v-in-loop-rest
bounds-kept-v-in-loop-rest c = omega (arith, vertex-few (goal.at.bounds-kept-v-in-loop-rest c).Start)

pub vertex_at-requires : goal.vertex_at-requires
vertex_at-requires c = omega (arith, (left-fits c.args.plan.now).d-low)

pub mark-requires : goal.mark-requires
mark-requires c =
    record {
      kept_len = length-set {A = ℕ} c.loop-rest.kept c.args.v _ ∙ c.loop-rest.invariant.keeps.reads.sized;
      from_bound = omega (arith, c.news_of.ensures, marks-high left);
      v_bound = rw (c.vertex_at.ensures, c.edge_at-edge.ensures) (left-few (goal.at.mark-requires c).After-highest-high);
    }

pub power-rest-requires : goal.power-rest-requires
power-rest-requires c = high-few (goal.at.power-rest-requires c).After-highest-high

pub overflow_sub-rest : goal.overflow_sub-rest
overflow_sub-rest c = omega (arith, c.power-rest.ensures, c.highest-high.ensures.power_low)

pub loop-rest-smaller : goal.loop-rest-smaller
loop-rest-smaller c = omega (arith, c.power-rest.ensures, c.highest-high.ensures.power_low, pow_pos c.highest-high.result)

pub loop-rest-preserved : goal.loop-rest-preserved
unfolding at side_bit news_of other
loop-rest-preserved c =
    let p = c.args.plan.now in
    let here = (goal.at.loop-rest-preserved c).After-highest-high in
    let kept = c.loop-rest.kept in
    let vertex : c.args.v ≡ entry here / p.right.d = sym (digits_div c.args.v (in-word here)) in
    let weight : c.highest-high.result ≡ p.right.d - 1 - entry here % p.right.d = omega (arith, within here, digits_mod c.args.v (in-word here)) in
    let bit = rw (right-degree p) at c.edge_at-edge.ensures in
    let word = ap₂ (λ (i x : ℕ). set kept i (bit_xor (at kept i) x)) vertex (c.power.ensures ∙ ap (λ (i : ℕ). 2 ^ i) weight) in
    let told =
    c.mark.ensures
    ∙ ap₂ (λ (from u : ℕ). marked (set kept c.args.v (bit_xor (at kept c.args.v) c.power.result)) from u) c.news_of.ensures c.vertex_at.ensures in
    putting-more (plan_in p.parts) p.passed right c.args.v c.requires.v_lt_nr c.args.pattern _ _ c.loop-rest.invariant _
    c.highest-high.ensures.power_low c.highest-high.ensures.power_high _ bit c.power-rest.ensures c.turn_bit.ensures _ (rw (right-degree p) at (entry-lt here)) bit
    (rw (right-degree p) at word) c.edge_at-edge.result (rw c.edge_at-edge.ensures (edge-lt here)) refl (rw (left-degree p) at told)

pub returns : goal.returns
returns c =
    let p = c.args.plan.now in
    putting-done (plan_in p.parts) p.passed right c.args.v c.requires.v_lt_nr c.args.pattern _ _ c.loop-rest.invariant (omega arith)
