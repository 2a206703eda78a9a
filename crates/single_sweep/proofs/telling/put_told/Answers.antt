-- `single_sweep::put_told` meets its contract: each turn puts the highest one of the rest on the block, and tells it to the vertex of the other side.
use Rattle.std.proofs.Common.{◌≡◌, ℕ, ◌+◌, ◌-◌, ◌*◌, ◌≤◌, ◌<◌, List, [], length, refl, ap, ◌∙◌, arith, pow_pos}
use lib.Arith.{digits_lt}
use Rattle.bits.specs.Window.{turned}
use Rattle.inner_code.specs.Reply.{done}
use Rattle.inner_code.specs.Sheet.{degree}
use Rattle.wiring.specs.Plan.{Plan, sheet_of, count_of, side_bit, edge_count, other}
use Rattle.wiring.specs.PlanParts.{plan_in}
use Rattle.wiring.specs.Wiring.{plan_check}
use Rattle.wiring.specs.Places.{Across}
use Rattle.wiring.specs.declared.side.SideCode.{SideCode}
use Rattle.wiring.specs.declared.side.SideName.{SideName}
use Rattle.words.proofs.Patterns.{rest-sized, rest-none, rest-high, rest_more, length-pattern}
use Rattle.wiring.proofs.Plans.{plan-fits, plan-whole, plan-few, plan-entries}
use Rattle.single_sweep.specs.Telling.{across_from}
use Rattle.single_sweep.proofs.TurnedBits.{across-meets}
use Rattle.single_sweep.proofs.Visits.{side-few}
use Rattle.single_sweep.proofs.telling.put_told.Goals as goal
use Rattle.single_sweep.proofs.telling.put_told.Goals.{After-side-d, After-highest-high}

module _ (plan : Plan) (accepted : plan_check plan ≡ done []) (side : SideName) {v : ℕ} (v_below : v < count_of plan side) where
  abbrev digits : ℕ
  digits = degree (sheet_of plan side)

  -- an entry of vertex v
  entry_lt : (j : ℕ) → j < digits → v * digits + j < edge_count plan
  entry_lt j l = rw (plan-whole plan accepted side).entries at (digits_lt v_below l)

  -- the first one
  base_few : {d : ℕ} → d ≡ digits → v * d < 32768
  base_few is = rw is (omega (arith, entry_lt 0 (omega (arith, (plan-fits plan accepted side).d-low)), plan-few plan accepted))

  -- the entry of a digit
  module _ {d high : ℕ} (is : d ≡ digits) (within : high < digits) where
    entry_few : (v * d + (d - 1 - high) < edge_count plan) × (v * d + (d - 1 - high) < 32768)
    entry_few =
        let below = entry_lt (digits - 1 - high) (omega (arith, within)) in
        rw is (below, omega (arith, below, plan-few plan accepted))

    -- the entry of the other side that has the bit
    placed : {places : List ℕ} {place : ℕ} → Across plan.wiring side places
        → place ≡ across_from side plan.wiring places (v * d + (d - 1 - high))
        → (place < edge_count plan)
        × (side_bit (other side) plan.wiring place ≡ side_bit side plan.wiring (v * digits + (digits - 1 - high)))
    placed across e =
        rw (e, is) (across-meets plan accepted side across (v * digits + (digits - 1 - high)) (rw is at entry_few.0))

-- the degree of the side, as its check has told it
degree-is : (c : After-side-d) → c.side-d.result.d ≡ degree (sheet_of (plan_in c.args.plan.parts) c.args.side)
degree-is c = ap (λ (x : SideCode). x.d) c.side-d.ensures

pub overflow_mul-base : goal.overflow_mul-base
overflow_mul-base c = omega (arith, base_few _ c.args.plan.passed c.args.side c.requires.v_bound (degree-is c))

pub loop-rest-init : goal.loop-rest-init
loop-rest-init c = record { putting = record { low = c.requires.pattern_bound; putting = refl }; counted = refl }

-- the highest one is within the word
within : (c : After-highest-high) → c.highest-high.result < degree (sheet_of (plan_in c.args.plan.parts) c.args.side)
within c = rest-high c.loop-rest.invariant.putting _ c.highest-high.ensures.power_low c.highest-high.ensures.power_high

pub overflow_sub-d : goal.overflow_sub-d
overflow_sub-d c = omega (arith, degree-is (goal.at.overflow_sub-d c).After-side-d, within c)

pub overflow_sub-d-in-loop-rest : goal.overflow_sub-d-in-loop-rest
overflow_sub-d-in-loop-rest c = omega (arith, degree-is (goal.at.overflow_sub-d-in-loop-rest c).After-side-d, within c)

pub overflow_add-base : goal.overflow_add-base
overflow_add-base c =
    let is = degree-is (goal.at.overflow_add-base c).After-side-d in
    omega (arith, entry_few _ c.args.plan.passed c.args.side c.requires.v_bound is (within c))

pub place_across-place-requires : goal.place_across-place-requires
place_across-place-requires c =
    let is = degree-is (goal.at.place_across-place-requires c).After-side-d in
    let few = entry_few _ c.args.plan.passed c.args.side c.requires.v_bound is (within c) in
    record {
      i_bound = few.1;
      i_in_bounds = λ is-left. omega (arith, few.0, plan-entries _ c.args.plan.passed, (c.requires.across.noted is-left).sized);
    }

-- the block has room for all bits
room : (c : After-highest-high) → edge_count (plan_in c.args.plan.parts) ≤ length c.loop-rest.block * 8
room c = omega (arith, rest-sized c.loop-rest.invariant.putting ∙ length-pattern _ _ _ _ _ _, c.requires.room)

pub turn_told-one-requires : goal.turn_told-one-requires
turn_told-one-requires c =
    let at = goal.at.turn_told-one-requires c in
    record {
      place_bound = (placed _ c.args.plan.passed c.args.side c.requires.v_bound (degree-is at.After-side-d) (within at.After-highest-high)
          c.requires.across c.place_across-place.ensures).0;
      room = room at.After-highest-high;
    }

pub overflow_add-told : goal.overflow_add-told
overflow_add-told c =
    let few = side-few _ c.args.plan.passed (other c.args.side) in
    omega (
      arith,
      c.loop-rest.invariant.counted,
      rw c.other.ensures at c.turn_told-one.ensures.told,
      few c.loop-rest.block,
      few c.turn_told-one.new.block,
    )

pub overflow_sub-told : goal.overflow_sub-told
overflow_sub-told c =
    omega (arith, c.loop-rest.invariant.counted, side-few _ c.args.plan.passed (other c.args.side) c.args.block.now)

pub power-rest-requires : goal.power-rest-requires
power-rest-requires c =
    omega (arith, within (goal.at.power-rest-requires c).After-highest-high, (plan-fits _ c.args.plan.passed c.args.side).d-high)

pub overflow_sub-rest : goal.overflow_sub-rest
overflow_sub-rest c = omega (arith, c.power-rest.ensures, c.highest-high.ensures.power_low)

pub loop-rest-smaller : goal.loop-rest-smaller
loop-rest-smaller c =
    let some = pow_pos c.highest-high.result in
    omega (arith, c.power-rest.ensures, c.highest-high.ensures.power_low)

pub loop-rest-preserved : goal.loop-rest-preserved
loop-rest-preserved c =
    let at = goal.at.loop-rest-preserved c in
    let told = rw c.other.ensures at c.turn_told-one.ensures.told in
    let there = rw c.other.ensures at c.turn_told-one.ensures.block_after in
    let meets = placed _ c.args.plan.passed c.args.side c.requires.v_bound (degree-is at.After-side-d) (within at.After-highest-high)
    c.requires.across c.place_across-place.ensures in
    record {
      putting = rest_more c.loop-rest.invariant.putting _ c.highest-high.ensures.power_low c.highest-high.ensures.power_high refl c.power-rest.ensures
          (there ∙ ap (λ (e : ℕ). turned c.loop-rest.block e 1) meets.1);
      counted = omega (arith, c.loop-rest.invariant.counted, told, side-few _ c.args.plan.passed (other c.args.side) c.args.block.now);
    }

pub returns : goal.returns
returns c = record { told = c.loop-rest.invariant.counted; block_after = rest-none c.loop-rest.invariant.putting (omega arith) }
