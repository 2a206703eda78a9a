-- `single_sweep::turn_told` meets its contract: of its side only one vertex reads the bit that is turned, and the word that it then reads is the one
-- that it read with one digit turned.
use Rattle.std.proofs.Common.{ℕ, ◌≤◌, ◌<◌, ap, ◌∙◌, arith, bit_xor, mod-lt}
use Rattle.bits.specs.Window.{turned}
use Rattle.wiring.specs.Plan.{left}
use Rattle.wiring.specs.PlanParts.{plan_in}
use Rattle.wiring.proofs.Plans.{plan-fits}
use Rattle.unsatisfied.specs.Answer.{missed_of}
use Rattle.single_sweep.proofs.TurnedBits.{told-readable, told-turned}
use Rattle.single_sweep.proofs.telling.turn_told.Goals as goal
use Rattle.single_sweep.proofs.telling.turn_told.Goals.{After-side-code}

degree-range : (c : After-side-code) → (1 ≤ c.side-code.result.d) × (c.side-code.result.d ≤ 16)
degree-range c =
    let fits = plan-fits _ c.args.plan.passed c.args.side in
    rw c.side-code.ensures (fits.d-low, fits.d-high)

pub nonzero_div-place : goal.nonzero_div-place
nonzero_div-place c = omega (arith, (degree-range (goal.at.nonzero_div-place c).After-side-code).0)

pub read_word-word-requires : goal.read_word-word-requires
read_word-word-requires c =
    told-readable _ c.args.plan.passed c.args.side c.side-code.ensures _ c.requires.room _ c.requires.place_bound

pub overflow_sub-d : goal.overflow_sub-d
overflow_sub-d c = (degree-range (goal.at.overflow_sub-d c).After-side-code).0

pub nonzero_rem-place : goal.nonzero_rem-place
nonzero_rem-place c = omega (arith, (degree-range (goal.at.nonzero_rem-place c).After-side-code).0)

pub overflow_sub-d-2 : goal.overflow_sub-d-2
overflow_sub-d-2 c =
    let some : 0 < c.side-code.result.d = omega (arith, (degree-range (goal.at.overflow_sub-d-2 c).After-side-code).0) in
    omega (arith, mod-lt c.args.place some)

pub power-requires : goal.power-requires
power-requires c = omega (arith, degree-range (goal.at.power-requires c).After-side-code)

pub bit_of-requires : goal.bit_of-requires
bit_of-requires c = omega (arith, c.requires.place_bound, (plan-fits (plan_in c.args.plan.parts) c.args.plan.passed left).sized)

pub returns : goal.returns
returns c =
    let turns = c.turn_bit.ensures ∙ ap (λ (e : ℕ). turned c.args.block.now e 1) c.bit_of.ensures in
    let read = c.read_word-word in
    let was = c.missed_word-before.ensures in
    let is = c.missed_word-after.ensures.0 ∙ ap (λ (x : ℕ). missed_of c.side-code.result (bit_xor read.result x)) c.power.ensures in
    record {
      told = told-turned (plan_in c.args.plan.parts) c.args.plan.passed c.args.side c.side-code.ensures _ c.requires.room _ c.requires.place_bound
          turns read.ensures was.0 is was.1;
      block_after = turns;
    }
