-- `words::put_pattern` meets its contract: each turn puts the highest one of the rest on the block, and the block with the rest on it stays the
-- same.
use Rattle.std.proofs.Common.{refl, ◌<◌, arith, pow_pos}
use Rattle.words.proofs.Patterns.{rest-none, rest-high, rest_more}
use Rattle.words.proofs.pattern.put_pattern.Goals as goal
use Rattle.words.proofs.pattern.put_pattern.Goals.{After-highest-high}

pub loop-rest-init : goal.loop-rest-init
loop-rest-init c = record { low = c.requires.pattern_bound; putting = refl }

-- the highest one is within the word
within : (c : After-highest-high) → c.highest-high.result < c.args.d
within c = rest-high c.loop-rest.invariant _ c.highest-high.ensures.power_low c.highest-high.ensures.power_high

pub overflow_sub-d : goal.overflow_sub-d
overflow_sub-d c = omega (arith, within (goal.at.overflow_sub-d c).After-highest-high)

pub overflow_sub-d-in-loop-rest : goal.overflow_sub-d-in-loop-rest
overflow_sub-d-in-loop-rest c = omega (arith, within (goal.at.overflow_sub-d-in-loop-rest c).After-highest-high)

pub bit_of-requires : goal.bit_of-requires
bit_of-requires c = omega (arith, within (goal.at.bit_of-requires c).After-highest-high)

pub power-rest-requires : goal.power-rest-requires
power-rest-requires c = omega (arith, within (goal.at.power-rest-requires c).After-highest-high)

pub overflow_sub-rest : goal.overflow_sub-rest
overflow_sub-rest c = omega (arith, c.power-rest.ensures, c.highest-high.ensures.power_low)

pub loop-rest-smaller : goal.loop-rest-smaller
loop-rest-smaller c =
    let some = pow_pos c.highest-high.result in
    omega (arith, c.power-rest.ensures, c.highest-high.ensures.power_low)

pub loop-rest-preserved : goal.loop-rest-preserved
loop-rest-preserved c =
    rest_more c.loop-rest.invariant _ c.highest-high.ensures.power_low c.highest-high.ensures.power_high c.bit_of.ensures
    c.power-rest.ensures c.turn_bit.ensures

pub returns : goal.returns
returns c = rest-none c.loop-rest.invariant (omega arith)
