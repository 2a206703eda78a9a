-- `restored::flip::differing` meets its contract: each turn adds one term of the sum, which is at most 1.
use Rattle.std.proofs.Common.{◌≡◌, ◌+◌, ◌<◌, sym, ap₂, ◌∙◌, arith, bit_xor}
use Rattle.bits.specs.Bit.{bit_at}
use Rattle.bits.proofs.Flips.{flips-zero, flips-one-more, flips-bit}
use Rattle.restored.proofs.flip.differing.Goals as goal
use Rattle.restored.proofs.flip.differing.Goals.{After-bit-in-loop-i}

pub loop-i-init : goal.loop-i-init
loop-i-init c = record { few = omega arith; counted = sym (flips-zero _ _) }

-- the bit of a turn, 1 where the blocks differ in it
differs : (c : After-bit-in-loop-i) → bit_xor c.bit.result c.bit-in-loop-i.result
    ≡ bit_xor (bit_at c.args.a.now c.loop-i.i) (bit_at c.args.b.now c.loop-i.i)
differs c = ap₂ bit_xor c.bit.ensures c.bit-in-loop-i.ensures

at_most_one : (c : After-bit-in-loop-i) → bit_xor c.bit.result c.bit-in-loop-i.result < 2
at_most_one c = rw (differs c) (flips-bit _ _ c.loop-i.i)

pub overflow_add-count : goal.overflow_add-count
overflow_add-count c = omega (arith, at_most_one c)

pub loop-i-preserved : goal.loop-i-preserved
loop-i-preserved c = record {
  few = omega (arith, at_most_one c);
  counted = ap₂ ◌+◌ c.loop-i.invariant.counted (differs c) ∙ sym (flips-one-more _ _ _);
}

pub returns : goal.returns
returns c =
    let end : c.loop-i.i ≡ 64 = omega arith in
    rw end at c.loop-i.invariant.counted
