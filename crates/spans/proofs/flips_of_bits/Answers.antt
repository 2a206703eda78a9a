-- `spans::flips_of_bits` meets its contract: after i - from turns the bits from `from` to before i are counted.
use Rattle.std.proofs.Common.{rules, ◌+◌, ◌≡◌, sym, ap₂, ◌∙◌, arith, bit_xor}
use Rattle.spans.specs.Walking.{flips_between}
use Rattle.spans.proofs.Gaps.{between_none, between-end, between_le, between-one-more}
use Rattle.spans.proofs.flips_of_bits.Goals as goal
use Rattle.spans.proofs.flips_of_bits.Goals.{After-bit-in-loop-i}

pub loop-i-init : goal.loop-i-init
loop-i-init c =
    (search rules, sym (between_none c.args.a.now c.args.b.now c.args.from c.args.from (omega arith)))

-- the count with one more bit
counted : (c : After-bit-in-loop-i)
    → let args = c.args in
    c.loop-i.count + bit_xor c.bit.result c.bit-in-loop-i.result
    ≡ flips_between args.a.now args.b.now args.from (c.loop-i.i + 1)
counted c =
    let args = c.args in
    ap₂ ◌+◌ c.loop-i.invariant.1 (ap₂ bit_xor c.bit.ensures c.bit-in-loop-i.ensures)
    ∙ sym (between-one-more args.a.now args.b.now args.from c.loop-i.i (omega arith))

pub overflow_add-count : goal.overflow_add-count
overflow_add-count c =
    let args = c.args in
    omega (arith, counted c, between_le args.a.now args.b.now args.from (c.loop-i.i + 1))

pub loop-i-preserved : goal.loop-i-preserved
loop-i-preserved c = (omega arith, counted c)

pub returns : goal.returns
returns c =
    let turn = c.loop-i in
    let args = c.args in
    let a = args.a.now in
    let b = args.b.now in
    let all = turn.invariant.1 ∙ between-end a b args.from turn.i args.to (omega arith) turn.invariant.0 (omega arith) in
    (all, omega (arith, all, between_le a b args.from args.to))
