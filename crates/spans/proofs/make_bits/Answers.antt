-- `spans::make_bits` meets its contract: after i - from turns the bits from `from` to before i are made.
use Rattle.std.proofs.Common.{ℕ, ◌+◌, ◌-◌, ◌%◌, List, ◌≡◌, sym, ap, ◌∙◌, arith}
use Rattle.bits.specs.Bit.{with_bit}
use Rattle.spans.specs.Walking.{made}
use Rattle.spans.proofs.Filling.{made_none, made-one-more}
use Rattle.spans.proofs.make_bits.Goals as goal

pub loop-i-init : goal.loop-i-init
loop-i-init c =
    let args = c.args in
    let none : args.from - args.from ≡ 0 = omega arith in
    sym (rw none (made_none (args.value % 2) args.from args.block.now))

pub loop-i-preserved : goal.loop-i-preserved
loop-i-preserved c =
    let args = c.args in
    let b = args.value % 2 in
    let i = c.loop-i.i in
    let more : i + 1 - args.from ≡ i - args.from + 1 = omega arith in
    let here : args.from + (i - args.from) ≡ i = omega arith in
    c.put_bit.ensures
    ∙ ap (λ (l : List ℕ). with_bit l i b) c.loop-i.invariant
    ∙ sym (rw more (made-one-more b args.from (i - args.from) args.block.now ∙ rw here))

pub returns : goal.returns
returns c =
    let args = c.args in
    let end : c.loop-i.i ≡ args.to = omega arith in
    c.loop-i.invariant ∙ ap (λ (i : ℕ). made (args.value % 2) args.from (i - args.from) args.block.now) end
