-- `bits::copy_front` meets its contract: after i turns the first i bytes stand at the front.
use Rattle.std.proofs.Common.{◌∙◌, refl, arith}
use Rattle.bits.specs.Bit.{written}
use Rattle.bits.proofs.Fronts.{written-one-more, written_all}
use Rattle.bits.proofs.copy_front.Goals as goal

pub loop-i-init : goal.loop-i-init
unfolding written
loop-i-init c = refl

pub loop-i-preserved : goal.loop-i-preserved
loop-i-preserved c =
    let args = c.args in
    let turn = c.loop-i in
    rw (turn.invariant) (written-one-more args.from.now args.to.now turn.i (omega arith) c.requires)

pub returns : goal.returns
returns c = c.loop-i.invariant ∙ written_all c.args.from.now c.args.to.now c.loop-i.i (omega arith)
