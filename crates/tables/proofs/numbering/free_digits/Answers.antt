-- `tables::free_digits` meets its contract: after i turns the highest digits of the first i rows are taken out.
use Rattle.std.proofs.Common.{refl, sym, ap₂, ◌∙◌, bit_xor}
use Rattle.bits.specs.Window.{at}
use Rattle.tables.specs.Numbering.{free_mask}
use Rattle.tables.proofs.Numbers.{mask-one-more}
use Rattle.tables.proofs.numbering.free_digits.Goals as goal

pub loop-i-init : goal.loop-i-init
unfolding free_mask
loop-i-init c = refl

pub loop-i-preserved : goal.loop-i-preserved
unfolding at
loop-i-preserved c =
    ap₂ bit_xor c.loop-i.invariant c.top_digit-mask.ensures ∙ sym (mask-one-more (at c.args.basis.now) c.loop-i.i)
