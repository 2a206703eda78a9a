-- `tables::squeeze` meets its contract: after b turns `number` is what the free digits below b make, and `place` how many they are.
use Rattle.std.proofs.Common.{refl, sym, ap, ap₂, ◌∙◌, ℕ, ◌+◌, ◌*◌, ◌/◌, ◌%◌, ◌^◌, ◌<◌, arith, mul_assoc, bit_xor, shl_exact}
use Rattle.bits.specs.Bit.{digit}
use Rattle.bits.specs.Sum.{sum}
use Rattle.bits.proofs.Sums.{sum-one-more}
use Rattle.inner_code.specs.Code.{combination}
use Rattle.tables.specs.Numbering.{squeezed_by}
use Rattle.tables.proofs.Numbers.{squeezed-one-more, free-few}
use Rattle.bits.proofs.Xor.{digits_product}
use Rattle.tables.proofs.numbering.squeeze.Goals as goal
use Rattle.tables.proofs.numbering.squeeze.Goals.{In-loop-b}

pub loop-b-init : goal.loop-b-init
unfolding sum squeezed_by combination
loop-b-init c = (refl, refl)

-- a digit of the word counts where it is free, which is one bit at a place below 16
product : (c : In-loop-b)
    → let here = c.loop-b.b in
    let args = c.args in
    args.word / 2 ^ here % 2 * (args.mask / 2 ^ here % 2) < 2
product c =
    let here = c.loop-b.b in
    let args = c.args in
    digits_product (args.word / 2 ^ here % 2) (args.mask / 2 ^ here % 2) (omega arith) (omega arith)

place-lt : (c : In-loop-b) → c.loop-b.place < 16
place-lt c = omega (arith, c.loop-b.invariant.0, free-few c.args.mask c.loop-b.b)

pub overflow_cast-number-in-loop-b : goal.overflow_cast-number-in-loop-b
overflow_cast-number-in-loop-b c = omega (arith, place-lt c)

pub overflow_shl-number : goal.overflow_shl-number
overflow_shl-number c = place-lt c

pub overflow_add-place : goal.overflow_add-place
overflow_add-place c = omega (arith, place-lt c)

pub loop-b-preserved : goal.loop-b-preserved
unfolding digit
loop-b-preserved c =
    let here = c.loop-b in
    let args = c.args in
    let mask = args.mask in
    let bit = digit args.word here.b in
    let free = digit mask here.b in (
      ap (λ (n : ℕ). n + free) here.invariant.0 ∙ sym (sum-one-more here.b (digit mask)),
      ap₂ (λ (x p : ℕ). bit_xor x ((bit * free * 2 ^ p) % 65536)) here.invariant.1 here.invariant.0
          ∙ ap (bit_xor (squeezed_by mask here.b args.word))
          (shl_exact 1 (sum here.b (digit mask)) 16 (product c) (omega (arith, place-lt c, here.invariant.0))
          ∙ mul_assoc bit free (2 ^ sum here.b (digit mask)))
          ∙ sym (squeezed-one-more mask here.b args.word),
    )
