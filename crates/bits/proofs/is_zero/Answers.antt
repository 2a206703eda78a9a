-- `bits::is_zero` meets its contract: no byte before i is above `largest`, which is 0 where all bytes are.
use Rattle.std.proofs.Common.{arith, refl, sym, ◌∙◌, below_more, eqb-true, eq-eqb, length}
use mathlib.Core.Bool.{false≢true}
use native.Mathlib.Decide.{dec_le}
use lib.ListN.{get_or-eq_default}
use Rattle.bits.specs.Window.{at}
use Rattle.bits.proofs.is_zero.Goals as goal

pub loop-byte-init : goal.loop-byte-init
loop-byte-init c = (λ j l. absurd (omega arith), λ _. refl)

pub loop-byte-preserved : goal.loop-byte-preserved
unfolding at
loop-byte-preserved c =
    let turn = c.loop-byte in (
      below_more _ _ (λ j l. omega (arith, turn.invariant.0 j l)) (omega arith),
      λ zero. omega (arith, turn.invariant.1 zero, zero turn.byte-index),
    )

pub returns : goal.returns
unfolding at
returns c =
    let bytes = c.args.bytes.now in
    let largest = c.loop-byte.largest in record {
      when_true = λ e i.
          elim (dec_le (length bytes) i) [
            | no inside ↦ omega (arith, c.loop-byte.invariant.0 i (omega arith), eqb-true largest 0 e)
            | yes past ↦ get_or-eq_default bytes 0 past
          ];
      when_false = λ e zero. false≢true (sym e ∙ eq-eqb largest 0 (c.loop-byte.invariant.1 zero));
    }
