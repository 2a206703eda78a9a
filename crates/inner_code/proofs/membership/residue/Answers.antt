-- `inner_code::residue` meets its contract: after i turns `left` is the word reduced by the first i rows.
use Rattle.std.proofs.Common.{add-one, arith, ◌≡◌, ◌∙◌, refl, ap, min, ℕ}
use Rattle.bits.specs.Window.{at}
use Rattle.inner_code.specs.Reduction.{reduced_by, reduce_by}
use Rattle.inner_code.proofs.membership.residue.Goals as goal

pub loop-i-init : goal.loop-i-init
unfolding reduced_by
loop-i-init c = refl

pub loop-i-preserved : goal.loop-i-preserved
unfolding reduced_by reduce_by at
loop-i-preserved c = rw add-one (c.min-left.ensures ∙ ap (λ (w : ℕ). reduce_by (at c.args.basis.now c.loop-i.i) w) c.loop-i.invariant)

pub returns : goal.returns
returns c =
    let all : c.loop-i.i ≡ min c.args.count 11 = omega arith in
    c.loop-i.invariant ∙ ap (λ (n : ℕ). reduced_by (at c.args.basis.now) n c.args.word) all
