-- `finder::single_pattern` meets its contract: after b turns `found` tells of the powers of 2 below 2^b.
use Rattle.std.proofs.Common.{◌≡◌, sym, ap, ap₂, ◌∙◌, arith}
use Rattle.finder.specs.Finding.{left_in, single_more, single_below}
use Rattle.bits.proofs.Windows.{shifted_one}
use Rattle.finder.proofs.Finding.{single-few, single-all, single-start, single-met, single-missed}
use Rattle.finder.proofs.finder.single_pattern.Goals as goal
use Rattle.finder.proofs.finder.single_pattern.Goals.{else-left_of-left, then-left_of-left}

pub returns-then-finder-le-FEW : goal.returns-then-finder-le-FEW
returns-then-finder-le-FEW c =
    let args = c.args in
    sym (single-few args.finder.now args.left c.if-finder-le-FEW.true)

pub loop-b-init : goal.loop-b-init
loop-b-init c = single-start _ _

pub loop-b-preserved : goal.loop-b-preserved
loop-b-preserved c =
    let args = c.args in
    let is = shifted_one c.loop-b.b 16 (omega arith) in
    let left = c.left_of.ensures ∙ ap (left_in args.finder.now) is in
    elim c.if-left_of-left.branch [
      | then-left_of-left w ↦ w.found-is ∙ w.single_more-found.ensures ∙ ap₂ single_more c.loop-b.invariant is
          ∙ single-met args.finder.now args.left c.loop-b.b (sym left ∙ w.if-left_of-left.true)
      | else-left_of-left w ↦ w.found-is ∙ c.loop-b.invariant ∙ single-missed args.finder.now args.left c.loop-b.b (λ e. w.if-left_of-left.false (left ∙ e))
    ]

pub returns : goal.returns
returns c =
    let args = c.args in
    let all : c.loop-b.b ≡ c.digits_in-digits.result = omega arith in
    c.loop-b.invariant ∙ ap (single_below args.finder.now args.left) (all ∙ c.digits_in-digits.ensures)
    ∙ sym (single-all args.finder.now args.left (omega (arith, c.if-finder-le-FEW.false)))
