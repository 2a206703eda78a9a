-- `inner_code::distance` meets its contract: after m turns `fewest` is the fewest ones of the first m words.
use Rattle.std.proofs.Common.{arith, rules, ◌≡◌, ◌∙◌, ap, length}
use Rattle.bits.specs.Window.{at}
use Rattle.inner_code.specs.Reduction.{fewest_ones}
use Rattle.inner_code.proofs.InnerDistance.{fewest-lower, fewest-kept, fewest-zero}
use Rattle.inner_code.proofs.codewords.distance.Goals as goal

pub loop-word-init : goal.loop-word-init
unfolding fewest_ones
loop-word-init c = search rules

pub loop-word-preserved : goal.loop-word-preserved
unfolding at
loop-word-preserved c =
    let words = at c.args.words.now in
    let m = c.loop-word.word-index in
    let lower = fewest-lower words m c.loop-word.fewest c.loop-word.invariant in
    let kept = fewest-kept words m c.loop-word.fewest c.loop-word.invariant in
    let none = fewest-zero words m c.loop-word.fewest c.loop-word.invariant in
    grind (arith, lower, kept, none)

pub returns : goal.returns
returns c =
    let words = c.args.words.now in
    let end : c.loop-word.word-index ≡ length words = omega arith in
    c.loop-word.invariant ∙ ap (fewest_ones (at words)) end
