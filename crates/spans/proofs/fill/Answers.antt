-- `spans::fill` meets its contract: after j turns the bits of the first j pairs are made, and all pairs hold exactly the lost bits.
use Rattle.std.proofs.Common.{rules, ℕ, ◌%◌, ◌≡◌, sym, ap, ◌∙◌, arith}
use Rattle.spans.specs.Spans.{pair_count}
use Rattle.spans.specs.Walking.{pairs_made}
use Rattle.spans.proofs.Filling.{pairs_made-zero, pairs_made-next, pairs_made-filled}
use Rattle.spans.proofs.fill.Goals as goal
use Rattle.spans.proofs.fill.Goals.{After-loop-j}

pub loop-j-init : goal.loop-j-init
loop-j-init c = sym (pairs_made-zero (c.args.value % 2) c.args.lost.now c.args.block.now)

pub loop-j-preserved : goal.loop-j-preserved
loop-j-preserved c =
    c.make.ensures
    ∙ pairs_made-next (c.args.value % 2) c.args.lost.now c.args.block.now c.loop-j.j _ _ c.loop-j.block c.start_of-start.ensures.0
    c.length_of.ensures.0 c.loop-j.invariant

all-pairs : (c : After-loop-j) → c.loop-j.j ≡ pair_count c.args.lost.now
unfolding pair_count
all-pairs c = omega arith

pub returns : goal.returns
returns c =
    let args = c.args in
    let b = args.value % 2 in
    c.loop-j.invariant
    ∙ ap (λ (j : ℕ). pairs_made b args.lost.now j args.block.now) (all-pairs c)
    ∙ pairs_made-filled b args.lost.now args.block.now (omega arith) (search rules)
