-- `radius::sweeps_named` meets its contract: none are named for F above N, and else the answer is that of the chain from 2F/D, which is
-- at most 2N.
use Rattle.std.proofs.Common.{sym, ◌∙◌, arith}
use Rattle.wiring.proofs.Permutation.{edges_le}
use Rattle.wiring.specs.Plan.{left, right}
use Rattle.radius.proofs.MarginChain.{named-is, named-over}
use Rattle.radius.proofs.chain.sweeps_named.Goals as goal

pub returns-then-plan-flips : goal.returns-then-plan-flips
returns-then-plan-flips c = sym (named-over _ _ c.if-plan-flips.true)

pub first_bound-requires : goal.first_bound-requires
first_bound-requires c =
    let low = c.requires.distance-low in
    (omega (arith, low left, low right), omega (arith, edges_le _ _ c.requires.nl-high c.requires.dl-high))

pub returns : goal.returns
returns c = (rw c.first_bound.ensures at c.chain.ensures) ∙ sym (named-is _ _ (omega arith))
