-- `messages::lowest` meets its contract: after w turns no row of the first w words is in the set.
use Rattle.std.proofs.Common.{sym, ◌∙◌, arith}
use Rattle.messages.proofs.Pivots.{lowest-none, lowest-passed, lowest-found, lowest-past}
use Rattle.messages.proofs.solver.lowest.Goals as goal

pub loop-w-init : goal.loop-w-init
loop-w-init c = lowest-none _

pub loop-w-preserved : goal.loop-w-preserved
loop-w-preserved c = lowest-passed _ _ c.loop-w.invariant c.if-word-ne0.false

pub returns-then-word-ne0 : goal.returns-then-word-ne0
returns-then-word-ne0 c =
    c.min.ensures ∙ sym (lowest-found _ _ _ c.loop-w.invariant (omega arith) (c.fits-hits c.loop-w.w))

pub returns : goal.returns
returns c = sym (lowest-past _ _ _ (omega arith) c.loop-w.invariant)
