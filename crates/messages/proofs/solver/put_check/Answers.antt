-- `messages::put_check` meets its contract: it makes the step of the elimination, or nothing where no row fails the check.
use Rattle.messages.proofs.Pivots.{made-spread, made_none}
use Rattle.messages.proofs.solver.put_check.Goals as goal

pub returns-then-pivot-edges : goal.returns-then-pivot-edges
returns-then-pivot-edges c =
    made-spread _ c.requires.edges_bound _ _ _ c.find_hits-hits.ensures _ _ c.lowest-pivot.ensures c.if-pivot-edges.true
    c.spread.ensures

pub returns-else-pivot-edges : goal.returns-else-pivot-edges
returns-else-pivot-edges c =
    made_none _ c.requires.edges_bound _ _ _ c.find_hits-hits.ensures _ c.lowest-pivot.ensures c.if-pivot-edges.false
