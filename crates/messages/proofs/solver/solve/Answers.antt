-- `messages::solve` meets its contract: the checks of the left side run over the unit rows, and then those of the right side.
use Rattle.messages.proofs.Solving.{solved-both}
use Rattle.messages.proofs.solver.solve.Goals as goal

pub returns : goal.returns
returns c = solved-both _ _ _ _ (rw c.edges.ensures at c.unit_columns.ensures) c.eliminate.ensures c.eliminate-2.ensures
