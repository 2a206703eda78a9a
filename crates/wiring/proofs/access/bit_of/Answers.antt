-- `wiring::bit_of` meets its contract: on the right it reads entry i, on the left the bit is i itself.
use Rattle.wiring.specs.Plan.{side_bit}
use Rattle.wiring.proofs.access.bit_of.Goals as goal

pub returns-in-Left : goal.returns-in-Left
unfolding side_bit
returns-in-Left c = rw c.in-Left.is

pub returns-in-Right : goal.returns-in-Right
unfolding side_bit
returns-in-Right c = rw c.in-Right.is c.edge_at.ensures
