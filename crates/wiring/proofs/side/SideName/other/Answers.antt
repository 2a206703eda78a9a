-- `SideName::other` meets its contract: each side gives the other.
use Rattle.wiring.specs.Plan.{other}
use Rattle.wiring.proofs.side.SideName.other.Goals as goal

pub returns-in-Left : goal.returns-in-Left
unfolding other
returns-in-Left c = rw c.in-Left.is

pub returns-in-Right : goal.returns-in-Right
unfolding other
returns-in-Right c = rw c.in-Right.is
