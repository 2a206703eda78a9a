-- `c_api::found` meets its contract: each side is told by its number and one more.
use Rattle.c_api.specs.Answer.{told_place}
use Rattle.c_api.proofs.found.Goals as goal

pub returns-in-Left : goal.returns-in-Left
unfolding told_place
returns-in-Left c = rw c.in-Left.is

pub returns-in-Right : goal.returns-in-Right
unfolding told_place
returns-in-Right c = rw c.in-Right.is
