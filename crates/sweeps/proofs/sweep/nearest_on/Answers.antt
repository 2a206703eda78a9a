-- `sweeps::nearest_on` meets its contract: each arm finds by the sheet of its side.
use Rattle.wiring.specs.Access.{sheet_for}
use Rattle.sweeps.proofs.sweep.nearest_on.Goals as goal

pub find_nearest-requires : goal.find_nearest-requires
unfolding sheet_for
find_nearest-requires c =
    record { finds = rw c.in-Left.is at c.requires.finds; word_bound = rw c.in-Left.is at c.requires.word_bound }

pub find_nearest-requires-in-Right : goal.find_nearest-requires-in-Right
unfolding sheet_for
find_nearest-requires-in-Right c =
    record { finds = rw c.in-Right.is at c.requires.finds; word_bound = rw c.in-Right.is at c.requires.word_bound }

pub returns-in-Left : goal.returns-in-Left
unfolding sheet_for
returns-in-Left c = rw c.in-Left.is c.find_nearest.ensures

pub returns-in-Right : goal.returns-in-Right
unfolding sheet_for
returns-in-Right c = rw c.in-Right.is c.find_nearest-in-Right.ensures
