-- `single_sweep::place_across` meets its contract: from the left it reads the place that is noted, from the right entry i.
use Rattle.std.proofs.Common.{arith}
use Rattle.bits.specs.Window.{at}
use Rattle.wiring.specs.Plan.{edge_of}
use Rattle.single_sweep.specs.Telling.{across_from}
use Rattle.single_sweep.proofs.telling.place_across.Goals as goal

pub bounds-places-i : goal.bounds-places-i
bounds-places-i c = c.requires.i_in_bounds c.in-Left.is

pub overflow_cast-result-in-Right : goal.overflow_cast-result-in-Right
overflow_cast-result-in-Right c = omega (arith, c.type_inv.places c.args.i)

pub returns-in-Left : goal.returns-in-Left
unfolding across_from at
returns-in-Left c = rw c.in-Left.is

pub returns-in-Right : goal.returns-in-Right
unfolding across_from edge_of
returns-in-Right c = rw c.in-Right.is c.pair.ensures
