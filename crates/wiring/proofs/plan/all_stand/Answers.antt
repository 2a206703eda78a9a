-- `wiring::all_stand` meets its contract: either number of bytes is a power of two.
use Rattle.std.proofs.Common.{refl}
use Rattle.wiring.proofs.plan.all_stand.Goals as goal

pub every_edge_stands-requires-clause-is_power : goal.every_edge_stands-requires-clause-is_power
every_edge_stands-requires-clause-is_power c = (10, refl)

pub every_edge_stands-requires-2-clause-is_power : goal.every_edge_stands-requires-2-clause-is_power
every_edge_stands-requires-2-clause-is_power c = (15, refl)
