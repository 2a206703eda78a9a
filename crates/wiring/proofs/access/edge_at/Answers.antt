-- `wiring::edge_at` meets its contract: it reads the two bytes of entry i.
use Rattle.std.proofs.Common.{◌*◌, ◌+◌, refl, arith}
use Rattle.bits.specs.Bit.{pair_at}
use Rattle.wiring.specs.Plan.{edge_of}
use Rattle.wiring.proofs.access.edge_at.Goals as goal

pub overflow_cast-result : goal.overflow_cast-result
overflow_cast-result c = omega (arith, c.type_inv.wiring (2 * c.args.i))

pub overflow_mul-result-2 : goal.overflow_mul-result-2
overflow_mul-result-2 c = omega (arith, c.type_inv.wiring (2 * c.args.i))

pub overflow_cast-result-2 : goal.overflow_cast-result-2
overflow_cast-result-2 c = omega (arith, c.type_inv.wiring (2 * c.args.i + 1))

pub overflow_add-result-2 : goal.overflow_add-result-2
overflow_add-result-2 c =
    let i = c.args.i in
    omega (arith, c.type_inv.wiring (2 * i), c.type_inv.wiring (2 * i + 1))

pub returns : goal.returns
unfolding edge_of pair_at
returns c = refl
