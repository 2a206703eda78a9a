-- `tables::key_at` meets its contract: a byte of cost and two of a pattern.
use Rattle.std.proofs.Common.{◌+◌, ◌*◌, arith}
use Rattle.bits.specs.Bit.{pair_at}
use Rattle.tables.specs.Folding.{key_at}
use Rattle.tables.proofs.building.key_at.Goals as goal

pub returns : goal.returns
unfolding key_at pair_at
returns c =
    let at = c.args.c in
    (omega arith, omega (arith, c.type_inv.costs at, c.type_inv.table (2 * at), c.type_inv.table (2 * at + 1)))
