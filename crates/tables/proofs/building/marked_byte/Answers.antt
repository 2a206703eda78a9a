-- `tables::marked_byte` meets its contract.
use Rattle.std.proofs.Common.{sym}
use Rattle.tables.proofs.Keys.{byte-marked, byte-kept}
use Rattle.tables.proofs.building.marked_byte.Goals as goal

pub returns-then-cost-eq1 : goal.returns-then-cost-eq1
returns-then-cost-eq1 c = sym (byte-marked c.args.cost c.args.byte c.if-cost-eq1.true)

pub returns : goal.returns
returns c = sym (byte-kept c.args.cost c.args.byte c.if-cost-eq1.false)
