-- `messages::unit_columns` meets its contract: after p turns the first p columns are those of the unit rows.
use Rattle.std.proofs.Common.{◌≡◌, arith}
use Rattle.bits.proofs.Windows.{shifted_one}
use Rattle.messages.proofs.StoredRows.{units-none, units-one-more, units-stored}
use Rattle.messages.proofs.columns.unit_columns.Goals as goal

pub loop-p-init : goal.loop-p-init
loop-p-init c = rw c.requires.columns_value units-none

pub loop-p-preserved : goal.loop-p-preserved
loop-p-preserved c =
    let before = c.loop-p in
    units-one-more before.p before.columns (omega arith) before.invariant _ (shifted_one _ 64 (omega arith))

pub returns : goal.returns
returns c =
    let end : c.loop-p.p ≡ c.args.edges = omega arith in
    units-stored _ _ (rw end at c.loop-p.invariant)
