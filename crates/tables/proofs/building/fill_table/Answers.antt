-- `tables::fill_table` meets its contract: either array has room for the costs of all classes.
use Rattle.std.proofs.Common.{[], arith}
use Rattle.inner_code.proofs.SheetChecks.{sound}
use Rattle.tables.specs.Answer.{table_bytes}
use Rattle.tables.proofs.Tables.{classes-few}
use Rattle.tables.proofs.building.fill_table.Goals as goal

-- no table has more than 32,768 entries
pub fill_in-requires-else-table-clause-table_len_bound : goal.fill_in-requires-else-table-clause-table_len_bound
unfolding table_bytes
fill_in-requires-else-table-clause-table_len_bound c =
    omega (arith, c.requires.sized, classes-few c.args.sheet.now (sound c.args.sheet.now [] c.requires.accepted))
