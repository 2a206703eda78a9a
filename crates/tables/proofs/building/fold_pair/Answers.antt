-- `tables::fold_pair` meets its contract: both keys are read before either is put.
use Rattle.tables.proofs.Keys.{lighter-lt}
use Rattle.tables.proofs.building.fold_pair.Goals as goal

pub put_key-requires-clause-key_bound : goal.put_key-requires-clause-key_bound
put_key-requires-clause-key_bound c = rw c.lighter.ensures (lighter-lt _ _ c.key_at-here.ensures.1)

pub put_key-requires-2-clause-key_bound : goal.put_key-requires-2-clause-key_bound
put_key-requires-2-clause-key_bound c = rw c.lighter-2.ensures (lighter-lt _ _ c.key_at-there.ensures.1)
