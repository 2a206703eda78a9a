-- `tables::lighter` meets its contract.
use Rattle.tables.proofs.Keys.{lighter-tie, lighter-other, lighter-here}
use Rattle.tables.proofs.building.lighter.Goals as goal

pub returns-then-here-other : goal.returns-then-here-other
returns-then-here-other c = lighter-tie c.args.here c.args.other c.if-here-other.true

pub returns-then-other-here : goal.returns-then-other-here
returns-then-other-here c = let args = c.args in lighter-other args.here args.other c.if-here-other.false c.if-other-here.true

pub returns : goal.returns
returns c = let args = c.args in lighter-here args.here args.other c.if-here-other.false c.if-other-here.false
