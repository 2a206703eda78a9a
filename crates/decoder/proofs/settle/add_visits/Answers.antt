-- `decoder::add_visits` meets its contract: the number of the sweep is compared with the limit.
use Rattle.std.proofs.Common.{lt-ltb, le-ltb}
use Rattle.decoder.specs.Turns.{added_visits}
use Rattle.decoder.proofs.settle.add_visits.Goals as goal

pub returns-then-i-limit : goal.returns-then-i-limit
unfolding added_visits
returns-then-i-limit c = rw (lt-ltb _ _ c.if-i-limit.true)

pub returns : goal.returns
unfolding added_visits
returns c = rw (le-ltb _ _ c.if-i-limit.false)
