-- `decoder::ended` meets its contract: the number of ties is compared with 0.
use Rattle.std.proofs.Common.{eq-eqb, ne_eqb}
use Rattle.decoder.specs.Turns.{ended_to}
use Rattle.decoder.proofs.settle.ended.Goals as goal

pub returns-then-ties-eq0 : goal.returns-then-ties-eq0
unfolding ended_to
returns-then-ties-eq0 c = rw (eq-eqb _ 0 c.if-ties-eq0.true)

pub returns : goal.returns
unfolding ended_to
returns c = rw (ne_eqb _ 0 c.if-ties-eq0.false)
