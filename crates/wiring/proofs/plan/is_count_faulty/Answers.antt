-- `wiring::is_count_faulty` meets its contract.
use Rattle.std.proofs.Common.{refl, lt-ltb, le-ltb}
use Rattle.wiring.specs.Wiring.{count_faulty}
use Rattle.wiring.proofs.plan.is_count_faulty.Goals as goal

pub returns-then-n-lt1 : goal.returns-then-n-lt1
unfolding count_faulty
returns-then-n-lt1 c = rw (lt-ltb _ _ c.if-n-lt1.true) refl

pub returns-else-n-lt1 : goal.returns-else-n-lt1
unfolding count_faulty
returns-else-n-lt1 c = rw (le-ltb c.args.n 1 c.if-n-lt1.false) refl
