-- `wiring::check_right` meets its contract: of sheets that are the same the check is the same.
use Rattle.wiring.proofs.plan.check_right.Goals as goal

pub returns-then-same : goal.returns-then-same
returns-then-same c = rw (c.same.ensures.when_true c.if-same.true) at c.requires
