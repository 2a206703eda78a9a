-- `wiring::check_entries` meets its contract: where every edge stands no entry is faulty.
use Rattle.std.proofs.Common.{sym}
use Rattle.wiring.proofs.plan.check_entries.Goals as goal

pub returns-then-all_stand : goal.returns-then-all_stand
returns-then-all_stand c = sym (c.all_stand.ensures c.if-all_stand.true)
