use Rattle.std.proofs.Common.{◌≡◌}
use Rattle.margin.proofs.write_plan.Given as goal

abbrev pub invariant-loop-flips : goal.invariant-loop-flips
invariant-loop-flips g l = l.lines ≡ l.flips
