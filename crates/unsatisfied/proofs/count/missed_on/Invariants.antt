use Rattle.std.proofs.Common.{◌≡◌, ◌≤◌}
use Rattle.unsatisfied.specs.Answer.{missed_up_to}
use Rattle.unsatisfied.proofs.count.missed_on.Given as goal

abbrev pub invariant-loop-v : goal.invariant-loop-v
invariant-loop-v l = record { few : l.count ≤ l.v; counted : l.count ≡ missed_up_to l.code l.side l.plan.parts.wiring.now l.v l.block }
