use Rattle.std.proofs.Common.{◌≤◌, max, ◌≡◌}
use Rattle.spans.specs.Walking.{flips_between}
use Rattle.spans.proofs.flips_of_bits.Given as goal

abbrev pub invariant-loop-i : goal.invariant-loop-i
invariant-loop-i l = (l.i ≤ max l.from l.to) × (l.count ≡ flips_between l.a l.b l.from l.i)
