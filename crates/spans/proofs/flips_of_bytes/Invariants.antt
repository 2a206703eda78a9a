use Rattle.std.proofs.Common.{◌*◌, ◌≡◌}
use Rattle.spans.specs.Walking.{flips_between}
use Rattle.spans.proofs.flips_of_bytes.Given as goal

abbrev pub invariant-loop-i : goal.invariant-loop-i
invariant-loop-i l = l.count ≡ flips_between l.a l.b (8 * l.first) (8 * l.i)
