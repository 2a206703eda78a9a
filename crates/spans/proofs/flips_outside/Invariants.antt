use Rattle.std.proofs.Common.{◌<◌, ◌≡◌}
use Rattle.spans.specs.Walking.{reach, flips_in_gaps}
use Rattle.spans.proofs.flips_outside.Given as goal

abbrev pub invariant-loop-j : goal.invariant-loop-j
invariant-loop-j l =
    (l.reach ≡ reach l.lost l.j) × (l.reach < 131072) × (l.count ≡ flips_in_gaps l.lost l.a l.b l.j)
