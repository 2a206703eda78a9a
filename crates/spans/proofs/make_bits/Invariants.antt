use Rattle.std.proofs.Common.{◌-◌, ◌%◌, ◌≡◌}
use Rattle.spans.specs.Walking.{made}
use Rattle.spans.proofs.make_bits.Given as goal

abbrev pub invariant-loop-i : goal.invariant-loop-i
invariant-loop-i l = l.block ≡ made (l.value % 2) l.from (l.i - l.from) l.initial.block
