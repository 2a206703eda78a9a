use Rattle.std.proofs.Common.{◌≡◌, ℕ, ◌<◌, ◌≤◌}
use Rattle.bits.specs.Window.{at}
use Rattle.bits.proofs.is_zero.Given as goal

abbrev pub invariant-loop-byte : goal.invariant-loop-byte
invariant-loop-byte l =
    ((j : ℕ) → j < l.byte-index → at l.bytes j ≤ l.largest) × (((k : ℕ) → at l.bytes k ≡ 0) → l.largest ≡ 0)
