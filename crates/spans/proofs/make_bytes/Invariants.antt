use Rattle.std.proofs.Common.{◌≡◌, ℕ, ◌-◌, ◌*◌, ◌%◌, ◌≤◌, ◌<◌, get_or}
use Rattle.spans.specs.Walking.{made}
use Rattle.spans.proofs.make_bytes.Given as goal

abbrev pub invariant-loop-i : goal.invariant-loop-i
invariant-loop-i l =
    (l.i ≤ l.last) × ((k : ℕ) → get_or l.initial.block k 0 < 256)
    × (l.block ≡ made (l.value % 2) (8 * l.first) (8 * (l.i - l.first)) l.initial.block)
