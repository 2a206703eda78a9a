use Rattle.std.proofs.Common.{◌≡◌, ◌+◌, ◌-◌, ◌*◌, ◌≤◌}
use Rattle.bits.specs.Bit.{written}
use Rattle.report.specs.Report.{differs_at, run_start, run_count, run_bytes}
use Rattle.report.proofs.write_runs.Given as goal

abbrev pub invariant-loop-i : goal.invariant-loop-i
invariant-loop-i l =
    (l.i ≤ l.edges + 1) × (l.offset ≡ run_start (differs_at l.received l.settled) l.i) × (l.at ≡ 4 * run_count (differs_at l.received l.settled) l.i)
    × (l.list ≡ written (run_bytes (differs_at l.received l.settled) l.i) l.initial.list)

abbrev pub decreases-loop-i : goal.decreases-loop-i
decreases-loop-i l = l.edges + 1 - l.i
