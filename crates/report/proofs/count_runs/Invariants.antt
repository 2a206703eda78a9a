use Rattle.std.proofs.Common.{◌≡◌, ◌+◌, ◌-◌, ◌≤◌}
use Rattle.report.specs.Report.{differs_at, run_start, run_count}
use Rattle.report.proofs.count_runs.Given as goal

abbrev pub invariant-loop-i : goal.invariant-loop-i
invariant-loop-i l =
    (l.i ≤ l.edges + 1) × (l.start ≡ run_start (differs_at l.received l.settled) l.i) × (l.count ≡ run_count (differs_at l.received l.settled) l.i)

abbrev pub decreases-loop-i : goal.decreases-loop-i
decreases-loop-i l = l.edges + 1 - l.i
