-- `report::count_runs` meets its contract: at bit i `start` is where the run that is open there begins, i where none is, and `count` is the
-- number of runs that have ended. A stretch that agrees ends the open run and begins none.
use Rattle.std.proofs.Common.{rules, sym, ◌∙◌, ◌<◌, arith}
use Rattle.report.specs.Report.{differs_at}
use Rattle.report.proofs.Runs.{start-zero, start-one-more-inside, run_count-zero, run_count-le}
use Rattle.report.proofs.Reporting.{inside-count, stretch-start, stretch-count-ends, stretch-count-none}
use Rattle.report.proofs.count_runs.Goals as goal
use Rattle.report.proofs.count_runs.Goals.{else-start-i, then-start-i}

pub loop-i-init : goal.loop-i-init
loop-i-init c =
    let args = c.args in
    let test = differs_at args.received.now args.settled.now in
    (search rules, sym (start-zero test), sym (run_count-zero test))

pub loop-i-preserved-then-same-eq0 : goal.loop-i-preserved-then-same-eq0
loop-i-preserved-then-same-eq0 c =
    let args = c.args in
    let test = differs_at args.received.now args.settled.now in
    let before = c.loop-i in
    let on = c.agreeing-same.ensures.none c.if-same-eq0.true in
    (search rules, before.invariant.1 ∙ sym (start-one-more-inside test before.i on), before.invariant.2 ∙ sym (inside-count test before.i on))

pub overflow_add-count : goal.overflow_add-count
overflow_add-count c =
    let args = c.args in
    let before = c.loop-i in
    omega (arith, run_count-le (differs_at args.received.now args.settled.now) before.i)

pub loop-i-preserved : goal.loop-i-preserved
loop-i-preserved c =
    let args = c.args in
    let test = differs_at args.received.now args.settled.now in
    let before = c.loop-i in
    let same = c.agreeing-same in
    let some : 0 < same.result = omega arith in (
      same.ensures.within,
      sym (stretch-start test before.i same.result some same.ensures.each),
      (elim c.if-start-i.branch [
        | then-start-i w ↦ omega (arith, stretch-count-ends test before.i same.result some same.ensures.each (omega arith))
        | else-start-i w ↦ omega (arith, stretch-count-none test before.i same.result some same.ensures.each (omega arith))
      ]),
    )
