-- `report::write_runs` meets its contract: at bit i `offset` is where the run that is open there begins, i where none is, and the runs that
-- have ended stand at the front of the list, up to the index `at`.
use Rattle.std.proofs.Common.{rules, List, ◌≡◌, sym, ap, ◌∙◌, ℕ, ◌<◌, arith, length}
use Rattle.bits.proofs.Fronts.{written_none}
use Rattle.bits.specs.Bit.{written}
use Rattle.report.proofs.Runs.{start-zero, start-one-more-inside, run_count-zero, run_count-le, run_bytes-zero}
use Rattle.report.proofs.Reporting.{inside-count, inside-bytes, stretch-start, stretch-count-ends, stretch-count-none, stretch-bytes-none}
use Rattle.report.proofs.Reporting.{written-length, written-room, written-ends}
use Rattle.report.specs.Report.{differs_at}
use Rattle.report.proofs.write_runs.Goals as goal
use Rattle.report.proofs.write_runs.Goals.{At-loop-i, else-offset-i, then-offset-i}

pub loop-i-init : goal.loop-i-init
loop-i-init c =
    let args = c.args in
    let test = differs_at args.received.now args.settled.now in (
      search rules,
      sym (start-zero test),
      omega (arith, run_count-zero test),
      sym (ap (λ (bytes : List ℕ). written bytes args.list.now) (run_bytes-zero test) ∙ written_none args.list.now),
    )

-- ---- a turn: the call, the loop's head, and the stretch whose run is put

-- the list keeps its length
kept : (c : At-loop-i) → length c.loop-i.list ≡ length c.args.list.now
kept c =
    let args = c.args in
    ap length c.loop-i.invariant.3
    ∙ written-length (differs_at args.received.now args.settled.now) args.edges args.list.now c.requires.edges_in_bounds c.loop-i.i
    (omega arith)

pub loop-i-preserved-then-same-eq0 : goal.loop-i-preserved-then-same-eq0
loop-i-preserved-then-same-eq0 c =
    let args = c.args in
    let test = differs_at args.received.now args.settled.now in
    let before = c.loop-i in
    let on = c.agreeing-same.ensures.none c.if-same-eq0.true in (
      search rules,
      before.invariant.1 ∙ sym (start-one-more-inside test before.i on),
      omega (arith, inside-count test before.i on),
      before.invariant.3 ∙ ap (λ (bytes : List ℕ). written bytes args.list.now) (sym (inside-bytes test before.i on)),
    )

pub put_run-requires : goal.put_run-requires
put_run-requires c =
    let args = c.args in
    let test = differs_at args.received.now args.settled.now in
    let before = c.loop-i in
    let same = c.agreeing-same in
    let some : 0 < same.result = omega arith in
    let fits = written-room test args.edges args.list.now c.requires.edges_in_bounds before.i same.result some same.ensures.each
    same.ensures.within (omega arith) in
    omega (arith, fits, kept (goal.at.put_run-requires c).At-loop-i)

pub overflow_add-at : goal.overflow_add-at
overflow_add-at c =
    let args = c.args in
    let before = c.loop-i in
    omega (arith, run_count-le (differs_at args.received.now args.settled.now) before.i)

pub loop-i-preserved : goal.loop-i-preserved
loop-i-preserved c =
    let args = c.args in
    let test = differs_at args.received.now args.settled.now in
    let before = c.loop-i in
    let same = c.agreeing-same in
    let room = c.requires.edges_in_bounds in
    let some : 0 < same.result = omega arith in (
      same.ensures.within,
      sym (stretch-start test before.i same.result some same.ensures.each),
      (elim c.if-offset-i.branch [
        | then-offset-i w ↦ omega (arith, stretch-count-ends test before.i same.result some same.ensures.each (omega arith))
        | else-offset-i w ↦ omega (arith, stretch-count-none test before.i same.result some same.ensures.each (omega arith))
      ]),
      (elim c.if-offset-i.branch [
        | then-offset-i w ↦ w.list-is ∙ w.put_run.ensures
            ∙ written-ends test args.edges args.list.now room before.i same.result some same.ensures.each same.ensures.within
            (omega arith) before.offset before.at before.list before.invariant.1 before.invariant.2 before.invariant.3
        | else-offset-i w ↦ w.list-is ∙ before.invariant.3
            ∙ ap (λ (bytes : List ℕ). written bytes args.list.now)
            (sym (stretch-bytes-none test before.i same.result some same.ensures.each (omega arith)))
      ]),
    )
