-- `report::report_runs` meets its contract: each return is the outcome of the first place that refuses, and the runs are counted before
-- the first is written, so a list that is too short stays as it is.
use Rattle.std.proofs.Common.{◌+◌, arith, sym}
use Rattle.inner_code.proofs.Replies.{passed-on}
use Rattle.wiring.specs.PlanParts.{plan_in}
use Rattle.wiring.proofs.Plans.{plan-few, plan-refused}
use Rattle.report.specs.Report.{differs_at}
use Rattle.report.specs.Agreement.{Held}
use Rattle.report.proofs.Runs.{run_count-le}
use Rattle.report.proofs.Reporting.{blocks-held, outcome-plan, outcome-received, outcome-settled, outcome-short, outcome-done}
use Rattle.report.proofs.report_runs.Goals as goal
use Rattle.report.proofs.report_runs.Goals.{In_ok-check_block-2}

held : (c : In_ok-check_block-2) → Held c.args.received.now c.args.settled.now c.edges-edges.result
held c =
    let r = c.in_ok-checked.checked in
    blocks-held _ _ _ (rw c.edges-edges.ensures (plan-few _ r.passed)) (sym c.in_ok-check_block.ensures) (sym c.in_ok-check_block-2.ensures)

pub count_runs-count-requires : goal.count_runs-count-requires
count_runs-count-requires c = held (goal.at.count_runs-count-requires c).In_ok-check_block-2

pub overflow_mul-count : goal.overflow_mul-count
overflow_mul-count c =
    let few = run_count-le (differs_at c.args.received.now c.args.settled.now) (c.edges-edges.result + 1) in
    omega (arith, c.count_runs-count.ensures, few, (held (goal.at.overflow_mul-count c).In_ok-check_block-2).few)

pub write_runs-requires-clause-held : goal.write_runs-requires-clause-held
write_runs-requires-clause-held c = held (goal.at.write_runs-requires-clause-held c).In_ok-check_block-2

-- ---- the outcomes

pub returns-in_err-checked : goal.returns-in_err-checked
returns-in_err-checked c =
    let refused = plan-refused _ _ c.check_plan.ensures _ c.in_err-checked.was in
    rw (passed-on _ _ c.from_residual.ensures.1) (outcome-plan (plan_in c.args.plan) c.args.received.now c.args.settled.now c.args.list.now _ _ refused)

pub returns-in_err-check_block : goal.returns-in_err-check_block
returns-in_err-check_block c =
    let args = c.args in
    let r = c.in_ok-checked.checked in
    rw (passed-on _ _ c.from_residual-in_err-check_block.ensures.1, ← c.in_ok-checked.ensures.parts)
    (outcome-received _ args.received.now args.settled.now args.list.now r.passed c.edges-edges.ensures _ _ (sym c.in_err-check_block.ensures))

pub returns-in_err-check_block-2 : goal.returns-in_err-check_block-2
returns-in_err-check_block-2 c =
    let args = c.args in
    let r = c.in_ok-checked.checked in
    rw (passed-on _ _ c.from_residual-in_err-check_block-2.ensures.1, ← c.in_ok-checked.ensures.parts)
    (outcome-settled _ args.received.now args.settled.now args.list.now r.passed c.edges-edges.ensures (sym c.in_ok-check_block.ensures) _ _
    (sym c.in_err-check_block-2.ensures))

pub returns-then-list-count : goal.returns-then-list-count
returns-then-list-count c =
    let args = c.args in
    let r = c.in_ok-checked.checked in
    rw (← c.in_ok-checked.ensures.parts)
    (outcome-short _ args.received.now args.settled.now args.list.now r.passed c.edges-edges.ensures (sym c.in_ok-check_block.ensures)
    (sym c.in_ok-check_block-2.ensures) _ c.count_runs-count.ensures c.if-list-count.true)

pub returns : goal.returns
returns c =
    let args = c.args in
    let r = c.in_ok-checked.checked in
    rw (← c.in_ok-checked.ensures.parts)
    (outcome-done _ args.received.now args.settled.now args.list.now r.passed c.edges-edges.ensures (sym c.in_ok-check_block.ensures)
    (sym c.in_ok-check_block-2.ensures) _ c.count_runs-count.ensures _ c.if-list-count.false c.write_runs.ensures)
