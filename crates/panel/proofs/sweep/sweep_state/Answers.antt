-- `panel::sweep_state` meets its contract: a settled state is kept, one that has made all its sweeps is turned back, and any other lends its
-- block on to one sweep, by whose change its count moves. All of them follow the check of the state.
use Rattle.std.proofs.Common.{◌≤◌, [], ◌∷◌, sym, arith}
use Rattle.inner_code.specs.Reply.{done}
use Rattle.inner_code.proofs.Replies.{passed-on}
use Rattle.wiring.specs.PlanParts.{plan_in}
use Rattle.panel.proofs.Returns.{SweptLent, sweep-lent, sweep-too-short, sweep-state-refused, sweep-block-refused}
use Rattle.panel.proofs.Returns.{sweep-settled, sweep-over, sweep-low, sweep-put}
use Rattle.panel.proofs.sweep.sweep_state.Goals as goal
use Rattle.panel.proofs.sweep.sweep_state.Goals.{In_ok-change, then-settled-via-then-settled, then-settled-via-else-settled+then-head-ge-MAX_SWEEPS}

pub returns-then-state-lt-HEAD : goal.returns-then-state-lt-HEAD
returns-then-state-lt-HEAD c = sweep-too-short (plan_in c.args.plan) c.args.state.now c.if-state-lt-HEAD.true c.refuse_short.ensures

-- ---- a state whose count and sweep number are read

pub returns-in_err-check_state : goal.returns-in_err-check_state
returns-in_err-check_state c =
    rw (passed-on _ _ c.from_residual.ensures.1) (sweep-state-refused (plan_in c.args.plan) c.args.state.now c.in_err-check_state.ensures)

pub returns-then-settled-2 : goal.returns-then-settled-2
returns-then-settled-2 c =
    sweep-settled (plan_in c.args.plan) c.args.state.now c.read_head-head.ensures.count_value.0 c.read_head-head.ensures.sweeps_value.0
    (sym c.in_ok-check_state.ensures) c.if-settled-2.true

pub returns-then-settled : goal.returns-then-settled
returns-then-settled c =
    let spent : 4096 ≤ c.read_head-head.result.sweeps = elim c.then-settled.branch [
      | then-settled-via-then-settled w ↦ absurd (c.if-settled-2.false w.if-settled.true)
      | then-settled-via-else-settled+then-head-ge-MAX_SWEEPS w ↦ w.if-head-ge-MAX_SWEEPS.true
    ] in
    sweep-over (plan_in c.args.plan) c.args.state.now c.read_head-head.ensures.count_value.0 c.read_head-head.ensures.sweeps_value.0
    (sym c.in_ok-check_state.ensures) c.if-settled-2.false spent

-- ---- the block is lent on

pub returns-in_err-change : goal.returns-in_err-change
returns-in_err-change c =
    rw (passed-on _ _ c.from_residual-in_err-change.ensures.1)
    (sweep-block-refused (plan_in c.args.plan) c.args.state.now
    (sweep-lent _ _ c.read_head-head.ensures.sweeps_value.0 c.if-state-lt-HEAD.false c.side_at.ensures
    c.in_err-change.ensures.result_value c.in_err-change.ensures.block_after))

module _ (c : In_ok-change) where
  lent : SweptLent (plan_in c.args.plan) c.args.state.now (done (c.in_ok-change.change ∷ [])) c.sweep_once.new.block
  lent =
      sweep-lent _ _ c.read_head-head.ensures.sweeps_value.0 c.if-state-lt-HEAD.false c.side_at.ensures
      c.in_ok-change.ensures.result_value c.in_ok-change.ensures.block_after

pub overflow_add-shown : goal.overflow_add-shown
overflow_add-shown c = omega (arith, sweep-low _ _ (lent (goal.at.overflow_add-shown c).In_ok-change))

pub returns : goal.returns
returns c =
    sweep-put _ _ (lent (goal.at.returns c).In_ok-change) c.read_head-head.ensures.count_value.0 c.read_head-head.ensures.sweeps_value.0
    c.if-state-lt-HEAD.false c.if-settled.false c.if-head-ge-MAX_SWEEPS.false c.put_head.ensures
