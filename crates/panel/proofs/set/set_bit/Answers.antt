-- `panel::set_bit` meets its contract: the block is lent on with the bit to set, and where the bit is set the count moves by the change that is
-- told.
use Rattle.std.proofs.Common.{[], ◌∷◌, arith}
use Rattle.inner_code.specs.Reply.{done}
use Rattle.inner_code.proofs.Replies.{passed-on}
use Rattle.wiring.specs.PlanParts.{plan_in}
use Rattle.panel.proofs.Returns.{SetLent, set-lent, set-too-short, set-block-refused, set-low, set-put}
use Rattle.panel.proofs.set.set_bit.Goals as goal
use Rattle.panel.proofs.set.set_bit.Goals.{In_ok-change}

pub returns-then-state-lt-HEAD : goal.returns-then-state-lt-HEAD
returns-then-state-lt-HEAD c = set-too-short (plan_in c.args.plan) _ _ c.args.state.now c.if-state-lt-HEAD.true c.refuse_short.ensures

-- ---- the block is lent on

pub returns-in_err-change : goal.returns-in_err-change
returns-in_err-change c =
    rw (passed-on _ _ c.from_residual.ensures.1)
    (set-block-refused (plan_in c.args.plan) _ _ c.args.state.now
    (set-lent _ _ _ _ c.if-state-lt-HEAD.false c.one_or_zero.ensures c.in_err-change.ensures.result_value c.in_err-change.ensures.block_after))

module _ (c : In_ok-change) where
  lent : SetLent (plan_in c.args.plan) c.args.bit c.args.value c.args.state.now (done (c.in_ok-change.change ∷ [])) c.set_bit.new.block
  lent = set-lent _ _ _ _ c.if-state-lt-HEAD.false c.one_or_zero.ensures c.in_ok-change.ensures.result_value c.in_ok-change.ensures.block_after

pub overflow_add-shown : goal.overflow_add-shown
overflow_add-shown c = omega (arith, set-low _ _ _ _ (lent (goal.at.overflow_add-shown c).In_ok-change))

pub returns : goal.returns
returns c =
    set-put _ _ _ _ (lent (goal.at.returns c).In_ok-change) c.if-state-lt-HEAD.false _ c.read_head-head.ensures.count_value.0 c.put_head.ensures
