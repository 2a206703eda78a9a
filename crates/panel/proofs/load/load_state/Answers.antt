-- `panel::load_state` meets its contract: a block whose vertices are not counted, or that finds no room, is turned back, and any other is put
-- behind its count.
use Rattle.std.proofs.Common.{◌+◌, ◌<◌, length, arith}
use Rattle.inner_code.proofs.Replies.{passed-on}
use Rattle.wiring.specs.PlanParts.{plan_in}
use Rattle.panel.proofs.Returns.{load-block-refused, load-no-room, load_low, load-put}
use Rattle.panel.proofs.load.load_state.Goals as goal
use Rattle.panel.proofs.load.load_state.Goals.{then-state-lt-HEAD-via-then-state-lt-HEAD, then-state-lt-HEAD-via-else-state-lt-HEAD+then-state-block}

pub returns-in_err-count : goal.returns-in_err-count
returns-in_err-count c =
    rw (passed-on _ _ c.from_residual.ensures.1) (load-block-refused (plan_in c.args.plan) c.args.block.now c.args.state.now c.in_err-count.ensures)

-- ---- the block is counted

pub returns-then-state-lt-HEAD : goal.returns-then-state-lt-HEAD
returns-then-state-lt-HEAD c =
    let short : length c.args.state.now < 4 + length c.args.block.now = elim c.then-state-lt-HEAD.branch [
      | then-state-lt-HEAD-via-then-state-lt-HEAD w ↦ omega arith
      | then-state-lt-HEAD-via-else-state-lt-HEAD+then-state-block w ↦ omega arith
    ] in
    load-no-room (plan_in c.args.plan) c.args.block.now c.args.state.now c.in_ok-count.ensures short

pub put_head-requires : goal.put_head-requires
put_head-requires c =
    record {
      in_bounds = omega arith;
      count_bound = load_low (plan_in c.args.plan) c.args.block.now c.in_ok-count.ensures;
      sweeps_bound = omega arith;
    }

pub returns : goal.returns
returns c =
    load-put (plan_in c.args.plan) c.args.block.now c.args.state.now c.in_ok-count.ensures (omega arith) c.put_head.ensures c.copy_front.ensures
