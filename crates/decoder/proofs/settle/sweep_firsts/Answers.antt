-- `decoder::sweep_firsts` meets its contract: the left side is swept by itself, and the right side by the words that it then reads, with no vertex
-- marked at first.
use Rattle.wiring.specs.Plan.{left, right}
use Rattle.wiring.specs.PlanParts.{plan_in}
use Rattle.words.proofs.Marks.{cleared-listening}
use Rattle.wiring.proofs.Plans.{plan-whole}
use Rattle.sweeps.proofs.Sweeping.{sweep-block}
use Rattle.sweeps.proofs.Visiting.{ready-side, ready-left-swept}
use Rattle.decoder.proofs.settle.sweep_firsts.Goals as goal

pub sweep_first-first-requires : goal.sweep_first-first-requires
sweep_first-first-requires c = ready-side (plan_in c.args.plan.now.parts) c.args.plan.now.passed left c.requires.ready.left-finds

-- the block that the first sweep leaves is one of the plan's
pub read_words-requires : goal.read_words-requires
read_words-requires c =
    let whole = plan-whole (plan_in c.args.plan.now.parts) c.args.plan.now.passed left in
    record {
      block_value = rw c.sweep_first-first.ensures.side_swept.leaves (sweep-block whole c.args.block.now c.requires.block_value);
      cleared = c.clear_marks.ensures;
    }

pub sweep_right-second-requires : goal.sweep_right-second-requires
sweep_right-second-requires c =
    let read = c.read_words.ensures in
    record {
      ready = ready-left-swept c.requires.ready c.sweep_first-first.ensures.finds;
      listening = cleared-listening (plan_in c.args.plan.now.parts) c.args.plan.now.passed right read.words_read read.still_cleared;
    }
