-- `sweeps::word_of` meets its contract: the word of a left vertex is read from the block, that of a right vertex is kept.
use Rattle.std.proofs.Common.{◌<◌, arith}
use Rattle.bits.specs.Window.{at}
use Rattle.wiring.specs.PlanParts.{plan_in}
use Rattle.wiring.proofs.Plans.{plan-fits}
use Rattle.words.proofs.Degrees.{left-degree, left-fits}
use Rattle.sweeps.proofs.Visiting.{left-read}
use Rattle.sweeps.proofs.sweep.word_of.Goals as goal
use Rattle.sweeps.proofs.sweep.word_of.Goals.{Start}

vertex-few : (c : Start) → c.args.vertex.v < 2048
vertex-few c = omega (arith, c.requires.v_bound, (plan-fits (plan_in c.args.plan.now.parts) c.args.plan.now.passed c.args.vertex.side).n-high)

pub left_word-requires : goal.left_word-requires
left_word-requires c =
    record { v_bound = vertex-few (goal.at.left_word-requires c).Start; d_bound = (left-fits c.args.plan.now).d-high }

pub offset_bounds-kept-v : goal.offset_bounds-kept-v
offset_bounds-kept-v c = omega (arith, vertex-few (goal.at.offset_bounds-kept-v c).Start)

pub bounds-kept-v : goal.bounds-kept-v
bounds-kept-v c = omega (arith, vertex-few (goal.at.bounds-kept-v c).Start)

pub returns-in-Left : goal.returns-in-Left
returns-in-Left c = rw c.in-Left.is (left-read (plan_in c.args.plan.now.parts) _ _ (left-degree c.args.plan.now) c.left_word.ensures)

pub returns-in-Right : goal.returns-in-Right
unfolding at
returns-in-Right c =
    let below : c.args.vertex.v < c.args.plan.now.parts.nr = rw c.in-Right.is at c.requires.v_bound in
    rw c.in-Right.is (c.requires.words_read.each _ below)
