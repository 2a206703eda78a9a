-- `unsatisfied::missed_on` meets its contract: after v turns the vertices before v that fail the code's test are counted, and of a checked plan
-- these are the unsatisfied ones.
use Rattle.std.proofs.Common.{◌≡◌, ◌<◌, ◌≤◌, arith, ◌∙◌}
use Rattle.wiring.specs.Plan.{count_of}
use Rattle.wiring.specs.PlanParts.{plan_in}
use Rattle.wiring.proofs.Plans.{plan-fits}
use Rattle.wiring.proofs.VertexAccess.{plan-readable}
use Rattle.wiring.proofs.Blocks.{block_room}
use Rattle.unsatisfied.proofs.VertexTests.{up-to-none, up-to-one-more, up-to-defined}
use Rattle.unsatisfied.proofs.count.missed_on.Goals as goal

pub loop-v-init : goal.loop-v-init
loop-v-init c = record { few = omega arith; counted = up-to-none _ _ _ _ }

pub missed_at-count-requires : goal.missed_at-count-requires
missed_at-count-requires c =
    let plan = plan_in c.args.plan.parts in
    let within : c.loop-v.v < count_of plan c.args.side = rw c.side-code.ensures at c.loop-v-test.true in
    rw c.side-code.ensures (plan-readable plan c.args.plan.passed _ (block_room _ _ c.requires) c.args.side _ within)

pub loop-v-preserved : goal.loop-v-preserved
loop-v-preserved c =
    let turn = c.loop-v.invariant in
    record { few = omega arith; counted = up-to-one-more _ _ _ _ _ _ _ turn.counted c.missed_at-count.ensures.0 }

pub returns : goal.returns
returns c =
    let plan = plan_in c.args.plan.parts in
    let all : c.loop-v.v ≡ c.side-code.result.n = omega arith in
    let few : c.side-code.result.n ≤ 2048 = rw c.side-code.ensures (plan-fits plan c.args.plan.passed c.args.side).n-high in
    record {
      counted = rw all at c.loop-v.invariant.counted ∙ up-to-defined plan c.args.plan.passed c.args.side c.args.block.now c.side-code.ensures;
      few = omega arith;
    }
