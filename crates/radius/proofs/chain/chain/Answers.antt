-- `radius::chain` meets its contract: at the loop's head b stands at `place` in the chain, which steps to the side `to` next, so the
-- answer is `counted place` of what is still to come, and a covered step makes b smaller.
use Rattle.std.proofs.Common.{ℕ, ◌+◌, ◌-◌, ◌*◌, ◌/◌, ◌<◌, true, ◌≡◌, sym, ap, ap₂, ◌∙◌, arith, rules}
use Rattle.radius.specs.Margin.{slack, step_covered, next_bound}
use Rattle.radius.specs.Ranges.{measures_by}
use Rattle.wiring.specs.Plan.{right}
use Rattle.wiring.specs.declared.side.SideName.{SideName}
use Rattle.radius.proofs.MarginChain.{sweeps_from, covered-slack, next-falls, slack-covered}
use Rattle.radius.proofs.ChainWalk.{counted, walk-starts, walk_steps, walk-stops, walk_ends}
use Rattle.radius.proofs.chain.chain.Goals as goal
use Rattle.radius.proofs.chain.chain.Goals.{After-distance_to}

-- ---- a turn: the call and the loop's head, and from these the step that the turn takes

-- A as the code has it, with the distance of the side that the step goes to
abbrev A : After-distance_to → ℕ
A c = c.distance_to.result * c.args.plan.nr - 2 * c.args.plan.dl * c.loop-b.b

-- what its square has to be above
abbrev limit : After-distance_to → ℕ
limit c = 4 * c.args.plan.nr * c.args.plan.spread

slack-is : (c : After-distance_to) → slack (measures_by c.args.plan) c.loop-b.to c.loop-b.b ≡ A c
unfolding slack
slack-is c = ap (λ (D : ℕ). D * c.args.plan.nr - 2 * c.args.plan.dl * c.loop-b.b) (sym c.distance_to.ensures)

next-is : (c : After-distance_to) → next_bound (measures_by c.args.plan) c.loop-b.to c.loop-b.b ≡ limit c * c.loop-b.b / (A c * A c)
unfolding next_bound
next-is c = rw (slack-is c)

-- where neither test has returned, the step from b is covered
covered : (c : After-distance_to) → 0 < A c → limit c < A c * A c → step_covered (measures_by c.args.plan) c.loop-b.to c.loop-b.b ≡ true
covered c some above = slack-covered _ _ _ (rw (slack-is c) some) (rw (slack-is c) above)

falls : (c : After-distance_to) → 0 < A c → limit c < A c * A c → limit c * c.loop-b.b / (A c * A c) < c.loop-b.b
falls c some above = rw (next-is c) at (next-falls _ _ _ (covered c some above) c.loop-b-test.true)

-- a step that is not covered ends the walk
stops : (c : After-distance_to) → ((0 < A c) × (limit c < A c * A c) → ⊥) → 0 ≡ sweeps_from (measures_by c.args.plan) right c.args.first
stops c never =
    sym (walk-stops _ _ _ _ _ c.loop-b.invariant.1 c.loop-b-test.true (λ step. never (rw (slack-is c) at (covered-slack _ _ _ step))))

pub loop-b-init : goal.loop-b-init
loop-b-init c = (search rules, walk-starts _)

pub returns-then-whole-taken : goal.returns-then-whole-taken
returns-then-whole-taken c = stops (goal.at.returns-then-whole-taken c).After-distance_to (λ step. omega arith)

pub returns-then-square-limit : goal.returns-then-square-limit
returns-then-square-limit c = stops (goal.at.returns-then-square-limit c).After-distance_to (λ step. omega (arith, step.1))

pub loop-b-smaller : goal.loop-b-smaller
loop-b-smaller c = falls (goal.at.loop-b-smaller c).After-distance_to (omega arith) c.if-square-limit.false

pub loop-b-preserved : goal.loop-b-preserved
loop-b-preserved c =
    let step = (goal.at.loop-b-preserved c).After-distance_to in
    let some : 0 < A step = omega arith in
    let smaller = falls step some c.if-square-limit.false in
    let from = sweeps_from (measures_by c.args.plan) in (
      omega (arith, smaller),
      walk_steps _ _ _ _ _ c.loop-b.invariant.1 c.loop-b-test.true (covered step some c.if-square-limit.false)
          ∙ ap₂ (λ (to : SideName) (b : ℕ). counted (c.loop-b.place + 1) (from to b)) (sym c.other-to.ensures) (next-is step),
    )

pub returns : goal.returns
returns c = sym (walk_ends _ _ _ _ _ c.loop-b.invariant.1 (omega arith))
