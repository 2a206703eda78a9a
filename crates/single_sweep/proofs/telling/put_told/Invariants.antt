use Rattle.std.proofs.Common.{◌≡◌, ℕ, ◌+◌, ◌*◌}
use Rattle.inner_code.specs.Sheet.{degree}
use Rattle.wiring.specs.Plan.{Plan, sheet_of, side_of, side_bit, other}
use Rattle.wiring.specs.PlanParts.{plan_in}
use Rattle.unsatisfied.specs.Count.{unsatisfied_at}
use Rattle.words.specs.Words.{pattern_put}
use Rattle.words.proofs.Patterns.{Rest}
use Rattle.single_sweep.proofs.telling.put_told.Given as goal

abbrev pub invariant-loop-rest : goal.invariant-loop-rest
invariant-loop-rest l =
    let plan : Plan = plan_in l.plan.parts in
    let there = side_of plan (other l.side) in
    let digits : ℕ = degree (sheet_of plan l.side) in
    record {
      putting : Rest (side_bit l.side plan.wiring) digits (l.v * digits)
          (pattern_put (side_bit l.side plan.wiring) digits (l.v * digits) l.pattern digits l.initial.block) l.block l.rest;
      counted : l.told + unsatisfied_at there l.initial.block ≡ 65536 + unsatisfied_at there l.block;
    }

abbrev pub decreases-loop-rest : goal.decreases-loop-rest
decreases-loop-rest l = l.rest
