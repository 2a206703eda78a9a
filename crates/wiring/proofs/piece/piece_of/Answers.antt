-- `wiring::piece_of` meets its contract: an accepted wiring holds the entries of every right vertex, and the part is theirs.
use Rattle.std.proofs.Common.{arith, ◌≡◌, refl, sym, ap, ℕ, ◌+◌, ◌*◌, ◌≤◌, ◌<◌, length}
use Rattle.inner_code.specs.Sheet.{degree}
use Rattle.wiring.specs.Plan.{right}
use Rattle.wiring.specs.PlanParts.{plan_in}
use Rattle.wiring.specs.declared.side.SideCode.{SideCode}
use Rattle.wiring.proofs.Permutation.{fitted-vertex}
use Rattle.wiring.proofs.Plans.{PlanAccepted, plan-checked, plan-refused, piece-refused, piece-past, piece-part}
use Rattle.wiring.proofs.piece.piece_of.Goals as goal
use Rattle.wiring.proofs.piece.piece_of.Goals.{In-Ok}

plan : (c : In-Ok) → PlanAccepted (plan_in c.args.plan) c.in-Ok.checked
plan c = plan-checked _ _ c.check_plan.ensures _ c.in-Ok.is

d-is : (c : In-Ok) → c.in-Ok.checked.right.d ≡ degree c.args.plan.right_sheet.now
d-is c = ap (λ (x : SideCode). x.d) ((plan c).code_is right)

-- the piece ends where the wiring ends, or before
end-le : (c : In-Ok) → c.args.v < c.args.plan.nr
    → 2 * (c.args.v * c.in-Ok.checked.right.d) + 2 * c.in-Ok.checked.right.d ≤ length c.args.plan.wiring.now
end-le c below =
    omega (arith, fitted-vertex (plan c).plan-wired.right-fits c.args.v below, d-is c, ap (λ (x : ℕ). c.args.v * x) (d-is c))

pub overflow_mul-start : goal.overflow_mul-start
overflow_mul-start c = omega (arith, end-le (goal.at.overflow_mul-start c).In-Ok c.if-v-plan.true)

pub overflow_mul-start-then-v-plan : goal.overflow_mul-start-then-v-plan
overflow_mul-start-then-v-plan c = omega (arith, end-le (goal.at.overflow_mul-start-then-v-plan c).In-Ok c.if-v-plan.true)

pub overflow_mul-end : goal.overflow_mul-end
overflow_mul-end c = omega (arith, end-le (goal.at.overflow_mul-end c).In-Ok c.if-v-plan.true)

pub overflow_add-end : goal.overflow_add-end
overflow_add-end c = omega (arith, end-le (goal.at.overflow_add-end c).In-Ok c.if-v-plan.true)

pub slice_bounds-result-end-then-v-plan : goal.slice_bounds-result-end-then-v-plan
slice_bounds-result-end-then-v-plan c = end-le (goal.at.slice_bounds-result-end-then-v-plan c).In-Ok c.if-v-plan.true

pub returns-then-v-plan : goal.returns-then-v-plan
returns-then-v-plan c =
    let at = (goal.at.returns-then-v-plan c).In-Ok in
    piece-part _ _ _ _ _ (plan at).plan-done c.if-v-plan.true (d-is at) refl refl

pub returns-in-Err : goal.returns-in-Err
returns-in-Err c = sym (piece-refused _ _ _ _ (plan-refused _ _ c.check_plan.ensures _ c.in-Err.is))

pub returns-else-v-plan : goal.returns-else-v-plan
returns-else-v-plan c = sym (piece-past _ _ (plan (goal.at.returns-else-v-plan c).In-Ok).plan-done c.if-v-plan.false)
