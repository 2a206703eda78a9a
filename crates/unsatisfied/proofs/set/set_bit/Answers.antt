-- `unsatisfied::set_bit` meets its contract: each return is the outcome of the first of plan, block and bit that refuses; a bit that has its
-- value already is kept, and one that has not is turned.
use Rattle.std.proofs.Common.{sym, ◌∙◌}
use Rattle.inner_code.proofs.Replies.{passed-on}
use Rattle.wiring.specs.PlanParts.{plan_in}
use Rattle.wiring.proofs.Plans.{plan-refused}
use Rattle.unsatisfied.proofs.Answers.{bit-plan-refused, bit-block-refused, bit_past, bit_kept, bit-turned}
use Rattle.unsatisfied.proofs.set.set_bit.Goals as goal

pub returns-in_err-checked : goal.returns-in_err-checked
returns-in_err-checked c =
    rw (passed-on _ _ c.from_residual.ensures.1) (bit-plan-refused _ _ _ _ _ _ (plan-refused _ _ c.check_plan.ensures _ c.in_err-checked.was))

pub returns-in_err-check_block : goal.returns-in_err-check_block
returns-in_err-check_block c =
    let r = c.in_ok-checked.checked in
    rw (passed-on _ _ c.from_residual-in_err-check_block.ensures.1, ← c.in_ok-checked.ensures.parts)
    (bit-block-refused (plan_in r.parts) _ _ _ r.passed _ _ (rw c.edges-edges.ensures at (sym c.in_err-check_block.ensures)))

pub returns-then-edges-bit : goal.returns-then-edges-bit
returns-then-edges-bit c =
    let r = c.in_ok-checked.checked in
    let pass = rw c.edges-edges.ensures at (sym c.in_ok-check_block.ensures) in
    rw (← c.in_ok-checked.ensures.parts) (bit_past (plan_in r.parts) _ _ _ r.passed pass (rw c.edges-edges.ensures at c.if-edges-bit.true))

pub returns-then-bit-value : goal.returns-then-bit-value
returns-then-bit-value c =
    let r = c.in_ok-checked.checked in
    let pass = rw c.edges-edges.ensures at (sym c.in_ok-check_block.ensures) in
    rw (← c.in_ok-checked.ensures.parts)
    (bit_kept (plan_in r.parts) _ _ _ r.passed pass (rw c.edges-edges.ensures at c.if-edges-bit.false) (sym c.bit.ensures ∙ c.if-bit-value.true))

pub returns : goal.returns
returns c =
    let r = c.in_ok-checked.checked in
    let pass = rw c.edges-edges.ensures at (sym c.in_ok-check_block.ensures) in
    rw (← c.in_ok-checked.ensures.parts)
    (bit-turned (plan_in r.parts) _ _ _ r.passed pass (rw c.edges-edges.ensures at c.if-edges-bit.false) (λ e. c.if-bit-value.false (c.bit.ensures ∙ e))
    c.turn_counted.ensures.value c.turn_counted.ensures.block_after)
