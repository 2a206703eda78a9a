-- `margin::write_margins` hands the parts of the input on, which lie in order within it, and what it writes is what is answered for them.
use Rattle.std.proofs.Common.{sym, ap, ◌∙◌, arith, length-take-le}
use Rattle.radius.specs.Answer.{numbers_reply}
use Rattle.margin.proofs.MarginInputs.{parts_within}
use Rattle.margin.proofs.Outputs.{first-is}
use Rattle.margin.proofs.write_margins.Goals as goal

pub slice_bounds-plan-end : goal.slice_bounds-plan-end
slice_bounds-plan-end g c = sym (length-take-le _ _ (omega (arith, parts_within _ _ c.split_input-parts.ensures)))

pub slice_bounds-plan-count : goal.slice_bounds-plan-count
slice_bounds-plan-count g c = omega (arith, parts_within _ _ c.split_input-parts.ensures)

pub slice_bounds-plan-start : goal.slice_bounds-plan-start
slice_bounds-plan-start g c = omega (arith, parts_within _ _ c.split_input-parts.ensures)

pub slice_bounds-plan-end-2 : goal.slice_bounds-plan-end-2
slice_bounds-plan-end-2 g c = omega (arith, parts_within _ _ c.split_input-parts.ensures)

pub slice_bounds-plan-count-2 : goal.slice_bounds-plan-count-2
slice_bounds-plan-count-2 g c = omega (arith, parts_within _ _ c.split_input-parts.ensures)

pub slice_bounds-plan-start-2 : goal.slice_bounds-plan-start-2
slice_bounds-plan-start-2 g c = omega (arith, parts_within _ _ c.split_input-parts.ensures)

-- the parts are those of the input, so the plan's numbers are the input's
pub write_refusal-requires : goal.write_refusal-requires
write_refusal-requires g c = sym (ap numbers_reply c.in-Err.is) ∙ c.plan_numbers.ensures ∙ first-is _ _ c.split_input-parts.ensures

pub write_plan-requires : goal.write_plan-requires
write_plan-requires g c = sym (ap numbers_reply c.in-Ok.is) ∙ c.plan_numbers.ensures ∙ first-is _ _ c.split_input-parts.ensures
