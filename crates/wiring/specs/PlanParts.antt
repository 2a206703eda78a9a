-- The parts of a plan that a caller hands in.
--   plan_in parts   the plan of these parts, as they are at the call
use Rattle.wiring.specs.Plan.{Plan, plan_of}
use Rattle.wiring.specs.declared.parts.PlanParts.{PlanParts}

abbrev pub plan_in : PlanParts → Plan
plan_in p = plan_of p.left_sheet.now p.right_sheet.now p.nl p.nr p.wiring.now
