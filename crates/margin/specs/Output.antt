-- The plan in the input of the program `margin`. The first line that it writes is the plan's refusal or its numbers (`numbers_answer`), then
-- comes a line with F and its sweeps (`margin_of`) for each covered F, and the last line has the first F that is not covered (`beyond`).
--   plan_part input      the plan in an input: its sheets, its numbers of vertices and its wiring
use Rattle.std.specs.Prelude.{ℕ, ◌-◌, List, take, drop}
use Rattle.wiring.specs.Plan.{Plan, plan_of}
use Rattle.margin.specs.Input.{input_parts}
use Rattle.margin.specs.declared.margin_input.MarginInput.{MarginInput}

abbrev pub plan_part : List ℕ → Plan
plan_part input =
    let parts : MarginInput = input_parts input in
    plan_of (take parts.left input) (take (parts.right - parts.left) (drop parts.left input)) parts.nl parts.nr
    (drop parts.wiring input)
