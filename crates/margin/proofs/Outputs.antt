-- Laws of the numbers that the program `margin` writes for an input.
-- The notions:
--   plan_part input                         the plan in an input
--   numbers_answer, margin_of, beyond        of radius: the first line, the sweeps in the line of F, the first F that is not covered
--   InRange p, measures_by p                of radius: nine numbers in the range that has every plan's, and the measures that they give
-- `first-` laws speak of the first line, `numbers-` laws of its numbers, `line-` laws of the lines of covered F (-covered, -sweeps), `last-`
-- laws of the last line.
use Rattle.std.proofs.Common.{Ok, ℕ, ◌-◌, ◌<◌, List, [], ◌≡◌, refl, ap, ◌∙◌, le_refl, length, take, drop, length-drop}
use Rattle.std.proofs.Common.{take_all}
use Rattle.inner_code.specs.Reply.{done}
use Rattle.wiring.specs.Plan.{plan_of}
use Rattle.wiring.specs.Wiring.{plan_check}
use Rattle.radius.specs.Margin.{Measures, sweeps_named, beyond}
use Rattle.radius.specs.Answer.{measures_of, margin_of, numbers_of, in_order, numbers_answer}
use Rattle.radius.specs.Ranges.{measures_by, InRange}
use Rattle.radius.specs.declared.numbers.PlanNumbers.{PlanNumbers}
use Rattle.radius.proofs.MeasuredNumbers.{numbers-known}
use Rattle.radius.proofs.PlanRanges.{measures-plan, plan-within}
use Rattle.radius.proofs.Uncovered.{beyond-covers}
use Rattle.margin.specs.Input.{input_parts}
use Rattle.margin.specs.declared.margin_input.MarginInput.{MarginInput}
use Rattle.margin.specs.Output.{plan_part}

-- the answer for the parts that lie where `input_parts` says is that for the input
pub first-is : (input : List ℕ) (p : MarginInput) → p ≡ input_parts input
    → numbers_answer
    (plan_of (take p.left input) (take (p.right - p.left) (drop p.left input)) p.nl p.nr
    (take (length input - p.wiring) (drop p.wiring input)))
    ≡ numbers_answer (plan_part input)
first-is input p e =
    rw (e, take_all (length input - (input_parts input).wiring) (plan_part input).wiring (simp length-drop (le_refl (length input - (input_parts input).wiring))))

-- what is below the first F that is not covered names sweeps
pub line-covered : (input : List ℕ) (F : ℕ) → F < beyond (measures_of (plan_part input)) → 0 < margin_of (plan_part input) F
line-covered input F l = beyond-covers _ F l

module _ (input : List ℕ) (p : PlanNumbers) (numbers : done (in_order p) ≡ numbers_answer (plan_part input)) where
  known : (plan_check (plan_part input) ≡ done []) × (p ≡ numbers_of (plan_part input))
  known = numbers-known _ (Ok p) p numbers refl

  pub numbers-within : InRange p
  numbers-within = rw known.1 (plan-within _ known.0)

  -- the numbers give the measures of the plan in the input
  measures : measures_by p ≡ measures_of (plan_part input)
  measures = ap measures_by known.1 ∙ measures-plan (plan_part input)

  pub line-sweeps : (F sweeps : ℕ) → sweeps ≡ sweeps_named (measures_by p) F → sweeps ≡ margin_of (plan_part input) F
  line-sweeps F sweeps e = e ∙ ap (λ (m : Measures). sweeps_named m F) measures

  pub last-is : (F : ℕ) → F ≡ beyond (measures_by p) → F ≡ beyond (measures_of (plan_part input))
  last-is F e = e ∙ ap beyond measures
