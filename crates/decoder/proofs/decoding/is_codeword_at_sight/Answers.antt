-- `decoder::is_codeword_at_sight` meets its contract: of zeros nothing is left, and the test by the rows finds no vertex exactly where it answers
-- none.
use Rattle.std.proofs.Common.{◌≡◌, ℕ, refl, sym, ap, ◌∙◌, List, [], Option, None, Some, false, not, true≢false}
use Rattle.std.specs.Option.{is_some}
use Rattle.wiring.specs.Access.{both_codes, located_by}
use Rattle.wiring.specs.Answer.{place_found}
use Rattle.wiring.specs.Block.{located}
use Rattle.wiring.specs.Plan.{side_of}
use Rattle.wiring.specs.PlanParts.{plan_in}
use Rattle.wiring.specs.declared.parts.CheckedPlan.{CheckedPlan}
use Rattle.wiring.specs.declared.side.Vertex.{Vertex}
use Rattle.wiring.proofs.Blocks.{block_room}
use Rattle.wiring.proofs.Locating.{located-told, located-zero}
use Rattle.wiring.proofs.Plans.{plan-accepted}
use Rattle.wiring.proofs.VertexAccess.{codes-readable}
use Rattle.decoder.proofs.decoding.is_codeword_at_sight.Goals as goal

-- where the code finds no vertex, there is none
nowhere : (p : CheckedPlan) (block : List ℕ) → located_by (both_codes p.left p.right) p.parts.wiring.now block ≡ []
    → located (side_of (plan_in p.parts)) block ≡ []
nowhere p block none = sym (located-told (plan_in p.parts) p block (plan-accepted p)) ∙ none

none-found : (found : Option Vertex) → is_some found ≡ false → place_found found ≡ []
none-found None e = refl
none-found (Some v) e = absurd (true≢false e)

pub returns-then-is_zero : goal.returns-then-is_zero
returns-then-is_zero c e = nowhere c.args.plan.now _ (located-zero _ _ _ (c.is_zero.ensures.when_true c.if-is_zero.true))

pub returns-then-block-gt-SMALL_BLOCK : goal.returns-then-block-gt-SMALL_BLOCK
returns-then-block-gt-SMALL_BLOCK c e = absurd (true≢false (sym e))

pub first_unsatisfied-requires : goal.first_unsatisfied-requires
first_unsatisfied-requires c =
    let plan = c.args.plan.now in
    codes-readable (plan_in plan.parts) plan.passed _ (block_room _ _ c.requires) plan.left_is plan.right_is

pub returns : goal.returns
returns c e =
    nowhere c.args.plan.now _ (sym c.first_unsatisfied.ensures ∙ none-found c.first_unsatisfied.result (c.is_none.ensures ∙ ap not e))
