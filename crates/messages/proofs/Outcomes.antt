-- What the search for an unsatisfied vertex says of a block of an accepted plan.
--   located_by ..        what the search finds (wiring specs Access)
--   place_found found   the vertex found, as values (wiring specs Answer)
-- Laws are named `located-`, then by the fact.
use Rattle.std.proofs.Common.{Option, Some, None, is_some, Bool, true, false, not, List, ◌≡◌, refl, sym, ◌∙◌, ℕ}
use Rattle.wiring.specs.Plan.{Plan, side_of}
use Rattle.wiring.specs.Block.{is_codeword_block}
use Rattle.wiring.specs.Access.{both_codes, located_by}
use Rattle.wiring.specs.Answer.{place_found}
use Rattle.wiring.specs.declared.parts.CheckedPlan.{CheckedPlan}
use Rattle.wiring.specs.declared.side.Vertex.{Vertex}
use Rattle.wiring.proofs.Plans.{PlanAccepted}
use Rattle.wiring.proofs.CodewordBlocks.{located-none, located-some}
use Rattle.wiring.proofs.Locating.{located-told}

-- the block is a codeword exactly if no vertex is found
pub located-codeword : {plan : Plan} {r : CheckedPlan} → PlanAccepted plan r → (block : List ℕ) (found : Option Vertex)
    → place_found found ≡ located_by (both_codes r.left r.right) plan.wiring block → is_codeword_block (side_of plan) block ≡ not (is_some found)
located-codeword {plan} {r} a block None e = located-some (side_of plan) block (sym (located-told plan r block a) ∙ sym e)
located-codeword {plan} {r} a block (Some v) e = go _ refl
  where
    go : (t : Bool) → is_codeword_block (side_of plan) block ≡ t → is_codeword_block (side_of plan) block ≡ false
    go false q = q
    go true q = let none = e ∙ located-told plan r block a ∙ located-none (side_of plan) block q in absurd (cc)
