-- The places of the edges: the entries of the wiring where they stand.
--   PlacesNoted wiring places    the list holds, at each edge, the entry of the wiring where it stands (specs Places)
--   place_of N side e             the entry of a side that has the bit e (Permutation)
-- Laws are named by their subject, `places-`, then by the fact: `-lt` is a bound, `-bit` what stands at a place, `-more` one more that is noted.
use Rattle.std.proofs.Common.{ℕ, ◌+◌, ◌<◌, List, [], ◌≡◌, sym, ap, ◌∙◌, arith, length, set}
use native.Mathlib.Decide.{ℕ_discrete}
use Rattle.bits.specs.Window.{at}
use Rattle.inner_code.specs.Reply.{done}
use Rattle.wiring.specs.Plan.{Plan, edge_count, side_of, side_bit, right}
use Rattle.wiring.specs.Wiring.{plan_check}
use Rattle.wiring.specs.Places.{PlacesNoted}
use Rattle.bits.proofs.Lists.{at_set_same, at_set_other}
use Rattle.wiring.proofs.Permutation.{place_of, place-lt, bit-place}
use Rattle.wiring.proofs.Plans.{plan-whole, plan-entries}

-- an edge stands at its place
module _ (plan : Plan) (accepted : plan_check plan ≡ done []) {places : List ℕ} (noted : PlacesNoted plan.wiring places) (e : ℕ)
    (below : e < edge_count plan) where
  places-edge : at places e ≡ place_of (edge_count plan) (side_of plan right) e
  unfolding side_bit
  places-edge =
      let w = plan-whole plan accepted right in
      ap (at places) (sym (bit-place w e below)) ∙ noted.each _ (rw (plan-entries plan accepted) (place-lt w e below))

  pub places-lt : at places e < edge_count plan
  places-lt = rw places-edge (place-lt (plan-whole plan accepted right) e below)

  pub places-bit : e ≡ (side_of plan right).bit (at places e)
  places-bit = sym (ap (side_of plan right).bit places-edge ∙ bit-place (plan-whole plan accepted right) e below)

-- one more place that is noted
pub places-more : (edge : ℕ → ℕ) (places : List ℕ) (i e : ℕ) {after : List ℕ} → e ≡ edge i → edge i < length places
    → ((j : ℕ) → j < i → edge j ≡ edge i → ⊥) → ((j : ℕ) → j < i → at places (edge j) ≡ j)
    → after ≡ set places e i → (j : ℕ) → j < i + 1 → at after (edge j) ≡ j
places-more edge places i e {after} is below once so_far noted j l =
    ap (λ (l : List ℕ). at l (edge j)) (noted ∙ ap (λ (x : ℕ). set places x i) is)
    ∙ elim (ℕ_discrete j i) [
      | yes same ↦ rw same (at_set_same places (edge i) i below)
      | no apart ↦ at_set_other places (edge i) (edge j) i (once j (omega arith)) ∙ so_far j (omega arith)
    ]
