-- How large the spread of an accepted wiring can be. The sides may differ.
-- The notions, of specs/Spread.antt, and of wiring's Permutation:
--   meeting, unevenness, spread      the paper's meeting number G, a row sum of |nr·G - dl·dl|, and the largest of these, R
--   Joined N sides                   both sides have all N bits, the left one in their order
-- Names: the subject first (gap, meeting, unevenness, spread), then the fact. meeting-row is the sum of all meeting numbers of a left vertex.
use Rattle.std.proofs.Common.{ℕ, ◌+◌, ◌*◌, ◌≤◌, ◌<◌, ◌≡◌, ap, ◌∙◌, le_trans, arith}
use Rattle.bits.specs.Sum.{sum, gap}
use Rattle.bits.proofs.Sums.{sum-ext, sum_mono, sum-scale, sum-scale-right, sum-swap, sums}
use Rattle.wiring.specs.Plan.{Side, left, right}
use Rattle.wiring.specs.Wiring.{edges_between}
use Rattle.wiring.specs.declared.side.SideName.{SideName}
use Rattle.wiring.proofs.Permutation.{Joined}
use Rattle.wiring.proofs.Edges.{edges-column, edges-row}
use Rattle.meetings.specs.Spread.{meeting, unevenness, spread}
use Rattle.meetings.proofs.Graph.{spread-attained}

gap-most : (a b : ℕ) → gap a b ≤ a + b
unfolding gap
gap-most a b = omega arith

module _ {N : ℕ} {sides : SideName → Side} (g : Joined N sides) where
  -- each of the dl edges of u ends at a right vertex, which has dr edges of its own
  meeting-row : (u : ℕ) → u < (sides left).n → sum (sides left).n (λ w. meeting sides u w) ≡ (sides left).d * (sides right).d
  unfolding meeting
  meeting-row u l =
      sum-swap (sides left).n (sides right).n (λ w v. edges_between sides u v * edges_between sides w v)
      ∙ sum-ext (sides right).n _ (λ v. edges_between sides u v * (sides right).d)
      (λ v k. sum-scale (sides left).n (edges_between sides u v) _ ∙ ap (λ x. edges_between sides u v * x) (edges-column g v k))
      ∙ sum-scale-right (sides right).n (sides right).d _
      ∙ ap (λ x. x * (sides right).d) (edges-row g u l)

  unevenness-le : (u : ℕ) → u < (sides left).n
      → unevenness sides u ≤ (sides right).n * ((sides left).d * (sides right).d) + (sides left).n * ((sides left).d * (sides left).d)
  unfolding unevenness
  unevenness-le u l =
      le_trans
      (sum_mono (sides left).n _ (λ w. (sides right).n * meeting sides u w + (sides left).d * (sides left).d) (λ w k. gap-most _ _))
      (simp (sums, meeting-row u l) (omega arith))

  pub spread-le : 0 < (sides left).n
      → spread sides ≤ (sides right).n * ((sides left).d * (sides right).d) + (sides left).n * ((sides left).d * (sides left).d)
  spread-le some = let (u, l, e) = spread-attained sides some in rw e at (unevenness-le u l)
