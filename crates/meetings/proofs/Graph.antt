-- The spread of an accepted wiring bounds how unevenly edges fall between two sets of vertices. The sides may differ.
-- The notions, of specs/Spread.antt, wiring's Permutation and Edges:
--   edges_between sides u v           the number of edges between left vertex u and right vertex v (wiring specs Wiring)
--   meeting, unevenness, spread      the paper's meeting number G, a row sum of |nr·G - dl·dl|, and the largest of these, R
--   size n S, edges_inside ..         how many vertices are in S; how many edges run between S and T
--   Joined N sides                   both sides have all N bits, the left one in their order
--   vertex_of N side e                the vertex of a side that has bit e
--   slack_by n d D b                  D·n - 2·d·b (PairBound)
-- Names: the subject first (spread, inside), then the fact.
--   spread-bounds, spread-attained, spread-even     the spread is the largest unevenness
--   inside-right, inside-left                       the edges between two sets, counted at their right or left ends
-- The theorems are pair-bound-joined, the pair bound of documents 01 and 02, its step from a set of one side to a set of the other,
-- step-joined, and the pair bound of every accepted plan, pair-bound-plan.
use Rattle.std.proofs.Common.{ℕ, ◌+◌, ◌*◌, ◌≤◌, ◌<◌, Bool, true, [], ◌≡◌, sym, ap, ◌∙◌, mul_assoc, mul_comm}
use Rattle.bits.specs.Sum.{sum, gap, flag}
use Rattle.bits.proofs.Sums.{sum-ext, sum-scale}
use Rattle.bits.proofs.Searches.{largest-bounds, largest-attained}
use Rattle.inner_code.specs.Reply.{done}
use Rattle.inner_code.specs.Sheet.{degree}
use Rattle.wiring.specs.Plan.{Plan, Side, left, right, side_of, other}
use Rattle.wiring.specs.Wiring.{edges_between, plan_check}
use Rattle.wiring.specs.declared.side.SideName.{SideName}
use Rattle.wiring.proofs.Permutation.{Joined, entry_lt}
use Rattle.wiring.proofs.Edges.{vertex_of, vertex-of-left, edges-into, edges-from, edges-row}
use Rattle.wiring.proofs.Plans.{plan-joined}
use Rattle.meetings.specs.Spread.{meeting, unevenness, spread, size, edges_inside}
use Rattle.meetings.proofs.PairBound.{slack_by, edges_into, inside-into, pair-bound, size-demand, step_left, step_right}

-- ---- the spread

module _ (sides : SideName → Side) where
  pub spread-bounds : (u : ℕ) → u < (sides left).n → unevenness sides u ≤ spread sides
  unfolding spread
  spread-bounds = largest-bounds (sides left).n (λ u. unevenness sides u)

  pub spread-attained : 0 < (sides left).n → (u : ℕ) × (u < (sides left).n) × (unevenness sides u ≡ spread sides)
  unfolding spread
  spread-attained = largest-attained (sides left).n (λ u. unevenness sides u)

  -- spread-bounds with the unevenness written out, as the pair bound takes it
  spread-even : (u : ℕ) → u < (sides left).n
      → sum (sides left).n
      (λ w. gap ((sides right).n * sum (sides right).n (λ v. edges_between sides u v * edges_between sides w v)) ((sides left).d * (sides left).d))
      ≤ spread sides
  unfolding unevenness meeting
  spread-even = spread-bounds

-- ---- an accepted wiring

module _ {N : ℕ} {sides : SideName → Side} (g : Joined N sides) where
  abbrev nl : ℕ
  nl = (sides left).n

  abbrev nr : ℕ
  nr = (sides right).n

  abbrev dl : ℕ
  dl = (sides left).d

  abbrev dr : ℕ
  dr = (sides right).d

  -- with s, t, e the sizes of S and T and the edges between them: the square of nr·e - dl·s·t is at most nr·R·s·t
  pub pair-bound-joined : (S T : ℕ → Bool)
      → let s : ℕ = size nl S in
      let t : ℕ = size nr T in
      let e : ℕ = edges_inside nl nr (edges_between sides) S T in
      gap (nr * e) (dl * (s * t)) * gap (nr * e) (dl * (s * t)) ≤ nr * (spread sides * (s * t))
  pair-bound-joined S T = pair-bound nl nr dl (spread sides) (edges_between sides) (edges-row g) (spread-even sides) S T

  inside-right : (S T : ℕ → Bool)
      → edges_inside nl nr (edges_between sides) S T
      ≡ sum nr (λ v. flag (T v) * sum dr (λ j. flag (S (vertex_of N (sides left) ((sides right).bit (v * dr + j))))))
  unfolding edges_into
  inside-right S T =
      inside-into nl nr _ S T
      ∙ sum-ext nr _ _ (λ v l. ap (λ x. flag (T v) * x) (edges-into g (λ u. flag (S u)) v l
      ∙ sum-ext dr _ _ (λ j k. ap (λ u. flag (S u)) (sym (vertex-of-left g _ ((g.whole right).bit-lt _ (entry_lt (g.whole right) v j l k)))))))

  inside-left : (S T : ℕ → Bool)
      → edges_inside nl nr (edges_between sides) S T
      ≡ sum nl (λ u. flag (S u) * sum dl (λ j. flag (T (vertex_of N (sides right) ((sides left).bit (u * dl + j))))))
  unfolding edges_inside
  inside-left S T =
      sum-ext nl _ _ (λ u l.
      sum-scale nr (flag (S u)) _
      ∙ ap (λ x. flag (S u) * x) (sum-ext nr _ _ (λ v k. mul_comm _ _) ∙ edges-from g (λ v. flag (T v)) u l
      ∙ sum-ext dl _ _ (λ j k. ap (λ e. flag (T (vertex_of N (sides right) e))) (sym (g.in_order (u * dl + j))))))

  -- S has at most b vertices of one side, and each vertex of T on the other has at least D/2 edges into S
  pub step-joined : (name : SideName) (S T : ℕ → Bool) (D b : ℕ) → size (sides name).n S ≤ b
      → ((v : ℕ) → v < (sides (other name)).n → T v ≡ true
      → D ≤ 2 * sum (sides (other name)).d (λ j. flag (S (vertex_of N (sides name) ((sides (other name)).bit (v * (sides (other name)).d + j))))))
      → 0 < slack_by nr dl D b → size (sides (other name)).n T * (slack_by nr dl D b * slack_by nr dl D b) ≤ 4 * nr * spread sides * b
  unfolding other
  step-joined SideName.Left S T D b few wrong =
      step_right nl nr dl (spread sides) (edges_between sides) (edges-row g) (spread-even sides) S T D b few
      (rw (inside-right S T) (size-demand nr D T _ wrong))
  step-joined SideName.Right S T D b few wrong =
      step_left nl nr dl (spread sides) (edges_between sides) (edges-row g) (spread-even sides) T S D b few
      (rw (inside-left T S) (size-demand nl D T _ wrong))

-- ---- an accepted plan

-- with s of the nl left vertices in S, t of the nr right ones in T and e edges between them: the square of nr·e - dl·s·t is at most
-- nr·R·s·t
pub pair-bound-plan : (plan : Plan) → plan_check plan ≡ done [] → (S T : ℕ → Bool)
    → let R : ℕ = spread (side_of plan) in
    let dl : ℕ = degree plan.left_sheet in
    let s : ℕ = size plan.nl S in
    let t : ℕ = size plan.nr T in
    let e : ℕ = edges_inside plan.nl plan.nr (edges_between (side_of plan)) S T in
    gap (plan.nr * e) (dl * s * t) * gap (plan.nr * e) (dl * s * t) ≤ plan.nr * R * s * t
pair-bound-plan plan accepted S T = simp mul_assoc (pair-bound-joined (plan-joined plan accepted) S T)
