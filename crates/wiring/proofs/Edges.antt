-- The edges between the vertices of a wiring: each vertex has as many as its side's degree, and sums over a vertex's edges are sums over the
-- vertices at their far ends. The sides may differ.
--   Joined N sides               both sides have all N bits, the left one in their order (Permutation)
--   edges_between sides u v       the number of edges between left vertex u and right vertex v (specs Wiring)
--   vertex_of N side e            the vertex of a side that has bit e
-- Laws are named by their subject, then by the fact:
--   vertex-of-lt, vertex-of-entry  a bit's vertex is one of the side's n; that of entry v·d + j is v
--   entries-left                 what is summed over the entries of a left vertex's edges, at their places
--   edges-into, edges-from       edges counted at their far ends: of a right vertex, of a left vertex
--   edges-row, edges-column      the right vertices that one left vertex meets, and the left ones that one right vertex meets
use Rattle.std.proofs.Common.{ℕ, ◌+◌, ◌*◌, ◌/◌, ◌<◌, ◌≡◌, sym, ap, ◌∙◌, div-lt_iff_lt-mul, mul_comm, mul-one, one-mul, eqb}
use lib.Arith.{digits_div}
use Rattle.bits.specs.Sum.{sum, flag}
use Rattle.bits.proofs.Sums.{flag_same, sum-at, sum-blocks, sum-const, sum-ext, sum-reindex, sum-scale, sum-scale-right, sum-swap}
use Rattle.wiring.specs.Plan.{Side, left, right}
use Rattle.wiring.specs.Wiring.{edges_between}
use Rattle.wiring.specs.declared.side.SideName.{SideName}
use Rattle.wiring.proofs.Permutation.{Whole, Joined, place_of, place-bit, place-lt, bit-place, entry_lt}

abbrev pub vertex_of : ℕ → Side → ℕ → ℕ
vertex_of N side e = place_of N side e / side.d

module _ {N : ℕ} {side : Side} (w : Whole N side) where
  pub vertex-of-lt : (e : ℕ) → e < N → vertex_of N side e < side.n
  vertex-of-lt e l = (div-lt_iff_lt-mul w.degree-pos).1 (rw w.entries (place-lt w e l))

module _ {N : ℕ} {sides : SideName → Side} (g : Joined N sides) where
  abbrev dl : ℕ
  dl = (sides left).d

  abbrev dr : ℕ
  dr = (sides right).d

  abbrev edge : ℕ → ℕ
  edge = (sides right).bit

  abbrev place : ℕ → ℕ
  place = place_of N (sides right)

  -- a bit's left vertex
  pub vertex-of-left : (e : ℕ) → e < N → vertex_of N (sides left) e ≡ e / dl
  vertex-of-left e l =
      ap (λ (i : ℕ). i / dl) (ap (place_of N (sides left)) (sym (g.in_order e)) ∙ place-bit (g.whole left) e l)

  -- each edge of v is counted at the one left vertex u where it ends
  pub edges-into : (x : ℕ → ℕ) (v : ℕ) → v < (sides right).n
      → sum (sides left).n (λ u. x u * edges_between sides u v) ≡ sum dr (λ j. x (edge (v * dr + j) / dl))
  unfolding edges_between
  edges-into x v l =
      let end : ℕ → ℕ = λ j. edge (v * dr + j) / dl in
      let end_below : (j : ℕ) → j < dr → end j < (sides left).n =
      λ j k. (div-lt_iff_lt-mul (g.whole left).degree-pos).1
      (rw (g.whole left).entries ((g.whole right).bit-lt _ (entry_lt (g.whole right) v j l k))) in
      sum-ext (sides left).n _ _ (λ u k. sym (sum-scale dr (x u) _))
      ∙ sum-swap (sides left).n dr (λ u j. x u * flag (eqb (end j) u))
      ∙ sum-ext dr _ _ (λ j k.
      sum-ext (sides left).n _ _ (λ u h. rw (flag_same (end j) u u (end j) sym sym) (mul_comm _ _))
      ∙ sum-at (sides left).n (end j) x (end_below j k))

  -- the entries, renumbered as edges, are the edges of all left vertices, of which those of u count
  pub entries-left : (f : ℕ → ℕ) (u : ℕ) → u < (sides left).n
      → sum N (λ i. flag (eqb (edge i / dl) u) * f i) ≡ sum dl (λ j. f (place (u * dl + j)))
  entries-left f u l =
      let r = g.whole right in
      let at : ℕ → ℕ = λ i. flag (eqb (edge i / dl) u) * f i in
      let ends : ℕ → ℕ = λ w. sum dl (λ j. f (place (w * dl + j))) in
      let in_order : (w j : ℕ) → w < (sides left).n → j < dl → w * dl + j < N = λ w j. entry_lt (g.whole left) w j in
      sym (sum-reindex N place edge (place-lt r) r.bit-lt (bit-place r) (place-bit r) at)
      ∙ ap (λ (m : ℕ). sum m (λ i. at (place i))) (sym (g.whole left).entries)
      ∙ sum-blocks (sides left).n dl (λ i. at (place i))
      ∙ sum-ext (sides left).n _ (λ w. flag (eqb w u) * ends w)
      (λ w k. sum-ext dl _ _ (λ j m. rw (bit-place r _ (in_order w j k m), digits_div w m)) ∙ sum-scale dl (flag (eqb w u)) _)
      ∙ sum-at (sides left).n u ends l

  -- the edges of u stand among the entries of all right vertices
  pub edges-from : (y : ℕ → ℕ) (u : ℕ) → u < (sides left).n
      → sum (sides right).n (λ v. edges_between sides u v * y v) ≡ sum dl (λ j. y (place (u * dl + j) / dr))
  unfolding edges_between
  edges-from y u l =
      let at : ℕ → ℕ = λ i. flag (eqb (edge i / dl) u) * y (i / dr) in
      sum-ext (sides right).n _ (λ v. sum dr (λ j. at (v * dr + j)))
      (λ v k. sym (sum-scale-right dr (y v) _) ∙ sum-ext dr _ _ (λ j m. rw (digits_div v m)))
      ∙ sym (sum-blocks (sides right).n dr at)
      ∙ ap (λ (m : ℕ). sum m at) (g.whole right).entries
      ∙ entries-left (λ i. y (i / dr)) u l

  pub edges-row : (u : ℕ) → u < (sides left).n → sum (sides right).n (λ v. edges_between sides u v) ≡ dl
  edges-row u l = simp (sum-const, mul-one) at (edges-from (λ v. 1) u l)

  pub edges-column : (v : ℕ) → v < (sides right).n → sum (sides left).n (λ u. edges_between sides u v) ≡ dr
  edges-column v l = simp (one-mul, sum-const, mul-one) at (edges-into (λ u. 1) v l)
