-- The convergence argument of demand 3, about wrong bits alone: where at most F bits are wrong, F is covered, and each sweep mends the
-- vertices with fewer than D/2 wrong bits, D of the side swept, the chain of b bounds what each sweep leaves, and no bit is wrong after the
-- sweeps named for F. The wiring is accepted, and its sides may differ. A test `wrong` says which bits are wrong.
-- The notions, of decoder, wiring and specs/Margin:
--   turn i                            the side of sweep i + 1: left first, then in turn
--   Joined N sides                    both sides have all N bits (wiring Permutation)
--   vertex_of N side e                 the vertex of a side that has bit e (wiring Edges)
--   bound m F i                       the paper's b after sweep i + 1
-- and here
--   measures_on N sides D              the measures of two sides whose inner codes have the distances D
--   wrong_at side wrong v              how many bits of vertex v are wrong
--   some_wrong side wrong v            some bit of vertex v is wrong
--   leaves sides wrong i v            sweep i + 1 leaves a wrong bit at vertex v of the side that it goes over: `wrong i` are the wrong bits after
--                                     i sweeps
--   Mending N sides D F wrong         what is known of the sweeps: at first at most F bits are wrong, and each sweep mends as above
-- Names: the subject first (some, wrong, leaves), then the fact.
--   some-le, some-most                                  the flag of a number above 0, beside the number
--   wrong-le, wrong-some, wrong-each                    the wrong bits of one vertex
--   wrong-vertex, wrong-across, wrong-none              wrong bits and the vertices that have them
--   wrong-total, wrong-crosses                          wrong bits counted at the vertices of a side, and of both
--   leaves-half, leaves-first, leaves-next              how many vertices a sweep leaves wrong
--   leaves-bounded                                      the same by the chain of b
-- The theorem is converges.
use Rattle.std.proofs.Common.{ℕ, zero, suc, ◌+◌, ◌*◌, ◌/◌, ◌%◌, ◌≤◌, ◌<◌, zero-le, Bool, true, false, ◌≡◌, refl, sym, ap, ◌∙◌, div-add-mod'}
use Rattle.std.proofs.Common.{le-div_iff_mul-le, le_trans, lt_of_not-le, mod-lt, mul-le-mul_left, mul-pos, arith, ltb, ltb-true, ltb-false}
use Rattle.std.proofs.Common.{lt-ltb}
use mathlib.Core.Logic.{◌≢◌}
use native.Mathlib.Decide.{dec_le}
use Rattle.bits.specs.Sum.{sum, flag}
use Rattle.bits.proofs.Tests.{flag-zero}
use Rattle.bits.proofs.Sums.{count-le, flag-false, flag-le-one, flag-mono, flag_true}
use Rattle.bits.proofs.Sums.{sum-blocks, sum_mono, sum-none, sum-none-each, sum-reindex, sum-scale, sum-term}
use Rattle.wiring.specs.Plan.{Side, left, right, other}
use Rattle.wiring.specs.declared.side.SideName.{SideName}
use Rattle.wiring.proofs.Permutation.{Joined, place_of, place-bit, place-lt, bit-place, entry_lt}
use Rattle.wiring.proofs.Edges.{vertex_of, vertex-of-lt}
use Rattle.sweeps.specs.Sweep.{turn}
use Rattle.meetings.specs.Spread.{spread, size}
use Rattle.meetings.proofs.PairBound.{slack_by, flag-part, size-demand}
use Rattle.meetings.proofs.Graph.{step-joined}
use Rattle.radius.specs.Margin.{Measures, slack, step_covered, next_bound, bound, sweeps_named}
use Rattle.radius.proofs.MarginChain.{first_bound, covered-slack, named_step, named-last}

-- ---- whether a number is above 0

some-le : (x : ℕ) → flag (ltb 0 x) ≤ x
unfolding flag
some-le zero = zero-le
some-le (suc x) = omega (arith, flag-le-one (ltb 0 (suc x)))

some-most : (d x : ℕ) → x ≤ d → x ≤ d * flag (ltb 0 x)
some-most d zero l = zero-le
some-most d (suc x) l = rw (lt-ltb 0 (suc x) (omega arith), flag_true) (omega arith)

-- ---- the notions

abbrev pub measures_on : ℕ → (SideName → Side) → (SideName → ℕ) → Measures
measures_on N sides D = record { edges = N; n = (sides right).n; d = (sides left).d; distance = D; spread = spread sides }

unfoldable pub wrong_at : Side → (ℕ → Bool) → ℕ → ℕ
unfolding sum flag
wrong_at side wrong v = sum side.d (λ j. flag (wrong (side.bit (v * side.d + j))))

unfoldable pub some_wrong : Side → (ℕ → Bool) → ℕ → Bool
unfolding wrong_at
some_wrong side wrong v = ltb 0 (wrong_at side wrong v)

wrong-le : (side : Side) (wrong : ℕ → Bool) (v : ℕ) → wrong_at side wrong v ≤ side.d
unfolding wrong_at
wrong-le side wrong v = count-le side.d (λ j. wrong (side.bit (v * side.d + j)))

wrong-some : (side : Side) (wrong : ℕ → Bool) (v : ℕ) → some_wrong side wrong v ≡ true → 0 < wrong_at side wrong v
unfolding some_wrong
wrong-some side wrong v e = ltb-true _ _ e

-- a vertex with no wrong bit has none at any of its entries
pub wrong-each : (side : Side) (wrong : ℕ → Bool) (v : ℕ) → some_wrong side wrong v ≡ false
    → (j : ℕ) → j < side.d → wrong (side.bit (v * side.d + j)) ≡ false
unfolding some_wrong wrong_at
wrong-each side wrong v none j l =
    let all_right : wrong_at side wrong v ≡ 0 = omega (arith, ltb-false 0 (wrong_at side wrong v) none) in
    flag-zero _ (sum-none-each side.d _ all_right j l)

abbrev pub leaves : (SideName → Side) → (ℕ → ℕ → Bool) → ℕ → ℕ → Bool
leaves sides wrong i = some_wrong (sides (turn i)) (wrong (suc i))

pub record Mending (N : ℕ) (sides : SideName → Side) (D : SideName → ℕ) (F : ℕ) (wrong : ℕ → ℕ → Bool) : Type 0 where
  pub joined : Joined N sides
  pub distance-pos : 0 < D left
  pub few : sum N (λ e. flag (wrong 0 e)) ≤ F
  pub mends : (i v : ℕ) → v < (sides (turn i)).n → 2 * wrong_at (sides (turn i)) (wrong i) v < D (turn i)
      → (j : ℕ) → j < (sides (turn i)).d → wrong (suc i) ((sides (turn i)).bit (v * (sides (turn i)).d + j)) ≡ false

module _ {N : ℕ} {sides : SideName → Side} (g : Joined N sides) where
  -- ---- wrong bits and the vertices that have them

  module _ (name : SideName) (wrong : ℕ → Bool) where
    abbrev side : Side
    side = sides name

    wrong-vertex : (e : ℕ) → e < N → wrong e ≡ true → some_wrong side wrong (vertex_of N side e) ≡ true
    unfolding some_wrong wrong_at
    wrong-vertex e l h =
        let i : ℕ = place_of N side e in
        let here : side.bit (i / side.d * side.d + i % side.d) ≡ e = rw (div-add-mod' i side.d) (bit-place (g.whole name) e l) in
        lt-ltb _ _ (rw (here, h, flag_true) at
        (sum-term side.d (λ j. flag (wrong (side.bit (i / side.d * side.d + j)))) (i % side.d) (mod-lt i (g.whole name).degree-pos)))

    -- a wrong bit at a vertex of the other side is an edge to a vertex of this side with a wrong bit
    wrong-across : (v : ℕ) → v < (sides (other name)).n → wrong_at (sides (other name)) wrong v
        ≤ sum (sides (other name)).d (λ j. flag (some_wrong side wrong (vertex_of N side ((sides (other name)).bit (v * (sides (other name)).d + j)))))
    unfolding wrong_at
    wrong-across v l =
        let w = g.whole (other name) in
        sum_mono (sides (other name)).d _ _ (λ j k. flag-mono _ _ (wrong-vertex _ (w.bit-lt _ (entry_lt w v j l k))))

    -- where no vertex of a side has a wrong bit, no bit is wrong
    wrong-none : size side.n (some_wrong side wrong) ≡ 0 → (e : ℕ) → e < N → wrong e ≡ false
    unfolding size
    wrong-none none e l =
        flag-zero _ (omega
        (arith, flag-mono (wrong e) _ (wrong-vertex e l), sum-none-each side.n _ none _ (vertex-of-lt (g.whole name) e l)))

    -- every bit stands at one vertex of a side, so its vertices have all wrong bits
    wrong-total : sum side.n (wrong_at side wrong) ≡ sum N (λ e. flag (wrong e))
    unfolding wrong_at
    wrong-total =
        let w = g.whole name in
        sym (sum-blocks side.n side.d (λ i. flag (wrong (side.bit i))))
        ∙ ap (λ (k : ℕ). sum k (λ i. flag (wrong (side.bit i)))) w.entries
        ∙ sum-reindex N side.bit (place_of N side) w.bit-lt (place-lt w) (place-bit w) (bit-place w) (λ e. flag (wrong e))

  -- a vertex with a wrong bit has at most d, and each of these stands at one vertex of the other side
  pub wrong-crosses : (wrong : ℕ → Bool) (from to : SideName)
      → size (sides to).n (some_wrong (sides to) wrong) ≤ (sides from).d * size (sides from).n (some_wrong (sides from) wrong)
  unfolding size some_wrong
  wrong-crosses wrong from to =
      omega (
        arith,
        sum_mono (sides to).n _ (wrong_at (sides to) wrong) (λ v l. some-le (wrong_at (sides to) wrong v)),
        wrong-total to wrong,
        wrong-total from wrong,
        simp sum-scale at (sum_mono (sides from).n (wrong_at (sides from) wrong) _
            (λ v l. some-most (sides from).d (wrong_at (sides from) wrong v) (wrong-le (sides from) wrong v))),
      )

-- ---- sweeps

module _ {N : ℕ} {sides : SideName → Side} {D : SideName → ℕ} {F : ℕ} {wrong : ℕ → ℕ → Bool} (s : Mending N sides D F wrong) where
  abbrev m : Measures
  m = measures_on N sides D

  leaves-half : (i v : ℕ) → v < (sides (turn i)).n → leaves sides wrong i v ≡ true → D (turn i) ≤ 2 * wrong_at (sides (turn i)) (wrong i) v
  unfolding wrong_at
  leaves-half i v l some =
      let here : Side = sides (turn i) in
      let before : ℕ = wrong_at here (wrong i) v in
      let none : 2 * before < D (turn i) → wrong_at here (wrong (suc i)) v ≡ 0 =
      λ h. sum-none here.d _ (λ j k. ap flag (s.mends i v l h j k) ∙ flag-false) in
      elim (dec_le (D (turn i)) (2 * before)) [
        | yes h ↦ h
        | no h ↦ omega (arith, wrong-some here (wrong (suc i)) v some, none (lt_of_not-le h))
      ]

  -- a left vertex that is left wrong had at least D/2 of the wrong bits
  leaves-first : size (sides (turn 0)).n (leaves sides wrong 0) ≤ first_bound m F
  unfolding turn
  leaves-first =
      let before : ℕ → ℕ = wrong_at (sides left) (wrong 0) in
      (le-div_iff_mul-le s.distance-pos).1 (omega (
        arith,
        size-demand (sides left).n (D left) (leaves sides wrong 0) before (leaves-half 0),
        sum_mono (sides left).n _ before (λ v l. flag-part (leaves sides wrong 0 v) (before v)),
        wrong-total s.joined left (wrong 0),
        s.few,
      ))

  leaves-next : (i b : ℕ) → size (sides (turn i)).n (leaves sides wrong i) ≤ b → step_covered m (turn (suc i)) b ≡ true
      → size (sides (turn (suc i))).n (leaves sides wrong (suc i)) ≤ next_bound m (turn (suc i)) b
  unfolding turn next_bound slack slack_by
  leaves-next i b most covered =
      let to : SideName = other (turn i) in
      let p = (covered-slack m to b covered).0 in
      (le-div_iff_mul-le (mul-pos p p)).1 (step-joined s.joined (turn i) (leaves sides wrong i) (leaves sides wrong (suc i)) (D to) b most
      (λ v l h. le_trans (leaves-half (suc i) v l h) (mul-le-mul_left 2 (wrong-across s.joined (turn i) (wrong (suc i)) v l))) p)

  -- the b of a covered F bound what the sweeps named for it leave
  pub leaves-bounded : (i : ℕ) → i < sweeps_named m F → size (sides (turn i)).n (leaves sides wrong i) ≤ bound m F i
  unfolding bound
  leaves-bounded zero l = leaves-first
  leaves-bounded (suc i) l = leaves-next i (bound m F i) (leaves-bounded i (omega arith)) (named_step m F i l)

  converges-at : (q : ℕ) → sweeps_named m F ≡ q → q ≢ 0 → (e : ℕ) → e < N → wrong q e ≡ false
  converges-at zero named some = absurd (some refl)
  converges-at (suc k) named some =
      wrong-none s.joined (turn k) (wrong (suc k)) (omega (arith, leaves-bounded k (omega arith), named-last m F k named))

  pub converges : let q : ℕ = sweeps_named m F in q ≢ 0 → (e : ℕ) → e < N → wrong q e ≡ false
  converges some = converges-at _ refl some
