-- How evenly edges fall between a set of left and a set of right vertices: the pair bound, and the two step bounds that follow
-- from it. The sides may differ: nl left vertices of degree dl, nr right vertices, and B u v edges between left u and right v.
-- A set is a test S on vertices.
-- The notions:
--   size n S                     how many vertices below n are in S (specs Spread)
--   edges_into nl B S v           how many edges run from S to the right vertex v
--   edges_inside nl nr B S T      how many edges run between S and T (specs Spread)
--   slack_by n d D b              D·n - 2·d·b: a step's slack (radius specs Margin) in numbers alone
-- Names: the subject first (flag, size, gap, into, walks, inside, step), then the fact.
--   flag-part, flag-demand, flag-bound, flag-gap        a number that counts only where a test holds
--   size-demand                                         a set whose every vertex has its share
--   gap-sum, gap-flag, gap-squares, gap-part            gaps added up, over all numbers below n or over a set of them
--   into-weighted, into_total, into-squares, into-gaps  the edges from S, counted at the right vertices
--   walks-le                                            the walks from a left vertex to the right and back into S
--   inside-into                                         the edges inside, counted so
--   step-square, step_right, step_left                  how large one set can be beside the other, with edges enough between them
-- The theorem is pair-bound: with s, t, e the sizes of S and T and the edges inside, (nr·e - dl·s·t)² ≤ nr·R·s·t.
use Rattle.std.proofs.Common.{ℕ, zero, suc, ◌+◌, ◌-◌, ◌*◌, ◌≤◌, ◌<◌, zero-le, Bool, true, false, inl, inr, ◌≡◌, refl, sym, ap, ◌∙◌}
use Rattle.std.proofs.Common.{eq-zero-or-pos, le_trans, mul_assoc, mul_comm, mul-le-mul, mul-le-mul_left, mul_left_comm, one-mul, arith}
use native.Mathlib.Nat.{le_of_mul-le-mul_left}
use Rattle.bits.specs.Sum.{sum, gap, flag}
use Rattle.bits.proofs.Sums.{cauchy-schwarz, gap-le, gap-square, sum-ext, sum_mono, sum-scale, sum-scale-right, sum-swap, sums}
use Rattle.meetings.specs.Spread.{size, edges_inside}

unfoldable pub edges_into : ℕ → (ℕ → ℕ → ℕ) → (ℕ → Bool) → ℕ → ℕ
unfolding sum flag
edges_into nl B S v = sum nl (λ u. flag (S u) * B u v)

-- the paper's A in numbers alone
unfoldable pub slack_by : ℕ → ℕ → ℕ → ℕ → ℕ
slack_by n d D b = D * n - 2 * d * b

-- ---- a number counted only in a set

pub flag-part : (t : Bool) (a : ℕ) → flag t * a ≤ a
unfolding flag
flag-part true a = omega arith
flag-part false a = omega arith

pub flag-demand : (t : Bool) (D a : ℕ) → (t ≡ true → D ≤ 2 * a) → D * flag t ≤ 2 * (flag t * a)
unfolding flag
flag-demand true D a h = omega (arith, h refl)
flag-demand false D a h = omega arith

pub flag-bound : (t : Bool) (m a k : ℕ) → m * a ≤ k → m * (flag t * a) ≤ k * flag t
flag-bound t m a k h = omega (arith, mul-le-mul_left (flag t) h)

-- a set T whose every v has 2·x v at least D
pub size-demand : (n D : ℕ) (T : ℕ → Bool) (x : ℕ → ℕ) → ((v : ℕ) → v < n → T v ≡ true → D ≤ 2 * x v)
    → D * size n T ≤ 2 * sum n (λ v. flag (T v) * x v)
unfolding size
size-demand n D T x h = simp sum-scale at (sum_mono n _ _ (λ v l. flag-demand (T v) D (x v) (h v l)))

-- ---- gaps added up

pub gap-sum : (n : ℕ) (f g : ℕ → ℕ) → gap (sum n f) (sum n g) ≤ sum n (λ i. gap (f i) (g i))
unfolding sum gap
gap-sum zero f g = zero-le
gap-sum (suc n) f g = omega (arith, gap-sum n f g)

pub gap-flag : (t : Bool) (a b : ℕ) → gap (flag t * a) (flag t * b) ≡ flag t * gap a b
unfolding flag gap
gap-flag true a b = omega arith
gap-flag false a b = omega arith

pub flag-gap : (t : Bool) (m a k : ℕ) → m * (flag t * a) ≤ k * flag t + gap (m * a) k
flag-gap t m a k = omega (arith, mul-le-mul_left (flag t) (gap-le (m * a) k), flag-part t (gap (m * a) k))

gap-square-scaled : (m x k : ℕ) → gap (m * x) k * gap (m * x) k + 2 * m * k * x ≡ m * m * (x * x) + k * k
gap-square-scaled m x k = omega (arith, gap-square (m * x) k)

pub gap-squares : (n m k : ℕ) (x : ℕ → ℕ)
    → sum n (λ v. gap (m * x v) k * gap (m * x v) k) + 2 * m * k * sum n x ≡ m * m * sum n (λ v. x v * x v) + n * (k * k)
gap-squares n m k x = omega (arith, simp sums at (sum-ext n _ _ (λ v l. gap-square-scaled m (x v) k)))

gap-part-le : (n m k : ℕ) (x : ℕ → ℕ) (T : ℕ → Bool)
    → gap (m * sum n (λ v. flag (T v) * x v)) (k * size n T) ≤ sum n (λ v. flag (T v) * gap (m * x v) k)
unfolding size
gap-part-le n m k x T =
    let scaled : sum n (λ v. flag (T v) * (m * x v)) ≡ m * sum n (λ v. flag (T v) * x v) =
    sum-ext n _ _ (λ v l. mul_left_comm _ _ _) ∙ sum-scale n m _ in
    let counted : sum n (λ v. flag (T v) * k) ≡ k * size n T = sum-scale-right n k _ ∙ mul_comm _ _ in
    rw (← scaled, ← counted) (simp gap-flag at (gap-sum n (λ v. flag (T v) * (m * x v)) (λ v. flag (T v) * k)))

-- what is added up over a set T lies no further off than the squares over all numbers below n allow
pub gap-part : (n m k : ℕ) (x : ℕ → ℕ) (T : ℕ → Bool)
    → let g : ℕ = gap (m * sum n (λ v. flag (T v) * x v)) (k * size n T) in
    g * g ≤ size n T * sum n (λ v. gap (m * x v) k * gap (m * x v) k)
unfolding size
gap-part n m k x T =
    let g = gap-part-le n m k x T in
    le_trans (mul-le-mul g g) (le_trans (cauchy-schwarz n _ _) (mul-le-mul_left _ (sum_mono n _ _ (λ v l. flag-part (T v) _))))

-- ---- one step, in numbers

-- e edges run between p vertices, at most b of them, and q others, and 2·e is at least D·q
pub step-square : (n d D R b p q e : ℕ) → p ≤ b → D * q ≤ 2 * e → 0 < slack_by n d D b
    → let g : ℕ = gap (n * e) (d * (p * q)) in
    g * g ≤ n * (R * (p * q)) → q * (slack_by n d D b * slack_by n d D b) ≤ 4 * n * R * b
unfolding slack_by
step-square n d D R b p q e few wrong pos bound =
    let A : ℕ = slack_by n d D b in
    let g : ℕ = gap (n * e) (d * (p * q)) in
    let whole : D * n ≡ A + 2 * d * b = omega arith in
    let most : q * A ≤ 2 * g =
    omega (arith, gap-le (n * e) (d * (p * q)), mul-le-mul_left n wrong, mul-le-mul_left (d * q) few, ap (λ x. q * x) whole) in
    let scaled : q * (q * (A * A)) ≤ q * (4 * n * R * b) = omega (arith, bound, mul-le-mul most most, mul-le-mul_left (n * R * q) few) in
    elim (eq-zero-or-pos q) [
      | inl none ↦ rw none (omega arith)
      | inr some ↦ le_of_mul-le-mul_left scaled some
    ]

-- ---- the edges from S, counted at the right vertices

pub into-weighted : (nl nr : ℕ) (B : ℕ → ℕ → ℕ) (S : ℕ → Bool) (y : ℕ → ℕ)
    → sum nr (λ v. y v * edges_into nl B S v) ≡ sum nl (λ u. flag (S u) * sum nr (λ v. y v * B u v))
unfolding edges_into
into-weighted nl nr B S y =
    sum-ext nr _ _ (λ v l. sym (sum-scale nl (y v) _))
    ∙ sum-swap nr nl (λ v u. y v * (flag (S u) * B u v))
    ∙ sum-ext nl _ _ (λ u l. sum-ext nr _ _ (λ v k. mul_left_comm _ _ _) ∙ sum-scale nr (flag (S u)) _)

pub inside-into : (nl nr : ℕ) (B : ℕ → ℕ → ℕ) (S T : ℕ → Bool) → edges_inside nl nr B S T ≡ sum nr (λ v. flag (T v) * edges_into nl B S v)
unfolding edges_inside
inside-into nl nr B S T = rw (into-weighted nl nr B S (λ v. flag (T v))) (simp sum-scale)

-- every left vertex has dl edges, and R is at least every row sum of |nr·G - dl·dl|, G u w the meeting number of u and w
module _ (nl nr dl R : ℕ) (B : ℕ → ℕ → ℕ) (row : (u : ℕ) → u < nl → sum nr (λ v. B u v) ≡ dl)
    (even : (u : ℕ) → u < nl → sum nl (λ w. gap (nr * sum nr (λ v. B u v * B w v)) (dl * dl)) ≤ R) (S : ℕ → Bool) where
  pub into_total : sum nr (edges_into nl B S) ≡ dl * size nl S
  unfolding size
  into_total =
      simp one-mul at (into-weighted nl nr B S (λ v. 1))
      ∙ sum-ext nl _ _ (λ u l. ap (λ x. flag (S u) * x) (row u l) ∙ mul_comm _ _)
      ∙ sum-scale nl dl _

  pub walks-le : (u : ℕ) → u < nl → nr * sum nr (λ v. B u v * edges_into nl B S v) ≤ dl * dl * size nl S + R
  unfolding size
  walks-le u l =
      let meet : ℕ → ℕ = λ w. sum nr (λ v. B u v * B w v) in
      rw (into-weighted nl nr B S (B u)) (omega (arith, even u l, simp sums at (sum_mono nl _ _ (λ w k. flag-gap (S w) nr (meet w) (dl * dl)))))

  pub into-squares : nr * sum nr (λ v. edges_into nl B S v * edges_into nl B S v) ≤ size nl S * (dl * dl * size nl S + R)
  unfolding size
  into-squares =
      let x : ℕ → ℕ = edges_into nl B S in
      let walks : (u : ℕ) → u < nl → nr * sum nr (λ v. x v * B u v) ≤ dl * dl * size nl S + R =
      λ u l. rw (sum-ext nr _ (λ v. B u v * x v) (λ v k. mul_comm (x v) (B u v))) (walks-le u l) in
      rw (into-weighted nl nr B S x) (omega (arith, simp sums at (sum_mono nl _ _ (λ u l. flag-bound (S u) nr _ _ (walks u l)))))

  pub into-gaps : let g : ℕ → ℕ = λ v. gap (nr * edges_into nl B S v) (dl * size nl S) in sum nr (λ v. g v * g v) ≤ nr * (R * size nl S)
  into-gaps =
      let k : ℕ = dl * size nl S in
      omega (arith, gap-squares nr nr k (edges_into nl B S), ap (λ x. 2 * nr * k * x) into_total, mul-le-mul_left nr into-squares)

  pub pair-bound : (T : ℕ → Bool)
      → let s : ℕ = size nl S in
      let t : ℕ = size nr T in
      let g : ℕ = gap (nr * edges_inside nl nr B S T) (dl * (s * t)) in
      g * g ≤ nr * (R * (s * t))
  pair-bound T =
      let s : ℕ = size nl S in
      let t : ℕ = size nr T in
      rw (inside-into nl nr B S T, ← mul_assoc dl s t) (omega (arith, gap-part nr nr (dl * s) (edges_into nl B S) T, mul-le-mul_left t into-gaps))

  -- S has at most b vertices, and 2·e is at least D·t
  pub step_right : (T : ℕ → Bool) (D b : ℕ) → size nl S ≤ b → D * size nr T ≤ 2 * edges_inside nl nr B S T → 0 < slack_by nr dl D b
      → size nr T * (slack_by nr dl D b * slack_by nr dl D b) ≤ 4 * nr * R * b
  step_right T D b few wrong pos = step-square nr dl D R b _ _ _ few wrong pos (pair-bound T)

  -- T has at most b vertices, and 2·e is at least D·s: the same slack_by and the same R bound s
  pub step_left : (T : ℕ → Bool) (D b : ℕ) → size nr T ≤ b → D * size nl S ≤ 2 * edges_inside nl nr B S T → 0 < slack_by nr dl D b
      → size nl S * (slack_by nr dl D b * slack_by nr dl D b) ≤ 4 * nr * R * b
  step_left T D b few wrong pos = step-square nr dl D R b _ _ _ few wrong pos (rw (mul_comm (size nr T) (size nl S)) (pair-bound T))
