-- Laws of finite sums of natural numbers: how a sum splits, compares, counts and is renumbered, and what it says of squares.
-- The notions, of specs/Sum.antt:
--   sum n f    f 0 + .. + f (n - 1)
--   flag t     1 where the test t holds, 0 where it does not
--   gap a b    the absolute value of a - b
-- A sum of flags is a count: sum n (λ i. flag (t i)) is how many i below n pass the test t.
-- Names: the subject first (sum, flag, count, gap, square), then the fact.
--   sum-zero, sum-suc, sum-one-more                     how many terms
--   sum-ext, sum_mono                                   two sums compared term by term
--   sum-add, sum-scale, sum-const, sum-none             what each term is
--   sum-term, sum-some, sum-none-each, sum-tight        what a sum says of its terms
--   sum-swap, sum-append, sum-blocks                    sums of sums, and the terms cut into runs
--   sum-at, sum-reindex                                 one term picked out, all terms renumbered
--   flag-equal, flag-apart, flag_same                   the flag of an equation
--   count-le, count-at, count-unique                    how large a count can be, and when it is
-- Two theorems have names of their own: injective-onto (the pigeonhole principle) and cauchy-schwarz.
-- `simp sums` opens a sum of additions, of multiples and of a constant.
use Rattle.std.proofs.Common.{ℕ, zero, suc, ◌+◌, ◌-◌, ◌*◌, ◌≤◌, ◌<◌, zero-le, Bool, true, false, ◌⊎◌, inl, inr, ◌≡◌, refl, sym, ap, ap₂}
use Rattle.std.proofs.Common.{◌∙◌, add-le-add, add-sub_of_le, add-suc, add-zero, eq-or-lt_of_le, eq-zero-or-pos, le_of_eq, le_of_suc-le-suc}
use Rattle.std.proofs.Common.{le_refl, mul-le-mul_left, mul-one, mul-zero, not-suc-le-zero, suc-mul, zero-mul, add-one, arith, eqb}
use Rattle.std.proofs.Common.{eqb-true, eq-eqb, ne_eqb}
use native.Mathlib.Nat.{le_step}
use native.Mathlib.Decide.{dec_le, ℕ_discrete}
use Rattle.bits.specs.Sum.{sum, gap, flag}

-- ---- how many terms

pub sum-zero : (f : ℕ → ℕ) → sum 0 f ≡ 0
unfolding sum
sum-zero f = refl

pub sum-suc : (n : ℕ) (f : ℕ → ℕ) → sum (suc n) f ≡ sum n f + f n
unfolding sum
sum-suc n f = refl

-- sum-suc where the number of terms is written n + 1, as code writes it
pub sum-one-more : (n : ℕ) (f : ℕ → ℕ) → sum (n + 1) f ≡ sum n f + f n
sum-one-more n f = rw (add-one, sum-suc)

-- ---- two sums compared term by term

-- the first summand apart
pub sum_first : (n : ℕ) (f : ℕ → ℕ) → sum (suc n) f ≡ f 0 + sum n (λ i. f (suc i))
unfolding sum
sum_first zero f = omega arith
sum_first (suc n) f = omega (arith, sum_first n f)

pub sum-ext : (n : ℕ) (f g : ℕ → ℕ) → ((i : ℕ) → i < n → f i ≡ g i) → sum n f ≡ sum n g
unfolding sum
sum-ext zero f g h = refl
sum-ext (suc n) f g h = ap₂ ◌+◌ (sum-ext n f g (λ i l. h i (le_step l))) (h n (le_refl (suc n)))

pub sum_mono : (n : ℕ) (f g : ℕ → ℕ) → ((i : ℕ) → i < n → f i ≤ g i) → sum n f ≤ sum n g
unfolding sum
sum_mono zero f g h = zero-le
sum_mono (suc n) f g h = add-le-add (sum_mono n f g (λ i l. h i (le_step l))) (h n (le_refl (suc n)))

-- ---- what each term is

pub sum-add : (n : ℕ) (f g : ℕ → ℕ) → sum n (λ i. f i + g i) ≡ sum n f + sum n g
unfolding sum
sum-add zero f g = refl
sum-add (suc n) f g = omega (arith, sum-add n f g)

pub sum-scale : (n k : ℕ) (f : ℕ → ℕ) → sum n (λ i. k * f i) ≡ k * sum n f
unfolding sum
sum-scale zero k f = sym (mul-zero k)
sum-scale (suc n) k f = omega (arith, sum-scale n k f)

pub sum-scale-right : (n k : ℕ) (f : ℕ → ℕ) → sum n (λ i. f i * k) ≡ sum n f * k
unfolding sum
sum-scale-right zero k f = sym (zero-mul k)
sum-scale-right (suc n) k f = omega (arith, sum-scale-right n k f)

pub sum-const : (n k : ℕ) → sum n (λ i. k) ≡ n * k
unfolding sum
sum-const zero k = sym (zero-mul k)
sum-const (suc n) k = omega (arith, sum-const n k)

pub ruleset sums = (sum-add, sum-scale, sum-const)

-- a sum of zeros is 0
pub sum-none : (n : ℕ) (f : ℕ → ℕ) → ((i : ℕ) → i < n → f i ≡ 0) → sum n f ≡ 0
sum-none n f h = sum-ext n f (λ i. 0) h ∙ sum-const n 0 ∙ mul-zero n

-- ---- what a sum says of its terms

pub sum-term : (n : ℕ) (f : ℕ → ℕ) (i : ℕ) → i < n → f i ≤ sum n f
unfolding sum
sum-term zero f i l = absurd (not-suc-le-zero l)
sum-term (suc n) f i l =
    elim (eq-or-lt_of_le (le_of_suc-le-suc l)) [
      | inl e ↦ rw e (omega arith)
      | inr b ↦ omega (arith, sum-term n f i b)
    ]

pub sum-none-each : (n : ℕ) (f : ℕ → ℕ) → sum n f ≡ 0 → (i : ℕ) → i < n → f i ≡ 0
sum-none-each n f e i l = omega (arith, sum-term n f i l)

-- a sum above 0 has a term above 0
pub sum-some : (n : ℕ) (f : ℕ → ℕ) → 0 < sum n f → (i : ℕ) × (i < n) × (0 < f i)
unfolding sum
sum-some zero f l = absurd (not-suc-le-zero l)
sum-some (suc n) f l =
    elim (eq-zero-or-pos (f n)) [
      | inl e ↦ let (i, b, h) = sum-some n f (omega arith) in (i, le_step b, h)
      | inr h ↦ (n, le_refl (suc n), h)
    ]

-- terms that are ordered one by one are equal where their sums leave no room
pub sum-tight : (n : ℕ) (f g : ℕ → ℕ) → ((i : ℕ) → i < n → f i ≤ g i) → sum n g ≤ sum n f → (i : ℕ) → i < n → f i ≡ g i
sum-tight n f g h e i l =
    let room : ℕ → ℕ = λ i. g i - f i in
    let none : sum n room ≡ 0 = omega (arith, sum-add n f room, sum-ext n _ g (λ i l. add-sub_of_le (h i l))) in
    omega (arith, h i l, sum-none-each n room none i l)

-- ---- sums of sums, and terms cut into runs

pub sum-swap : (n m : ℕ) (f : ℕ → ℕ → ℕ) → sum n (λ i. sum m (λ j. f i j)) ≡ sum m (λ j. sum n (λ i. f i j))
unfolding sum
sum-swap zero m f = sym (sum-none m _ (λ j l. refl))
sum-swap (suc n) m f = rw (sum-swap n m f) (sym (sum-add m _ _))

pub sum-append : (n m : ℕ) (f : ℕ → ℕ) → sum (n + m) f ≡ sum n f + sum m (λ i. f (n + i))
unfolding sum
sum-append n zero f = simp add-zero
sum-append n (suc m) f = rw add-suc (omega (arith, sum-append n m f))

-- n * d terms are n blocks of d terms
pub sum-blocks : (n d : ℕ) (f : ℕ → ℕ) → sum (n * d) f ≡ sum n (λ u. sum d (λ j. f (u * d + j)))
unfolding sum
sum-blocks zero d f = rw zero-mul
sum-blocks (suc n) d f = rw (suc-mul, sum-append, sum-blocks n d f)

-- ---- flags

pub flag_true : flag true ≡ 1
unfolding flag
flag_true = refl

pub flag-false : flag false ≡ 0
unfolding flag
flag-false = refl

pub flag-le-one : (t : Bool) → flag t ≤ 1
unfolding flag
flag-le-one true = le_refl 1
flag-le-one false = zero-le

pub flag-square : (t : Bool) → flag t * flag t ≡ flag t
unfolding flag
flag-square true = refl
flag-square false = refl

-- a flag above 0 says that its test holds
pub flag-pos : (t : Bool) → 0 < flag t → t ≡ true
unfolding flag
flag-pos true h = refl
flag-pos false h = absurd (not-suc-le-zero h)

pub flag-mono : (s t : Bool) → (s ≡ true → t ≡ true) → flag s ≤ flag t
unfolding flag
flag-mono true t h = rw h (le_refl 1)
flag-mono false t h = zero-le

pub flag-equal : (a b : ℕ) → a ≡ b → flag (eqb a b) ≡ 1
flag-equal a b e = ap flag (eq-eqb a b e) ∙ flag_true

pub flag-apart : (a b : ℕ) → (a ≡ b → ⊥) → flag (eqb a b) ≡ 0
flag-apart a b h = ap flag (ne_eqb a b h) ∙ flag-false

-- two equations that give each other have the same flag
pub flag_same : (a b c d : ℕ) → (a ≡ b → c ≡ d) → (c ≡ d → a ≡ b) → flag (eqb a b) ≡ flag (eqb c d)
flag_same a b c d h k =
    elim (ℕ_discrete a b) [
      | yes e ↦ flag-equal a b e ∙ sym (flag-equal c d (h e))
      | no u ↦ flag-apart a b u ∙ sym (flag-apart c d (λ e. u (k e)))
    ]

-- ---- one term picked out, all terms renumbered

pub sum-at-none : (n a : ℕ) (f : ℕ → ℕ) → n ≤ a → sum n (λ i. flag (eqb i a) * f i) ≡ 0
sum-at-none n a f h = sum-none n _ (λ i l. rw (flag-apart i a (λ e. omega arith)) (zero-mul (f i)))

pub sum-at : (n a : ℕ) (f : ℕ → ℕ) → a < n → sum n (λ i. flag (eqb i a) * f i) ≡ f a
unfolding sum
sum-at zero a f l = absurd (not-suc-le-zero l)
sum-at (suc n) a f l =
    elim (eq-or-lt_of_le (le_of_suc-le-suc l)) [
      | inl e ↦ rw (e, sum-at-none n n f (le_refl n), flag-equal n n refl) (omega arith)
      | inr b ↦ rw (sum-at n a f b, flag-apart n a (λ e. omega arith)) (omega arith)
    ]

-- p renumbers the terms and q is its inverse: f (p i) is the sum over j of flag (j = p i) * f j, and that flag is the one of i = q j
pub sum-reindex : (n : ℕ) (p q : ℕ → ℕ) → ((i : ℕ) → i < n → p i < n) → ((i : ℕ) → i < n → q i < n)
    → ((i : ℕ) → i < n → q (p i) ≡ i) → ((i : ℕ) → i < n → p (q i) ≡ i) → (f : ℕ → ℕ)
    → sum n (λ i. f (p i)) ≡ sum n f
sum-reindex n p q p-below q-below q-p p-q f =
    let same : (i j : ℕ) → i < n → j < n → flag (eqb j (p i)) ≡ flag (eqb i (q j)) =
    λ i j k l. flag_same j (p i) i (q j) (λ e. sym (ap q e ∙ q-p i k)) (λ e. sym (ap p e ∙ p-q j l)) in
    sum-ext n _ _ (λ i l. sym (sum-at n (p i) f (p-below i l)))
    ∙ sum-swap n n (λ i j. flag (eqb j (p i)) * f j)
    ∙ sum-ext n _ _ (λ j l. sum-ext n _ _ (λ i k. ap (λ (x : ℕ). x * f j) (same i j k l)) ∙ sum-at n (q j) (λ i. f j) (q-below j l))

-- ---- counts

pub count-le : (n : ℕ) (t : ℕ → Bool) → sum n (λ i. flag (t i)) ≤ n
count-le n t = omega (arith, sum-const n 1, sum_mono n _ (λ i. 1) (λ i l. flag-le-one (t i)))

-- one number below n is a
pub count-at : (n a : ℕ) → a < n → sum n (λ i. flag (eqb i a)) ≡ 1
count-at n a l = simp mul-one at (sum-at n a (λ i. 1) l)

-- a test that no two numbers below n pass counts at most 1
pub count-unique : (n : ℕ) (t : ℕ → Bool) → ((i j : ℕ) → i < n → j < n → t i ≡ true → t j ≡ true → i ≡ j) → sum n (λ i. flag (t i)) ≤ 1
count-unique n t h =
    elim (eq-zero-or-pos (sum n (λ i. flag (t i)))) [
      | inl e ↦ omega arith
      | inr some ↦
          let (a, l, k) = sum-some n (λ i. flag (t i)) some in
          let only : (i : ℕ) → i < n → t i ≡ true → eqb i a ≡ true = λ i b e. eq-eqb i a (h i a b l e (flag-pos (t a) k)) in
          omega (arith, count-at n a l, sum_mono n _ (λ i. flag (eqb i a)) (λ i b. flag-mono (t i) (eqb i a) (only i b)))
    ]

-- the n values of p fall on n numbers, at most one on each, so one falls on every number below n
pub injective-onto : (n : ℕ) (p : ℕ → ℕ) → ((i : ℕ) → i < n → p i < n) → ((i j : ℕ) → i < n → j < n → p i ≡ p j → i ≡ j)
    → (a : ℕ) → a < n → (i : ℕ) × (i < n) × (p i ≡ a)
injective-onto n p below injective a l =
    let hits : ℕ → ℕ = λ b. sum n (λ i. flag (eqb b (p i))) in
    let most : (b : ℕ) → b < n → hits b ≤ 1 =
    λ b k. count-unique n _ (λ i j r s d e. injective i j r s (sym (eqb-true b (p i) d) ∙ eqb-true b (p j) e)) in
    let total : sum n (λ b. 1) ≡ sum n hits = sum-ext n _ _ (λ i k. sym (count-at n (p i) (below i k))) ∙ sum-swap n n _ in
    let (i, k, h) = sum-some n (λ i. flag (eqb a (p i))) (omega (arith, sum-tight n hits (λ b. 1) most (le_of_eq total) a l)) in
    (i, k, sym (eqb-true a (p i) (flag-pos _ h)))

-- ---- gaps

-- each of two numbers is at most the other and their gap
pub gap-le : (a b : ℕ) → a ≤ b + gap a b
unfolding gap
gap-le a b = omega arith

-- one of two numbers is the other and their gap
pub gap-either : (a b : ℕ) → (a ≡ b + gap a b) ⊎ (b ≡ a + gap a b)
unfolding gap
gap-either a b = elim (dec_le b a) [ yes l ↦ inl (omega arith) | no h ↦ inr (omega arith) ]

-- ---- squares

square-difference : (a b g : ℕ) → a ≡ b + g → g * g + 2 * (a * b) ≡ a * a + b * b
square-difference a b g e = rw e (omega arith)

pub gap-square : (a b : ℕ) → gap a b * gap a b + 2 * (a * b) ≡ a * a + b * b
gap-square a b =
    elim (gap-either a b) [
      | inl e ↦ square-difference a b _ e
      | inr e ↦ omega (arith, square-difference b a _ e)
    ]

pub square-sum : (a b : ℕ) → 2 * (a * b) ≤ a * a + b * b
square-sum a b = omega (arith, gap-square a b)

-- square-sum of y and every x i, with weights
square-sum-weighted : (n : ℕ) (w x : ℕ → ℕ) (y : ℕ) → 2 * (y * sum n (λ i. w i * x i)) ≤ y * y * sum n w + sum n (λ i. w i * (x i * x i))
unfolding sum
square-sum-weighted zero w x y = omega arith
square-sum-weighted (suc n) w x y = omega (arith, square-sum-weighted n w x y, mul-le-mul_left (w n) (square-sum y (x n)))

pub cauchy-schwarz : (n : ℕ) (w x : ℕ → ℕ) → sum n (λ i. w i * x i) * sum n (λ i. w i * x i) ≤ sum n w * sum n (λ i. w i * (x i * x i))
unfolding sum
cauchy-schwarz zero w x = zero-le
cauchy-schwarz (suc n) w x = omega (arith, cauchy-schwarz n w x, mul-le-mul_left (w n) (square-sum-weighted n w x (x n)))
