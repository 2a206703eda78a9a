-- Laws of searches among the numbers below n.
-- The notions, of specs/Search.antt:
--   some_below n test      some i below n passes the test
--   first_failing n test   the first i below n that does not pass; n where all pass
--   least top f n         the least of f 0 .. f (n - 1), at most top
--   largest n f           the largest of f 0 .. f (n - 1)
-- and here
--   First n test i        i is the first number that fails: all before it pass, and it fails unless it is n
-- Laws are named by the search (some-, none-, first-, least-, largest-) and what they say of it: -le, -bounds and -ge are bounds,
-- -found and -attained say where it is reached, -each leads from the search to every number, -ext is about tests or numbers that agree,
-- -one-more and -zero are the steps of a loop.
use Rattle.std.proofs.Common.{ℕ, zero, suc, ◌+◌, ◌≤◌, ◌<◌, zero-le, min, Bool, true, false, cond, ◌||◌, true≢false, ◌⊎◌, inl, inr, ⊎_elim}
use Rattle.std.proofs.Common.{◌≡◌, refl, sym, ap₂, ◌∙◌, subst, le_refl, le_trans, le_of_lt, le_antisymm, not-suc-le-zero, eq-or-lt_of_le}
use Rattle.std.proofs.Common.{le_of_suc-le-suc, lt-suc_self, add-one, arith, ltb, ltb-true, ltb-false}
use mathlib.Core.Bool.{false≢true}
use native.Mathlib.Nat.{le_step, le-max_right}
use native.Mathlib.Nat.{le-suc_iff, suc_inj, min-le_left, min-le_right, min-eq_left, min-eq_right}
use native.Mathlib.Decide.{dec_le}
use Rattle.bits.specs.Search.{some_below, first_failing, least, largest}
use Rattle.bits.proofs.Tests.{or_left, or_right, or-neither}

-- ---- some number passes, or none

pub some-below : (n : ℕ) (test : ℕ → Bool) (i : ℕ) → i < n → test i ≡ true → some_below n test ≡ true
unfolding some_below
some-below zero test i h e = absurd (not-suc-le-zero h)
some-below (suc n) test i h e =
    ⊎_elim (λ (l : suc i ≤ n). or_left (some_below n test) _ (some-below n test i l e))
    (λ (q : suc i ≡ suc n). or_right (some_below n test) _ (subst (λ (m : ℕ). test m ≡ true) (suc_inj q) e)) (le-suc_iff.0 h)

pub some-found : (n : ℕ) (test : ℕ → Bool) → some_below n test ≡ true → (i : ℕ) × (i < n) × (test i ≡ true)
unfolding some_below
some-found zero test e = absurd (false≢true e)
some-found (suc n) test e = go (some_below n test) refl (some-found n test)
  where
    go : (b : Bool) → some_below n test ≡ b → (some_below n test ≡ true → (i : ℕ) × (i < n) × (test i ≡ true))
        → (i : ℕ) × (i < suc n) × (test i ≡ true)
    go true q found = let t = found q in (t.0, le_step t.1, t.2)
    go false q found = (n, lt-suc_self n, subst (λ (b : Bool). (b || test n) ≡ true) q e)

pub none-below-each : (n : ℕ) (test : ℕ → Bool) → some_below n test ≡ false → (i : ℕ) → i < n → test i ≡ false
unfolding some_below
none-below-each zero test e i h = absurd (not-suc-le-zero h)
none-below-each (suc n) test e i h =
    ⊎_elim (λ (l : suc i ≤ n). none-below-each n test (or-neither (some_below n test) (test n) e).0 i l)
    (λ (q : suc i ≡ suc n). subst (λ (m : ℕ). test m ≡ false) (sym (suc_inj q)) (or-neither (some_below n test) (test n) e).1) (le-suc_iff.0 h)

pub none_below : (n : ℕ) (test : ℕ → Bool) → ((i : ℕ) → i < n → test i ≡ false) → some_below n test ≡ false
unfolding some_below
none_below zero test h = refl
none_below (suc n) test h = rw (none_below n test (λ i l. h i (le_step l))) (h n (lt-suc_self n))

-- ---- the first that fails

record First (n : ℕ) (test : ℕ → Bool) (i : ℕ) : Type 0 where
  within : i ≤ n
  passed : (j : ℕ) → j < i → test j ≡ true
  failed : i < n → test i ≡ false

-- at most one number is the first to fail
first-unique : (n : ℕ) (test : ℕ → Bool) (i j : ℕ) → First n test i → First n test j → i ≡ j
first-unique n test i j a b = le_antisymm (before i j a b) (before j i b a)
  where
    before : (i j : ℕ) → First n test i → First n test j → i ≤ j
    before i j a b =
        elim (dec_le i j) [
          | yes l ↦ l
          | no h ↦ absurd (true≢false (sym (a.passed j (omega arith)) ∙ b.failed (omega (arith, a.within))))
        ]

-- a test that all numbers below n pass, and n too
one_more : (test : ℕ → Bool) (n : ℕ) → ((i : ℕ) → i < n → test i ≡ true) → test n ≡ true → (i : ℕ) → i < suc n → test i ≡ true
one_more test n below last i l = ⊎_elim (λ (e : i ≡ n). rw e last) (λ (b : i < n). below i b) (eq-or-lt_of_le (le_of_suc-le-suc l))

first-is : (n : ℕ) (test : ℕ → Bool) → First n test (first_failing n test)
unfolding first_failing
first-is zero test = record { within = zero-le; passed = λ j l. absurd (not-suc-le-zero l); failed = λ l. absurd (not-suc-le-zero l) }
first-is (suc n) test = go (first-is n test) (ltb (first_failing n test) n) refl (test n) refl
  where
    found : ℕ
    found = first_failing n test

    -- where the search has not ended before n, all numbers below n pass
    below : First n test found → ltb found n ≡ false → (j : ℕ) → j < n → test j ≡ true
    below r e j l = r.passed j (omega (arith, ltb-false found n e))

    go : First n test found → (b : Bool) → ltb found n ≡ b → (t : Bool) → test n ≡ t
        → First (suc n) test (cond (ltb found n) found (cond (test n) (suc n) n))
    go r true e t q = rw e (record { within = le_step r.within; passed = r.passed; failed = λ l. r.failed (ltb-true found n e) })
    go r false e true q =
        rw (e, q) (record { within = le_refl (suc n); passed = one_more test n (below r e) q; failed = λ l. absurd (omega arith) })
    go r false e false q = rw (e, q) (record { within = le_step (le_refl n); passed = below r e; failed = λ l. q })

-- ---- what the number found says

pub first-le : (n : ℕ) (test : ℕ → Bool) → first_failing n test ≤ n
first-le n test = (first-is n test).within

pub first-passed : (n : ℕ) (test : ℕ → Bool) (i : ℕ) → i < first_failing n test → test i ≡ true
first-passed n test = (first-is n test).passed

pub first-failed : (n : ℕ) (test : ℕ → Bool) → first_failing n test < n → test (first_failing n test) ≡ false
first-failed n test = (first-is n test).failed

pub first-all-each : (n : ℕ) (test : ℕ → Bool) → first_failing n test ≡ n → (i : ℕ) → i < n → test i ≡ true
first-all-each n test e i l = first-passed n test i (omega arith)

-- ---- which number is found

pub first-at : (n : ℕ) (test : ℕ → Bool) (i : ℕ) → i < n → ((j : ℕ) → j < i → test j ≡ true) → test i ≡ false → first_failing n test ≡ i
first-at n test i l before e =
    first-unique n test _ i (first-is n test) (record { within = le_of_lt l; passed = before; failed = λ h. e })

pub first-all : (n : ℕ) (test : ℕ → Bool) → ((i : ℕ) → i < n → test i ≡ true) → first_failing n test ≡ n
first-all n test all =
    first-unique n test _ n (first-is n test) (record { within = le_refl n; passed = all; failed = λ l. absurd (omega arith) })

pub first-ext : (n : ℕ) (s t : ℕ → Bool) → ((i : ℕ) → i < n → s i ≡ t i) → first_failing n s ≡ first_failing n t
first-ext n s t same =
    let r = first-is n s in
    first-unique n t _ _
    (record {
      within = r.within;
      passed = λ j l. sym (same j (omega (arith, r.within))) ∙ r.passed j l;
      failed = λ l. sym (same _ l) ∙ r.failed l;
    })
    (first-is n t)

pub first-zero : (test : ℕ → Bool) → first_failing 0 test ≡ 0
unfolding first_failing
first-zero test = refl

pub first-one-more : (n : ℕ) (test : ℕ → Bool) → first_failing n test ≡ n → test n ≡ true → first_failing (n + 1) test ≡ n + 1
first-one-more n test e p = first-all (n + 1) test (rw add-one (one_more test n (first-all-each n test e) p))

-- ---- the least

pub least-one-more : (top : ℕ) (f : ℕ → ℕ) (n : ℕ) → least top f (n + 1) ≡ min (least top f n) (f n)
unfolding least
least-one-more top f n = rw add-one

pub least-top : (top : ℕ) (f : ℕ → ℕ) (n : ℕ) → least top f n ≤ top
unfolding least
least-top top f zero = le_refl top
least-top top f (suc n) = le_trans (min-le_left _ _) (least-top top f n)

pub least-le : (top : ℕ) (f : ℕ → ℕ) (n i : ℕ) → i < n → least top f n ≤ f i
unfolding least
least-le top f zero i h = absurd (not-suc-le-zero h)
least-le top f (suc n) i h =
    ⊎_elim (λ (l : suc i ≤ n). le_trans (min-le_left _ _) (least-le top f n i l))
    (λ (e : suc i ≡ suc n). le_trans (min-le_right _ _) (subst (λ (m : ℕ). f m ≤ f i) (omega arith) (le_refl (f i))))
    (le-suc_iff.0 h)

-- the least of two is one of them
pub min-either : (a b : ℕ) → (min a b ≡ a) ⊎ (min a b ≡ b)
min-either a b = elim (dec_le a b) [ yes h ↦ inl (min-eq_left h) | no h ↦ inr (min-eq_right (omega arith)) ]

-- the least is top, or it is found below n
pub least-found : (top : ℕ) (f : ℕ → ℕ) (n : ℕ) → (least top f n ≡ top) ⊎ ((i : ℕ) × (i < n) × (least top f n ≡ f i))
unfolding least
least-found top f zero = inl refl
least-found top f (suc n) =
    ⊎_elim
    (λ (e : min (least top f n) (f n) ≡ least top f n).
    ⊎_elim (λ (t : least top f n ≡ top). inl (e ∙ t))
    (λ (t : (i : ℕ) × (i < n) × (least top f n ≡ f i)). inr (t.0, le_step t.1, e ∙ t.2)) (least-found top f n))
    (λ (e : min (least top f n) (f n) ≡ f n). inr (n, lt-suc_self n, e)) (min-either (least top f n) (f n))

-- a bound below all that is looked at is a bound below the least
pub least-ge : (top : ℕ) (f : ℕ → ℕ) (n b : ℕ) → b ≤ top → ((i : ℕ) → i < n → b ≤ f i) → b ≤ least top f n
least-ge top f n b ht hf =
    ⊎_elim (λ (e : least top f n ≡ top). omega arith)
    (λ (t : (i : ℕ) × (i < n) × (least top f n ≡ f i)). let h = hf t.0 t.1 in omega arith) (least-found top f n)

pub least-ext : (top : ℕ) (f g : ℕ → ℕ) (n : ℕ) → ((i : ℕ) → i < n → f i ≡ g i) → least top f n ≡ least top g n
unfolding least
least-ext top f g zero h = refl
least-ext top f g (suc n) h = ap₂ min (least-ext top f g n (λ i l. h i (le_step l))) (h n (lt-suc_self n))

-- ---- the largest of some numbers

pub largest-bounds : (n : ℕ) (f : ℕ → ℕ) (i : ℕ) → i < n → f i ≤ largest n f
unfolding largest
largest-bounds zero f i l = absurd (not-suc-le-zero l)
largest-bounds (suc n) f i l =
    elim (eq-or-lt_of_le (le_of_suc-le-suc l)) [
      | inl e ↦ rw e (le-max_right _ _)
      | inr b ↦ omega (arith, largest-bounds n f i b)
    ]

pub largest-attained : (n : ℕ) (f : ℕ → ℕ) → 0 < n → (i : ℕ) × (i < n) × (f i ≡ largest n f)
unfolding largest
largest-attained zero f l = absurd (not-suc-le-zero l)
largest-attained (suc zero) f l = (0, l, omega arith)
largest-attained (suc (suc n)) f l =
    let (i, b, e) = largest-attained (suc n) f (omega arith) in
    elim (dec_le (largest (suc n) f) (f (suc n))) [
      | yes h ↦ (suc n, le_refl _, omega arith)
      | no h ↦ (i, le_step b, omega arith)
    ]
