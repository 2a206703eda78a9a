-- Ranks: the numbers that pass a test, counted from below.
--   rank t j   how many numbers below j pass the test t
-- The rank of a number that passes is its place among those that pass: later numbers have larger ranks (rank_lt), and the ranks
-- fill the numbers below their count (rank-onto).
use Rattle.std.proofs.Common.{ℕ, zero, suc, ◌+◌, ◌-◌, ◌≤◌, ◌<◌, Bool, true, false, ◌≡◌, refl, ◌∙◌, lt-suc_self, add-sub_of_le, arith}
use native.Mathlib.Nat.{le_step}
use native.Mathlib.Decide.{dec_le}
use Rattle.bits.specs.Sum.{sum, flag}
use Rattle.bits.proofs.Sums.{sum-zero, sum-suc, sum-append, flag_true, flag-false}

unfoldable pub rank : (ℕ → Bool) → ℕ → ℕ
rank t j = sum j (λ i. flag (t i))

module _ (t : ℕ → Bool) where
  pub rank-zero : rank t 0 ≡ 0
  unfolding rank
  rank-zero = sum-zero _

  pub rank-suc : (j : ℕ) → rank t (suc j) ≡ rank t j + flag (t j)
  unfolding rank
  rank-suc j = sum-suc j _

  pub rank-passed : (j : ℕ) → t j ≡ true → rank t (suc j) ≡ suc (rank t j)
  rank-passed j e = rank-suc j ∙ rw (e, flag_true) (omega arith)

  pub rank-failed : (j : ℕ) → t j ≡ false → rank t (suc j) ≡ rank t j
  rank-failed j e = rank-suc j ∙ rw (e, flag-false) (omega arith)

  pub rank_mono : (p q : ℕ) → p ≤ q → rank t p ≤ rank t q
  unfolding rank
  rank_mono p q l = let more : p + (q - p) ≡ q = add-sub_of_le l in rw (← more, sum-append) (omega arith)

  pub rank_lt : (p q : ℕ) → t p ≡ true → p < q → rank t p < rank t q
  rank_lt p q e l = omega (arith, rank-passed p e, rank_mono (suc p) q l)

  pub rank-onto : (n i : ℕ) → i < rank t n → (p : ℕ) × (p < n) × (t p ≡ true) × (rank t p ≡ i)
  rank-onto zero i l = absurd (omega (arith, rank-zero))
  rank-onto (suc n) i l = go (rank-onto n i) (t n) refl (dec_le (suc i) (rank t n))
    where
      go : (i < rank t n → (p : ℕ) × (p < n) × (t p ≡ true) × (rank t p ≡ i)) → (b : Bool) → t n ≡ b → Dec (i < rank t n)
          → (p : ℕ) × (p < suc n) × (t p ≡ true) × (rank t p ≡ i)
      go earlier b e (yes h) = let (p, k, passes, at) = earlier h in (p, le_step k, passes, at)
      go earlier true e (no h) = (n, lt-suc_self n, e, omega (arith, rank-passed n e))
      go earlier false e (no h) = absurd (omega (arith, rank-failed n e))
