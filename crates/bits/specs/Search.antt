-- Searches among the numbers below n.
--   some_below n test      some i below n passes the test
--   first_failing n test   the first i below n that does not pass; n where all pass
--   least top f n         the least of f 0 .. f (n - 1), at most top
--   largest n f           the largest of f 0 .. f (n - 1), 0 where n is 0
use Rattle.std.specs.Prelude.{ℕ, zero, suc, min, max, Bool, false, cond, ◌||◌, ltb}

unfoldable pub some_below : ℕ → (ℕ → Bool) → Bool
some_below zero test = false
some_below (suc n) test = some_below n test || test n

unfoldable pub first_failing : ℕ → (ℕ → Bool) → ℕ
first_failing zero test = 0
first_failing (suc n) test = cond (ltb (first_failing n test) n) (first_failing n test) (cond (test n) (suc n) n)

unfoldable pub least : ℕ → (ℕ → ℕ) → ℕ → ℕ
least top f zero = top
least top f (suc n) = min (least top f n) (f n)

unfoldable pub largest : ℕ → (ℕ → ℕ) → ℕ
largest zero f = 0
largest (suc n) f = max (largest n f) (f n)
