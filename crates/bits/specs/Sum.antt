-- Finite sums of natural numbers, and the distance of two numbers.
--   sum n f    f 0 + .. + f (n - 1)
--   gap a b    the absolute value of a - b
--   flag t     1 where the test t holds, 0 where it does not: a sum of flags counts
use Rattle.std.specs.Prelude.{ℕ, zero, suc, ◌+◌, ◌-◌, Bool, true, false}

unfoldable pub sum : ℕ → (ℕ → ℕ) → ℕ
sum zero f = zero
sum (suc n) f = sum n f + f n

unfoldable pub gap : ℕ → ℕ → ℕ
gap a b = (a - b) + (b - a)

unfoldable pub flag : Bool → ℕ
flag true = 1
flag false = 0
