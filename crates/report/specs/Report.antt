-- The correction report: the maximal runs of bits at which two blocks differ.
--   differs_at a b i        bit i of the two blocks differs
--   run_start test i        where the run of bits that ends before i begins; i itself where bit i - 1 is in no run
--   ends_at test i          a run ends before i: bit i is not in it, and bit i - 1 is
--   run_count test m        the number of runs that end before some i below m
--   pair_bytes a b          two numbers as two bytes each, high byte first
--   run_bytes test m        these runs in order, offset and length of each as bytes
use Rattle.std.specs.Prelude.{ℕ, zero, suc, ◌-◌, ◌/◌, ◌%◌, List, [], ◌∷◌, ◌++◌, Bool, not, cond, ◌&&◌, ltb, eqb}
use Rattle.bits.specs.Bit.{bit_at}
use Rattle.bits.specs.Sum.{sum, flag}

unfoldable pub differs_at : List ℕ → List ℕ → ℕ → Bool
unfolding bit_at
differs_at a b i = not (eqb (bit_at a i) (bit_at b i))

unfoldable pub run_start : (ℕ → Bool) → ℕ → ℕ
run_start test zero = 0
run_start test (suc i) = cond (test i) (run_start test i) (suc i)

unfoldable pub ends_at : (ℕ → Bool) → ℕ → Bool
unfolding run_start
ends_at test i = not (test i) && ltb (run_start test i) i

unfoldable pub run_count : (ℕ → Bool) → ℕ → ℕ
unfolding sum flag ends_at
run_count test m = sum m (λ i. flag (ends_at test i))

unfoldable pub pair_bytes : ℕ → ℕ → List ℕ
pair_bytes a b = a / 256 ∷ a % 256 ∷ b / 256 ∷ b % 256 ∷ []

unfoldable pub run_bytes : (ℕ → Bool) → ℕ → List ℕ
unfolding ends_at run_start pair_bytes
run_bytes test zero = []
run_bytes test (suc i) = run_bytes test i ++ cond (ends_at test i) (pair_bytes (run_start test i) (i - run_start test i)) []
