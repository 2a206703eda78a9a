-- The margin's numbers alone: how many flipped bits F a plan covers, and the sweeps named for them.
--   Measures                 the numbers of a plan that the margin rests on: N, n of the right side (nr), d of the left side (dl), the inner distance D of each side, and the spread R
--   slack m to b             the paper's A for a step to a side: D·nr - 2·dl·b with that side's D (0 where that is below 0)
--   step_covered m to b       A is above 0 and its square above 4·nr·R
--   next_bound m to b         the next b: 4·nr·R·b divided by the square of A, rounded down
--   bound m F i              the paper's b, from the first one (i 0) on: after sweep i + 1 at most so many vertices of its side are left with a wrong bit
--   chain_end m F             the first i, at most the first b, at which the chain of b stops: b is 0, or the step from it is not covered
--   sweeps_named m F          the sweeps named for F flips, the place of the first b that is 0, counted from 1; 0 where F is not covered
--   beyond m                 the first F, from 0 up, that is not covered; N + 1 never is
use Rattle.std.specs.Prelude.{ℕ, zero, suc, ◌+◌, ◌-◌, ◌*◌, ◌/◌, Bool, cond, ◌&&◌, ltb, leb, eqb}
use Rattle.bits.specs.Search.{first_failing}
use Rattle.wiring.specs.Plan.{left}
use Rattle.wiring.specs.declared.side.SideName.{SideName}
use Rattle.sweeps.specs.Sweep.{turn}

pub record Measures : Type 0 where
  pub edges : ℕ
  pub n : ℕ
  pub d : ℕ
  pub distance : SideName → ℕ
  pub spread : ℕ

unfoldable pub slack : Measures → SideName → ℕ → ℕ
slack m to b = m.distance to * m.n - 2 * m.d * b

unfoldable pub step_covered : Measures → SideName → ℕ → Bool
unfolding slack
step_covered m to b = ltb 0 (slack m to b) && ltb (4 * m.n * m.spread) (slack m to b * slack m to b)

unfoldable pub next_bound : Measures → SideName → ℕ → ℕ
unfolding slack
next_bound m to b = 4 * m.n * m.spread * b / (slack m to b * slack m to b)

unfoldable pub bound : Measures → ℕ → ℕ → ℕ
unfolding next_bound turn
bound m F zero = 2 * F / m.distance left
bound m F (suc i) = next_bound m (turn (suc i)) (bound m F i)

unfoldable pub chain_end : Measures → ℕ → ℕ
unfolding first_failing step_covered turn bound
chain_end m F = first_failing (bound m F 0 + 1) (λ i. ltb 0 (bound m F i) && step_covered m (turn (i + 1)) (bound m F i))

unfoldable pub sweeps_named : Measures → ℕ → ℕ
unfolding bound chain_end
sweeps_named m F = let end : ℕ = chain_end m F in cond (leb F m.edges && eqb (bound m F end) 0) (end + 1) 0

unfoldable pub beyond : Measures → ℕ
unfolding first_failing sweeps_named
beyond m = first_failing (m.edges + 1) (λ F. ltb 0 (sweeps_named m F))
