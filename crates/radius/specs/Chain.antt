-- How the code walks the margin's chain of b: none of this is needed to believe a contract of a service.
--   one_more q                one sweep more, where the rest is covered
--   chain_sweeps m to t b     the place of the first zero in the chain that begins with b and steps to a side next, counted from 1;
--                            0 where a step on the way is not covered. t bounds the chain's length; b + 1 is always enough.
use Rattle.std.specs.Prelude.{ℕ, zero, suc, cond}
use Rattle.wiring.specs.declared.side.SideName.{SideName}
use Rattle.wiring.specs.Plan.{other}
use Rattle.radius.specs.Margin.{Measures, step_covered, next_bound}

unfoldable pub one_more : ℕ → ℕ
one_more zero = 0
one_more (suc q) = suc (suc q)

unfoldable pub chain_sweeps : Measures → SideName → ℕ → ℕ → ℕ
unfolding step_covered next_bound one_more other
chain_sweeps m to zero b = 0
chain_sweeps m to (suc t) zero = 1
chain_sweeps m to (suc t) (suc b) = cond (step_covered m to (suc b)) (one_more (chain_sweeps m (other to) t (next_bound m to (suc b)))) 0
