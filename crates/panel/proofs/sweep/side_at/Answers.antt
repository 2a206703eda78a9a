-- `panel::side_at` meets its contract: the sides take turns, so that a sweep is of the left side exactly if the number before it is even.
use Rattle.std.proofs.Common.{◌≡◌, refl, sym, ap, ℕ, zero, suc, ◌%◌, arith}
use Rattle.wiring.specs.Plan.{left, right, other}
use Rattle.sweeps.specs.Sweep.{turn}
use Rattle.panel.proofs.sweep.side_at.Goals as goal

turns : (i : ℕ) → (i % 2 ≡ 0 → turn i ≡ left) × ((i % 2 ≡ 0 → ⊥) → turn i ≡ right)
unfolding turn other
turns zero = (λ even. refl, λ odd. absurd (odd refl))
turns (suc i) = (λ even. ap other ((turns i).1 (λ e. omega arith)), λ odd. ap other ((turns i).0 (omega arith)))

pub returns-then-sweeps-eq0 : goal.returns-then-sweeps-eq0
returns-then-sweeps-eq0 c = sym ((turns _).0 c.if-sweeps-eq0.true)

pub returns : goal.returns
returns c = sym ((turns _).1 c.if-sweeps-eq0.false)
