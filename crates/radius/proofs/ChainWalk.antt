-- Laws of the chain walked from its first b on, as code walks it: at each place stand the bound b and what is still to come.
--   step_covered, next_bound   when the step from b is covered, and the next b (specs Margin)
--   sweeps_from m to b     the place of the first zero in the chain that begins with b; 0 where a step is not covered (MarginChain)
--   counted p s              the same for the whole of a chain whose part from place p on has s
-- The laws `walk-` say what `counted` is where the walk starts, takes a covered step, stops at one that is not, and ends with b = 0.
use Rattle.std.proofs.Common.{ℕ, zero, suc, ◌+◌, ◌<◌, true, inl, inr, ◌≡◌, refl, ap, ◌∙◌, add-zero, eq-zero-or-pos, arith}
use Rattle.radius.specs.Margin.{Measures, step_covered, next_bound}
use Rattle.radius.specs.Chain.{one_more}
use Rattle.wiring.specs.declared.side.SideName.{SideName}
use Rattle.wiring.specs.Plan.{other}
use Rattle.radius.proofs.MarginChain.{sweeps_from, chain_next, chain-step, chain-zero}

unfoldable pub counted : ℕ → ℕ → ℕ
counted p zero = 0
counted p (suc q) = p + q

counted_none : (p : ℕ) → counted p 0 ≡ 0
unfolding counted
counted_none p = refl

counted-one : (p : ℕ) → counted p 1 ≡ p
unfolding counted
counted-one p = add-zero p

counted-more : (p s : ℕ) → counted p (one_more s) ≡ counted (p + 1) s
unfolding counted one_more
counted-more p zero = refl
counted-more p (suc q) = omega arith

pub walk-starts : (s : ℕ) → s ≡ counted 1 s
unfolding counted
walk-starts zero = refl
walk-starts (suc q) = omega arith

-- s is the answer for the whole chain, which has b at place p and steps to a side next
module _ (m : Measures) (to : SideName) (b s p : ℕ) (so_far : s ≡ counted p (sweeps_from m to b)) where
  pub walk_ends : b ≡ 0 → s ≡ p
  walk_ends end = (rw (end, chain-zero m to) at so_far) ∙ counted-one p

  module _ (pos : 0 < b) where
    pub walk_steps : step_covered m to b ≡ true → s ≡ counted (p + 1) (sweeps_from m (other to) (next_bound m to b))
    walk_steps covered = so_far ∙ ap (counted p) (chain-step m to b pos covered) ∙ counted-more p _

    pub walk-stops : (step_covered m to b ≡ true → ⊥) → s ≡ 0
    walk-stops uncovered =
        elim (eq-zero-or-pos (sweeps_from m to b)) [
          | inl none ↦ so_far ∙ ap (counted p) none ∙ counted_none p
          | inr some ↦ absurd (uncovered (chain_next m to b pos (λ none. omega arith)).0)
        ]
