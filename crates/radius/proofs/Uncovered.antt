-- Laws of the first number of flips that is not covered.
--   beyond m                   the first F, from 0 up, that is not covered (specs Margin)
-- Names: the subject first, then the fact.
--   beyond-covers              what is below the first F that is not covered is covered
--   beyond-is                  which F is the first that is not covered
--   beyond-all                 it is N + 1 where all up to N are
use Rattle.std.proofs.Common.{ℕ, ◌+◌, ◌≤◌, ◌<◌, ◌≡◌, sym, ◌∙◌, arith, ltb-true, lt-ltb, le-ltb}
use native.Mathlib.Decide.{dec_le}
use Rattle.bits.proofs.Searches.{first-at, first-all, first-passed}
use Rattle.radius.specs.Margin.{Measures, sweeps_named, beyond}
use Rattle.radius.proofs.MarginChain.{named_small, named-over}

module _ (m : Measures) where
  pub beyond-covers : (F : ℕ) → F < beyond m → 0 < sweeps_named m F
  unfolding beyond
  beyond-covers F l = ltb-true _ _ (first-passed (m.edges + 1) _ F l)

  pub beyond-is : (F : ℕ) → ((G : ℕ) → G < F → 0 < sweeps_named m G) → sweeps_named m F ≡ 0 → beyond m ≡ F
  unfolding beyond
  beyond-is F below none =
      elim (dec_le F m.edges) [
        | yes l ↦ first-at (m.edges + 1) _ F (omega arith) (λ G h. lt-ltb _ _ (below G h)) (rw none (le-ltb 0 0 (omega arith)))
        | no high ↦ first-all (m.edges + 1) _ (λ G h. lt-ltb _ _ (below G (omega arith))) ∙ last high
      ]
    where
      -- an F above N + 1 would have N + 1 below it, which is not covered
      last : (F ≤ m.edges → ⊥) → m.edges + 1 ≡ F
      last high =
          elim (dec_le F (m.edges + 1)) [
            | yes l ↦ omega arith
            | no h ↦ absurd (omega (arith, named_small m (m.edges + 1) (λ z. omega (arith, below (m.edges + 1) (omega arith)))))
          ]

  pub beyond-all : ((F : ℕ) → F < m.edges + 1 → 0 < sweeps_named m F) → m.edges + 1 ≡ beyond m
  beyond-all all = sym (beyond-is (m.edges + 1) all (named-over m (m.edges + 1) (omega arith)))
