-- Laws of the margin: the chain of bounds b falls strictly, its sweeps are counted step by step, and the flips F that it covers
-- have no gaps.
-- The notions, of specs/Margin.antt and specs/Chain.antt:
--   Measures                 the numbers of a plan that the margin rests on
--   slack m to b             D·nr - 2·dl·b, the paper's A for a step to a side with that side's D
--   step_covered m to b       the step from b is covered: A is above 0 and its square above 4·nr·R
--   next_bound m to b         the next b
--   bound m F i              the b after sweep i + 1
--   chain_end m F             the first i at which the chain of b stops
--   sweeps_named m F          the sweeps named for F flips; 0 where F is not covered
--   chain_sweeps m to t b     the place of the first zero in the chain that begins with b and steps to a side, in at most t terms; 0 for none
-- and here
--   first_bound m F           the first b: 2F/D with the left D, rounded down
--   sweeps_from m to b        chain_sweeps with b + 1 terms, which are always enough
-- Names: the subject first (covered, next, chain, end, named), then the fact.
--   covered-slack, slack-covered, covered-mono       when a step is covered
--   next-falls, next-mono                            the next b
--   chain-zero, chain-step, chain-uncovered, chain_next  the chain step by step
--   chain-mono                                       its length
--   end-passed, end-le, end-failed, end-counted      where the chain of b stops, and how many sweeps that names
--   named_step, named-last                           the b of a covered F: every step is covered, and the last b is 0
--   named-is, named-one, named-zero, named_small, named-over  which F are covered, by which chain
--   named-monotone, named-le                         the covered F have no gaps; how many sweeps are named at most
use Rattle.std.proofs.Common.{ℕ, zero, suc, ◌+◌, ◌*◌, ◌/◌, ◌≤◌, ◌<◌, zero-le, Bool, true, false, cond, ◌&&◌, inl, inr, ◌≡◌, refl, sym, ap}
use Rattle.std.proofs.Common.{◌∙◌, div-lt_iff_lt-mul, eq-zero-or-pos, le_refl, mul-le-mul, mul-le-mul_left, mul-le-mul_right}
use Rattle.std.proofs.Common.{mul-lt-mul_of_pos_right, mul-pos, not-suc-le-zero, zero-add, add-one, arith, ltb, leb, eqb, ltb-true, lt-ltb}
use Rattle.std.proofs.Common.{leb-true, le-leb, eqb-true, ne_eqb}
use mathlib.Core.Logic.{◌≢◌}
use native.Mathlib.Nat.{div-zero}
use native.Mathlib.Nat.{zero-div}
use lib.Ieee.Nearest.{div_mono}
use Rattle.bits.proofs.Tests.{and_both}
use Rattle.bits.proofs.Searches.{first-passed, first-failed}
use Rattle.radius.specs.Margin.{Measures, slack, step_covered, next_bound, bound, chain_end, sweeps_named}
use Rattle.radius.specs.Chain.{one_more, chain_sweeps}
use Rattle.wiring.specs.Plan.{left, right, other}
use Rattle.wiring.specs.declared.side.SideName.{SideName}
use Rattle.sweeps.specs.Sweep.{turn}

abbrev pub first_bound : Measures → ℕ → ℕ
first_bound m F = 2 * F / m.distance left

abbrev pub sweeps_from : Measures → SideName → ℕ → ℕ
sweeps_from m to b = chain_sweeps m to (suc b) b

-- ---- tests, and one sweep more

cond-ext : (t : Bool) (x y : ℕ) → (t ≡ true → x ≡ y) → cond t x 0 ≡ cond t y 0
cond-ext true x y h = h refl
cond-ext false x y h = refl

cond-some : (t : Bool) (x : ℕ) → cond t x 0 ≢ 0 → t ≡ true
cond-some true x h = refl
cond-some false x h = absurd (h refl)

more-some : (x : ℕ) → x ≢ 0 → one_more x ≡ suc x
unfolding one_more
more-some zero h = absurd (h refl)
more-some (suc x) h = refl

more-ends : (x : ℕ) → one_more x ≢ 0 → x ≢ 0
unfolding one_more
more-ends zero h e = h refl
more-ends (suc x) h e = h (ap one_more e)

more-cond : (t : Bool) (k : ℕ) → one_more (cond t (suc k) 0) ≡ cond t (suc (suc k)) 0
unfolding one_more
more-cond true k = refl
more-cond false k = refl

module _ (m : Measures) where
  -- ---- when a step is covered

  pub covered-slack : (to : SideName) (b : ℕ) → step_covered m to b ≡ true → (0 < slack m to b) × (4 * m.n * m.spread < slack m to b * slack m to b)
  unfolding step_covered
  covered-slack to b e = let (p, q) = and_both _ _ e in (ltb-true _ _ p, ltb-true _ _ q)

  pub slack-covered : (to : SideName) (b : ℕ) → 0 < slack m to b → 4 * m.n * m.spread < slack m to b * slack m to b → step_covered m to b ≡ true
  unfolding step_covered
  slack-covered to b p q = rw (lt-ltb _ _ p, lt-ltb _ _ q)

  slack-mono : (to : SideName) (b c : ℕ) → b ≤ c → slack m to c ≤ slack m to b
  unfolding slack
  slack-mono to b c l = omega (arith, mul-le-mul_left (2 * m.d) l)

  pub covered-mono : (to : SideName) (b c : ℕ) → b ≤ c → step_covered m to c ≡ true → step_covered m to b ≡ true
  covered-mono to b c l covered =
      let (p, q) = covered-slack to c covered in
      let s = slack-mono to b c l in
      slack-covered to b (omega arith) (omega (arith, mul-le-mul s s))

  -- ---- the next b

  pub next-falls : (to : SideName) (b : ℕ) → step_covered m to b ≡ true → 0 < b → next_bound m to b < b
  unfolding next_bound
  next-falls to b covered pos =
      let (p, q) = covered-slack to b covered in
      (div-lt_iff_lt-mul (mul-pos p p)).1 (omega (arith, mul-lt-mul_of_pos_right q pos))

  pub next-mono : (to : SideName) (b c : ℕ) → b ≤ c → step_covered m to c ≡ true → next_bound m to b ≤ next_bound m to c
  unfolding next_bound
  next-mono to b c l covered =
      let p = (covered-slack to c covered).0 in
      let r = (covered-slack to b (covered-mono to b c l covered)).0 in
      let s = slack-mono to b c l in
      div_mono _ _ _ _ (mul-pos r r) (mul-pos p p) (mul-le-mul (mul-le-mul_left _ l) (mul-le-mul s s))

  -- ---- the chain step by step

  chain_same : (to : SideName) (t k b : ℕ) → b < t → b < k → chain_sweeps m to t b ≡ chain_sweeps m to k b
  unfolding chain_sweeps
  chain_same to zero k b p q = absurd (not-suc-le-zero p)
  chain_same to (suc t) zero b p q = absurd (not-suc-le-zero q)
  chain_same to (suc t) (suc k) zero p q = refl
  chain_same to (suc t) (suc k) (suc b) p q =
      cond-ext _ _ _ (λ covered.
      let fall = next-falls to (suc b) covered (omega arith) in
      ap one_more (chain_same (other to) t k _ (omega arith) (omega arith)))

  -- more terms than b + 1 change nothing
  chain-enough : (to : SideName) (t b : ℕ) → b < t → chain_sweeps m to t b ≡ sweeps_from m to b
  chain-enough to t b l = chain_same to t (suc b) b l (le_refl (suc b))

  pub chain-zero : (to : SideName) → sweeps_from m to 0 ≡ 1
  unfolding chain_sweeps
  chain-zero to = refl

  pub chain-step : (to : SideName) (b : ℕ) → 0 < b → step_covered m to b ≡ true
      → sweeps_from m to b ≡ one_more (sweeps_from m (other to) (next_bound m to b))
  unfolding chain_sweeps
  chain-step to zero pos covered = absurd (not-suc-le-zero pos)
  chain-step to (suc b) pos covered = rw covered (ap one_more (chain-enough (other to) (suc b) _ (next-falls to (suc b) covered pos)))

  chain-uncovered : (to : SideName) (b : ℕ) → 0 < b → step_covered m to b ≡ false → sweeps_from m to b ≡ 0
  unfolding chain_sweeps
  chain-uncovered to zero pos uncovered = absurd (not-suc-le-zero pos)
  chain-uncovered to (suc b) pos uncovered = rw uncovered

  chain-covered : (to : SideName) (b : ℕ) → 0 < b → sweeps_from m to b ≢ 0 → step_covered m to b ≡ true
  unfolding chain_sweeps
  chain-covered to zero pos some = absurd (not-suc-le-zero pos)
  chain-covered to (suc b) pos some = cond-some _ _ some

  -- a chain that ends takes a covered step to a chain that ends one sweep sooner
  pub chain_next : (to : SideName) (b : ℕ) → 0 < b → sweeps_from m to b ≢ 0
      → let rest : ℕ = sweeps_from m (other to) (next_bound m to b) in (step_covered m to b ≡ true) × (rest ≢ 0) × (sweeps_from m to b ≡ suc rest)
  chain_next to b pos some =
      let covered = chain-covered to b pos some in
      let step = chain-step to b pos covered in
      let ends = more-ends _ (rw step at some) in
      (covered, ends, step ∙ more-some _ ends)

  -- ---- the chain's length

  chain-mono-within : (t : ℕ) (to : SideName) (b c : ℕ) → c < t → b ≤ c → sweeps_from m to c ≢ 0
      → (sweeps_from m to b ≢ 0) × (sweeps_from m to b ≤ sweeps_from m to c)
  chain-mono-within zero to b c l h some = absurd (not-suc-le-zero l)
  chain-mono-within (suc t) to zero c l h some = rw (chain-zero to) (omega arith)
  chain-mono-within (suc t) to (suc b) c l h some =
      let (covered, rest, more) = chain_next to c (omega arith) some in
      let fall = next-falls to c covered (omega arith) in
      let (ends, sooner) = chain-mono-within t (other to) _ _ (omega arith) (next-mono to (suc b) c h covered) rest in
      let step = chain-step to (suc b) (omega arith) (covered-mono to (suc b) c h covered) in
      rw (more, step, more-some _ ends) (omega arith)

  -- a chain that begins lower ends no later
  pub chain-mono : (to : SideName) (b c : ℕ) → b ≤ c → sweeps_from m to c ≢ 0 → (sweeps_from m to b ≢ 0) × (sweeps_from m to b ≤ sweeps_from m to c)
  chain-mono to b c = chain-mono-within (suc c) to b c (le_refl (suc c))

  -- ---- where the chain of b stops

  module _ (F : ℕ) where
    -- b is above 0 and the step from it is covered
    abbrev goes_on : ℕ → Bool
    goes_on i = ltb 0 (bound m F i) && step_covered m (turn (i + 1)) (bound m F i)

    end-passed : (i : ℕ) → i < chain_end m F → (0 < bound m F i) × (step_covered m (turn (suc i)) (bound m F i) ≡ true)
    unfolding chain_end
    end-passed i l =
        let (pos, covered) = and_both _ _ (first-passed (bound m F 0 + 1) goes_on i l) in
        (ltb-true _ _ pos, rw add-one at covered)

    end_falls : (i : ℕ) → i ≤ chain_end m F → bound m F i + i ≤ bound m F 0
    unfolding bound
    end_falls zero l = omega arith
    end_falls (suc i) l =
        let (pos, covered) = end-passed i l in
        omega (arith, end_falls i (omega arith), next-falls (turn (suc i)) (bound m F i) covered pos)

    end-le : chain_end m F ≤ bound m F 0
    end-le = omega (arith, end_falls (chain_end m F) (le_refl _))

    end-failed : let end : ℕ = chain_end m F in 0 < bound m F end → step_covered m (turn (suc end)) (bound m F end) ≡ false
    unfolding chain_end
    end-failed pos =
        let inside : chain_end m F < bound m F 0 + 1 = omega (arith, end-le) in
        rw (lt-ltb _ _ pos, add-one (chain_end m F)) at (first-failed (bound m F 0 + 1) goes_on inside)

    -- the chain from the i-th b on, k steps before it stops
    end-counted : (k i : ℕ) → i + k ≡ chain_end m F
        → sweeps_from m (turn (suc i)) (bound m F i) ≡ cond (eqb (bound m F (chain_end m F)) 0) (suc k) 0
    unfolding bound turn
    end-counted zero i e =
        let here : i ≡ chain_end m F = omega arith in
        rw here (elim (eq-zero-or-pos (bound m F (chain_end m F))) [
          | inl none ↦ rw none (chain-zero (turn (suc (chain_end m F))))
          | inr pos ↦ chain-uncovered _ _ pos (end-failed pos) ∙ rw (ne_eqb (bound m F (chain_end m F)) 0 (λ none. omega arith))
        ])
    end-counted (suc k) i e =
        let (pos, covered) = end-passed i (omega arith) in
        chain-step (turn (suc i)) (bound m F i) pos covered ∙ ap one_more (end-counted k (suc i) (omega arith))
        ∙ more-cond (eqb (bound m F (chain_end m F)) 0) k

  -- ---- the sweeps named for F flips

  first-mono : (F G : ℕ) → F ≤ G → first_bound m F ≤ first_bound m G
  first-mono F G l =
      elim (eq-zero-or-pos (m.distance left)) [
        | inl none ↦ rw none (simp div-zero zero-le)
        | inr pos ↦ div_mono _ _ _ _ pos pos (mul-le-mul_right (m.distance left) (mul-le-mul_left 2 l))
      ]

  module _ (F : ℕ) where
    named-tests : sweeps_named m F ≡ cond (leb F m.edges && eqb (bound m F (chain_end m F)) 0) (chain_end m F + 1) 0
    unfolding sweeps_named
    named-tests = refl

    pub named-is : F ≤ m.edges → sweeps_named m F ≡ sweeps_from m right (first_bound m F)
    unfolding bound turn other
    named-is l = named-tests ∙ rw (le-leb _ _ l, add-one) (sym (end-counted F (chain_end m F) 0 (zero-add _)))

    -- a covered F is at most N, and its chain stops at a b that is 0
    named_end : sweeps_named m F ≢ 0 → (F ≤ m.edges) × (bound m F (chain_end m F) ≡ 0) × (sweeps_named m F ≡ chain_end m F + 1)
    named_end some =
        let both = cond-some _ _ (rw named-tests at some) in
        let (small, ends) = and_both _ _ both in
        (leb-true _ _ small, eqb-true _ _ ends, named-tests ∙ rw both)

    pub named_small : sweeps_named m F ≢ 0 → F ≤ m.edges
    named_small some = (named_end some).0

    pub named-over : m.edges < F → sweeps_named m F ≡ 0
    named-over over =
        elim (eq-zero-or-pos (sweeps_named m F)) [
          | inl none ↦ none
          | inr some ↦ absurd (omega (arith, named_small (λ none. omega arith)))
        ]

    pub named-le : sweeps_named m F ≤ first_bound m F + 1
    unfolding bound
    named-le =
        elim (eq-zero-or-pos (sweeps_named m F)) [
          | inl none ↦ omega arith
          | inr pos ↦ omega (arith, (named_end (λ none. omega arith)).2, end-le F)
        ]

    pub named_step : (i : ℕ) → suc i < sweeps_named m F → step_covered m (turn (suc i)) (bound m F i) ≡ true
    named_step i l = (end-passed F i (omega (arith, (named_end (λ none. omega arith)).2))).1

    pub named-last : (k : ℕ) → sweeps_named m F ≡ suc k → bound m F k ≡ 0
    named-last k e =
        let (small, none, more) = named_end (λ none. omega arith) in
        let last : chain_end m F ≡ k = omega arith in
        rw last at none

  -- where the first b is 0 one sweep is named, whatever the spread
  pub named-one : (F : ℕ) → F ≤ m.edges → first_bound m F ≡ 0 → sweeps_named m F ≡ 1
  named-one F l none = named-is F l ∙ rw none (chain-zero right)

  pub named-zero : sweeps_named m 0 ≡ 1
  named-zero = named-one 0 zero-le (rw zero-div)

  -- what is below a covered F is covered and names no more sweeps
  pub named-monotone : (F G : ℕ) → F ≤ G → sweeps_named m G ≢ 0 → (sweeps_named m F ≢ 0) × (sweeps_named m F ≤ sweeps_named m G)
  named-monotone F G l some =
      let small = named_small G some in
      let G-is = named-is G small in
      rw (named-is F (omega arith), G-is) (chain-mono right _ _ (first-mono F G l) (rw G-is at some))
