-- `wiring::first_unsatisfied` meets its contract: within a side all vertices before v pass the test, and on the right side all of the left did.
use Rattle.std.proofs.Common.{arith, ◌≡◌, sym, ap, ◌∙◌, ℕ, zero, suc, ◌+◌, ◌<◌, ◌≤◌, List, [], ◌∷◌, slice_index_or}
use Rattle.wiring.specs.Plan.{left, right}
use Rattle.wiring.specs.Access.{both_codes, unsatisfied_by}
use Rattle.wiring.specs.declared.side.SideCode.{SideCode}
use Rattle.wiring.specs.declared.side.SideName.{SideName}
use Rattle.wiring.proofs.Locating.{found_by, by-none, by-one-more, by-found, located-found, located-nowhere}
use Rattle.wiring.proofs.locator.first_unsatisfied.Invariants.{passed}
use Rattle.wiring.proofs.locator.first_unsatisfied.Goals as goal
use Rattle.wiring.proofs.locator.first_unsatisfied.Goals.{After-code_of-code}

-- ---- the sides in order

abbrev side_at : ℕ → SideName
side_at i = slice_index_or {A = SideName} (left ∷ right ∷ []) i left

-- what holds of the sides before place i, and of the one there, holds of those before place i + 1
one-more : (P : SideName → Type 0) (i : ℕ) → i < 2 → (1 ≤ i → P left) → P (side_at i) → (1 ≤ i + 1 → P left) × (2 ≤ i + 1 → P right)
one-more P zero low first here = (λ _. here, λ two. absurd (omega arith))
one-more P (suc zero) low first here = (λ _. first (omega arith), λ _. here)
one-more P (suc (suc i)) low first here = absurd (omega arith)

-- the left side comes before the right one
before-right : (P : Type 0) (i : ℕ) → i < 2 → (1 ≤ i → P) → side_at i ≡ right → P
before-right P zero low first is = absurd (let never : left ≡ right → ⊥ = λ e. cc in never is)
before-right P (suc i) low first is = first (omega arith)

-- ---- the side that is searched

module _ (codes : SideName → SideCode) (wiring block : List ℕ) (code : SideCode) (side : SideName) (held : code ≡ codes side) where
  -- at the end of a side all its vertices have passed
  side-passed : (v : ℕ) → v ≡ code.n → unsatisfied_by code side wiring v block ≡ v → found_by codes wiring block side ≡ (codes side).n
  side-passed v e all =
      sym (ap (λ (x : SideCode). unsatisfied_by x side wiring x.n block) held)
      ∙ ap (λ (m : ℕ). unsatisfied_by code side wiring m block) (sym e) ∙ all ∙ e ∙ ap (λ (x : SideCode). x.n) held

  side-found : (v : ℕ) → unsatisfied_by code side wiring code.n block ≡ v → found_by codes wiring block side ≡ v
  side-found v e = sym (ap (λ (x : SideCode). unsatisfied_by x side wiring x.n block) held) ∙ e

module _ (c : After-code_of-code) where
  count : c.code_of-code.result.n ≡ (both_codes c.args.left c.args.right (side_at c.loop-side.side-index)).n
  count = ap (λ (x : SideCode). x.n) c.code_of-code.ensures

pub loop-side-init : goal.loop-side-init
loop-side-init c = record { first = λ one. absurd (omega arith); second = λ two. absurd (omega arith) }

pub loop-v-init : goal.loop-v-init
loop-v-init c = by-none _ _ _ _

pub read_word-word-requires : goal.read_word-word-requires
read_word-word-requires c =
    rw c.code_of-code.ensures
    (c.requires.each (side_at c.loop-side.side-index) c.loop-v.v (omega (arith, count (goal.at.read_word-word-requires c).After-code_of-code)))

pub loop-v-preserved : goal.loop-v-preserved
loop-v-preserved c = by-one-more _ _ _ _ _ _ _ c.loop-v.invariant c.read_word-word.ensures c.residue.ensures c.if-residue-ne0.false

pub loop-side-preserved : goal.loop-side-preserved
loop-side-preserved c =
    let codes = both_codes c.args.left c.args.right in
    let i = c.loop-side.side-index in
    let here = side-passed codes c.args.wiring.now c.args.block.now c.code_of-code.result (side_at i) c.code_of-code.ensures c.loop-v.v
    (omega arith) c.loop-v.invariant in
    let (first, second) = one-more (λ (name : SideName). passed c.args.left c.args.right c.args.wiring.now c.args.block.now name) i (omega arith)
    c.loop-side.invariant.first here in
    record { first = first; second = second }

pub returns-then-residue-ne0 : goal.returns-then-residue-ne0
returns-then-residue-ne0 c =
    let codes = both_codes c.args.left c.args.right in
    let i = c.loop-side.side-index in
    let found = by-found _ _ _ _ _ _ _ _ (omega arith) c.loop-v.invariant c.read_word-word.ensures c.residue.ensures c.if-residue-ne0.true in
    sym (located-found codes c.args.wiring.now c.args.block.now (side_at i) c.loop-v.v
    (λ is. before-right (passed c.args.left c.args.right c.args.wiring.now c.args.block.now left) i (omega arith) c.loop-side.invariant.first is)
    (side-found codes c.args.wiring.now c.args.block.now c.code_of-code.result (side_at i) c.code_of-code.ensures c.loop-v.v found)
    (omega (arith, count (goal.at.returns-then-residue-ne0 c).After-code_of-code)))

pub returns-after-loop-side : goal.returns-after-loop-side
returns-after-loop-side c =
    sym (located-nowhere (both_codes c.args.left c.args.right) _ _ (c.loop-side.invariant.first (omega arith)) (c.loop-side.invariant.second (omega arith)))
