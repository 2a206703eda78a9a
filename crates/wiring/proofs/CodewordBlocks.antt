-- Codeword blocks: every vertex of both sides reads an inner codeword.
--   satisfied side block v        vertex v reads an inner codeword (specs Block)
--   first_unsatisfied side block   the first vertex of a side that does not, n where all do (specs Block)
--   is_codeword_block sides block   every vertex, left and right, reads one (specs Block)
--   located sides block           the locator: no value, or the side and the first unsatisfied vertex (specs Block)
--   Whole N side                  the entries of a side are the bits 0 .. N - 1, each once (Permutation)
-- Laws are named by their subject, then by the fact: `unsatisfied-` is about the first vertex of one side, `codeword-block-` about
-- the test of a block, `located-` about the locator. At the end of a name, `-each` leads from the test to every vertex, `-back`
-- from every vertex to the test, `-ext` says that equal bits give equal answers, `-tests` writes a definition out.
use Rattle.std.proofs.Common.{ℕ, ◌≤◌, ◌<◌, Bool, true, false, cond, ◌&&◌, List, [], ◌∷◌, ◌≡◌, refl, sym, ap₂, ◌∙◌, le_antisymm, arith, ltb}
use Rattle.std.proofs.Common.{eqb, le-ltb, ltb-false, eqb-true, eq-eqb}
use Rattle.bits.proofs.Tests.{and_both}
use Rattle.wiring.specs.Plan.{Side, left, right}
use Rattle.wiring.specs.Block.{satisfied, first_unsatisfied, is_codeword_block, located}
use Rattle.wiring.specs.declared.side.SideName.{SideName}
use Rattle.bits.proofs.Searches.{first-le, first-all, first-all-each}

-- ---- one side

-- ---- both sides

-- a locator that gives no value has found no vertex f of m on the left and no vertex g of n on the right
located-empty : (f m g n : ℕ) → cond (ltb f m) (0 ∷ f ∷ []) (cond (ltb g n) (1 ∷ g ∷ []) []) ≡ [] → (m ≤ f) × (n ≤ g)
located-empty f m g n = go (ltb f m) (ltb g n) refl refl
  where
    go : (s t : Bool) → ltb f m ≡ s → ltb g n ≡ t → cond s (0 ∷ f ∷ []) (cond t (1 ∷ g ∷ []) []) ≡ [] → (m ≤ f) × (n ≤ g)
    go true t p q e = let z : ◌≡◌ {A = ℕ} 0 1 = cc in absurd (omega arith)
    go false true p q e = let z : ◌≡◌ {A = ℕ} 0 1 = cc in absurd (omega arith)
    go false false p q e = (ltb-false f m p, ltb-false g n q)

module _ (sides : SideName → Side) where
  abbrev unsatisfied : List ℕ → SideName → ℕ
  unsatisfied block name = first_unsatisfied (sides name) block

  codeword-block-tests : (block : List ℕ)
      → is_codeword_block sides block ≡ (eqb (unsatisfied block left) (sides left).n && eqb (unsatisfied block right) (sides right).n)
  unfolding is_codeword_block
  codeword-block-tests block = refl

  located-tests : (block : List ℕ)
      → located sides block
      ≡ cond (ltb (unsatisfied block left) (sides left).n) (0 ∷ unsatisfied block left ∷ [])
      (cond (ltb (unsatisfied block right) (sides right).n) (1 ∷ unsatisfied block right ∷ []) [])
  unfolding located
  located-tests block = refl

  -- a codeword block is one on whose sides no vertex is found
  none_found : (block : List ℕ) → is_codeword_block sides block ≡ true → (name : SideName) → unsatisfied block name ≡ (sides name).n
  none_found block e = go
    where
      both : (eqb (unsatisfied block left) (sides left).n ≡ true) × (eqb (unsatisfied block right) (sides right).n ≡ true)
      both = and_both _ _ (sym (codeword-block-tests block) ∙ e)

      go : (name : SideName) → unsatisfied block name ≡ (sides name).n
      go SideName.Left = eqb-true _ _ both.0
      go SideName.Right = eqb-true _ _ both.1

  none-found-back : (block : List ℕ) → ((name : SideName) → unsatisfied block name ≡ (sides name).n) → is_codeword_block sides block ≡ true
  none-found-back block none = codeword-block-tests block ∙ ap₂ ◌&&◌ (eq-eqb _ _ (none left)) (eq-eqb _ _ (none right))

  pub codeword-block-each : (block : List ℕ) → is_codeword_block sides block ≡ true
      → (name : SideName) (v : ℕ) → v < (sides name).n → satisfied (sides name) block v ≡ true
  unfolding first_unsatisfied
  codeword-block-each block e name = first-all-each (sides name).n _ (none_found block e name)

  pub codeword-block-back : (block : List ℕ) → ((name : SideName) (v : ℕ) → v < (sides name).n → satisfied (sides name) block v ≡ true)
      → is_codeword_block sides block ≡ true
  unfolding first_unsatisfied
  codeword-block-back block all = none-found-back block (λ name. first-all (sides name).n _ (all name))

  pub located-none : (block : List ℕ) → is_codeword_block sides block ≡ true → located sides block ≡ []
  located-none block e =
      let past : (name : SideName) → ltb (unsatisfied block name) (sides name).n ≡ false =
      λ name. le-ltb (unsatisfied block name) (sides name).n (omega (arith, none_found block e name)) in
      located-tests block ∙ rw (past left, past right)

  pub located-some : (block : List ℕ) → located sides block ≡ [] → is_codeword_block sides block ≡ true
  unfolding first_unsatisfied
  located-some block e = none-found-back block go
    where
      past : ((sides left).n ≤ unsatisfied block left) × ((sides right).n ≤ unsatisfied block right)
      past = located-empty _ _ _ _ (sym (located-tests block) ∙ e)

      go : (name : SideName) → unsatisfied block name ≡ (sides name).n
      go SideName.Left = le_antisymm (first-le _ _) past.0
      go SideName.Right = le_antisymm (first-le _ _) past.1
