-- Lists of numbers after a store, and lists of zeros.
--   at l i   the number at the index i of a list, 0 past its end (specs Window)
--   KeptFrom n before after   from index n on the list is as it was (specs Window)
-- Laws are named by their subject, then by the fact: `at-set-` is about a list after a store, `-same` where it was made and `-other` elsewhere;
-- `kept-` is about what no store reaches, `zeros-` about a list of zeros.
use Rattle.std.proofs.Common.{ℕ, ◌<◌, List, ◌≡◌, refl, ◌∙◌, arith, length, get_or, set, replicate, get_or-set_same, get_or-set_other}
use native.Mathlib.Decide.{dec_le}
use lib.ListN.{length-replicate, get_or-replicate, get_or-eq_default}
use Rattle.bits.specs.Window.{at, KeptFrom}

pub at_set_same : (l : List ℕ) (i a : ℕ) → i < length l → at (set l i a) i ≡ a
unfolding at
at_set_same l i a h = get_or-set_same l i a 0 h

pub at_set_other : (l : List ℕ) (i j a : ℕ) → (j ≡ i → ⊥) → at (set l i a) j ≡ at l j
unfolding at
at_set_other l i j a h = get_or-set_other l i j a 0 h

-- what stands from an index on stays where all stores are before it
pub kept-start : (n : ℕ) (l : List ℕ) → KeptFrom n l l
kept-start n l = record { each = λ i past. refl }

pub kept_set : {n : ℕ} {before l : List ℕ} → KeptFrom n before l → (i a : ℕ) → i < n → KeptFrom n before (set l i a)
kept_set {l = l} kept i a below = record { each = λ j past. at_set_other l i j a (λ e. omega arith) ∙ kept.each j past }

-- a list of zeros has 0 everywhere, past its end too
pub zeros-at : (n k : ℕ) → get_or {A = ℕ} (replicate n 0) k 0 ≡ 0
zeros-at n k =
    elim (dec_le n k) [
      | yes past ↦ get_or-eq_default {A = ℕ} (replicate n 0) 0 {n = k} (omega (arith, length-replicate {A = ℕ} n 0))
      | no inside ↦ get_or-replicate {A = ℕ} n k 0 0 (omega arith)
    ]
