-- Lists of values.
--   values n f   the list of f 0 .. f (n - 1) (specs Bit)
use Rattle.std.proofs.Common.{ℕ, zero, suc, ◌+◌, ◌<◌, List, [], ◌∷◌, ◌++◌, ⊎_elim, ◌≡◌, refl, sym, ap, ◌∙◌, not-suc-le-zero, eq-or-lt_of_le}
use Rattle.std.proofs.Common.{le_of_suc-le-suc, arith, length, get_or, length-append, ext_get_or, get_or-append-add}
use lib.ListN.{get_or-append}
use Rattle.bits.specs.Bit.{values}

pub length-values : (n : ℕ) (f : ℕ → ℕ) → length (values n f) ≡ n
unfolding values
length-values zero f = refl
length-values (suc n) f = rw (length-append, length-values n f) (omega arith)

pub values-at : (n : ℕ) (f : ℕ → ℕ) (i : ℕ) → i < n → get_or (values n f) i 0 ≡ f i
unfolding values
values-at zero f i l = absurd (not-suc-le-zero l)
values-at (suc n) f i l =
    ⊎_elim
    (λ (e : i ≡ n).
    let behind : i ≡ length (values n f) + 0 = omega (arith, length-values n f) in
    ap (λ (j : ℕ). get_or (values n f ++ (f n ∷ [])) j 0) behind ∙ get_or-append-add (values n f) (f n ∷ []) 0 0 ∙ ap f (sym e))
    (λ (k : i < n). get_or-append (values n f) (f n ∷ []) 0 i (omega (arith, length-values n f)) ∙ values-at n f i k)
    (eq-or-lt_of_le (le_of_suc-le-suc l))

-- a list of n numbers that are these values
pub values-ext : (n : ℕ) (f : ℕ → ℕ) (l : List ℕ) → length l ≡ n → ((i : ℕ) → i < n → get_or l i 0 ≡ f i) → l ≡ values n f
values-ext n f l size same =
    ext_get_or 0 l (values n f) (size ∙ sym (length-values n f)) (λ i h. same i (omega arith) ∙ sym (values-at n f i (omega arith)))
