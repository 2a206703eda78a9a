-- The inner distance D: the fewest ones in a nonzero codeword.
--   distance row k   D of the code that the first k rows make
-- It is at least 1, no nonzero codeword has fewer ones, and some nonzero codeword has that many.
use Rattle.std.proofs.Common.{◌≡◌, refl, sym, ap, ◌∙◌, subst, ⊎_elim, Bool, true, cond, ℕ, zero, suc, ◌+◌, ◌^◌, ◌≤◌, ◌<◌, min, le_of_lt}
use Rattle.std.proofs.Common.{pos_of_ne-zero, arith, ne_eqb}
use native.Mathlib.Nat.{min-eq_left, min-eq_right}
use lib.Count.{ones, ones-le}
use Rattle.bits.proofs.Xor.{ones_pos}
use Rattle.inner_code.specs.Reduction.{ones_unless_zero, fewest_ones}
use Rattle.inner_code.specs.Code.{combination, is_codeword, distance}
use Rattle.bits.proofs.Searches.{least-one-more, least-top, least-le, least-ge, least-found, least-ext}
use Rattle.inner_code.proofs.Combinations.{codeword-found, codeword-combination}

ones_unless_zero-zero : ones_unless_zero 0 ≡ 17
unfolding ones_unless_zero
ones_unless_zero-zero = refl

pub ones_unless_zero-pos : (w : ℕ) → 0 < w → ones_unless_zero w ≡ ones w
unfolding ones_unless_zero
ones_unless_zero-pos w h = ap (λ (t : Bool). cond t 17 (ones w)) (ne_eqb w 0 (λ e. omega arith))

-- ---- the search over listed words, one more word at a time

step : (words : ℕ → ℕ) (n fewest : ℕ) → fewest ≡ fewest_ones words n → fewest_ones words (n + 1) ≡ min fewest (ones_unless_zero (words n))
unfolding fewest_ones
step words n fewest e = least-one-more 17 _ n ∙ ap (λ (x : ℕ). min x (ones_unless_zero (words n))) (sym e)

pub fewest-lower : (words : ℕ → ℕ) (n fewest : ℕ) → fewest ≡ fewest_ones words n → (words n ≡ 0 → ⊥) → ones (words n) < fewest
    → ones (words n) ≡ fewest_ones words (n + 1)
fewest-lower words n fewest e p h =
    let value : ones_unless_zero (words n) ≡ ones (words n) = ones_unless_zero-pos (words n) (pos_of_ne-zero p) in
    sym (step words n fewest e ∙ ap (min fewest) value ∙ min-eq_right (le_of_lt h))

pub fewest-kept : (words : ℕ → ℕ) (n fewest : ℕ) → fewest ≡ fewest_ones words n → (words n ≡ 0 → ⊥) → fewest ≤ ones (words n)
    → fewest ≡ fewest_ones words (n + 1)
fewest-kept words n fewest e p h =
    let value : ones_unless_zero (words n) ≡ ones (words n) = ones_unless_zero-pos (words n) (pos_of_ne-zero p) in
    sym (step words n fewest e ∙ ap (min fewest) value ∙ min-eq_left h)

pub fewest-zero : (words : ℕ → ℕ) (n fewest : ℕ) → fewest ≡ fewest_ones words n → words n ≡ 0 → fewest ≡ fewest_ones words (n + 1)
unfolding fewest_ones
fewest-zero words n fewest e z =
    sym (step words n fewest e ∙ ap (min fewest) (ap ones_unless_zero z ∙ ones_unless_zero-zero)
    ∙ min-eq_left (subst (λ (x : ℕ). x ≤ 17) (sym e) (least-top 17 _ n)))

-- words that are the codewords have the code's distance
pub fewest-distance : (row words : ℕ → ℕ) (k : ℕ) → ((m : ℕ) → m < 2 ^ k → words m ≡ combination row k m) → fewest_ones words (2 ^ k) ≡ distance row k
unfolding fewest_ones distance ones_unless_zero
fewest-distance row words k listed = least-ext 17 _ _ (2 ^ k) (λ m h. ap ones_unless_zero (listed m h))

-- ---- the distance

pub distance-pos : (row : ℕ → ℕ) (k : ℕ) → 1 ≤ distance row k
unfolding distance ones_unless_zero
distance-pos row k = least-ge 17 _ (2 ^ k) 1 (omega arith) (λ m h. each (combination row k m))
  where
    each : (w : ℕ) → 1 ≤ ones_unless_zero w
    each zero = omega (arith, ones_unless_zero-zero)
    each (suc w) = omega (arith, ones_unless_zero-pos (suc w) (omega arith), ones_pos (suc w) (omega arith))

pub distance-le : (row : ℕ → ℕ) (k w : ℕ) → is_codeword row k w ≡ true → 0 < w → distance row k ≤ ones w
unfolding distance ones_unless_zero
distance-le row k w e h =
    let t = codeword-found row k w e in
    subst (λ (x : ℕ). distance row k ≤ x) (ap ones_unless_zero (sym t.2) ∙ ones_unless_zero-pos w h)
    (least-le 17 (λ m. ones_unless_zero (combination row k m)) (2 ^ k) t.0 t.1)

-- a code with a nonzero codeword of at most 16 digits has one of D ones
pub distance-attained : (row : ℕ → ℕ) (k c : ℕ) → is_codeword row k c ≡ true → 0 < c → c < 2 ^ 16
    → (w : ℕ) × (is_codeword row k w ≡ true) × (0 < w) × (ones w ≡ distance row k)
unfolding distance ones_unless_zero
distance-attained row k c e h l =
    ⊎_elim (λ (q : distance row k ≡ 17). absurd (omega (arith, distance-le row k c e h, ones-le 16 c l)))
    (λ (t : (m : ℕ) × (m < 2 ^ k) × (distance row k ≡ ones_unless_zero (combination row k m))).
    go (combination row k t.0) (codeword-combination row k t.0 t.1) t.2)
    (least-found 17 (λ m. ones_unless_zero (combination row k m)) (2 ^ k))
  where
    go : (w : ℕ) → is_codeword row k w ≡ true → distance row k ≡ ones_unless_zero w
        → (x : ℕ) × (is_codeword row k x ≡ true) × (0 < x) × (ones x ≡ distance row k)
    go zero f q = absurd (omega (arith, ones_unless_zero-zero, distance-le row k c e h, ones-le 16 c l))
    go (suc w) f q = (suc w, f, omega arith, sym (q ∙ ones_unless_zero-pos (suc w) (omega arith)))
