-- Membership of a word in k steps: the word is reduced by an echelon form of the rows, and is a codeword exactly if 0 is left.
--   reduce_by b w        w with b on it where that makes it smaller
--   reduced row i w     w reduced by the echelon form of the first i rows; `echelon row i` is row i so reduced
--   reduced_by basis n w w reduced by a given list of rows
-- Each is additive: it takes an exclusive-or to the exclusive-or of its values (`-xor`).
use Rattle.std.proofs.Common.{◌≡◌, refl, sym, ap, ap₂, ◌∙◌, subst, ◌⊎◌, ⊎_elim, Bool, true, false, true≢false, List, ℕ, zero, suc, ◌+◌, ◌*◌}
use Rattle.std.proofs.Common.{◌/◌, ◌%◌, ◌^◌, ◌≤◌, ◌<◌, min, zero-mul, one-mul, pow-suc, eq-zero-or-pos, not-suc-le-zero, le_of_lt, le_trans}
use Rattle.std.proofs.Common.{lt-suc_self, le_refl, ne_of_lt, mul_comm, add-one, arith, eq-eqb, ne_eqb, eqb, length, get_or, set}
use Rattle.std.proofs.Common.{length-set, get_or-set_same, get_or-set_other, bit_xor, pow_pos, pow-add}
use native.Mathlib.Nat.{min-eq_left, min-eq_right, min-le_left, min-le_right, min-zero, zero-min, div-eq_of_lt-le}
use native.Mathlib.Nat.{le-suc_iff, suc_inj, le_step}
use native.Mathlib.Nat.{le_dest}
use native.Mathlib.Decide.{dec_lt}
use lib.Bits.{xor_self, xor_comm, xor_zero_r, xor_shr, xor_shifted}
use lib.Count.{leading_top}
use lib.Pow.{shr_mono}
use Rattle.bits.specs.Window.{at}
use Rattle.bits.specs.Bit.{digit}
use Rattle.bits.proofs.Xor.{xor_assoc, xor-cancel, xor-swap, xor-half, xor-parity, xor-pow, xor-digit, digit_lt}
use Rattle.inner_code.specs.Code.{combination, is_codeword}
use Rattle.inner_code.specs.Reduction.{reduce_by, reduced, echelon, reduced_by, with_echelon}
use Rattle.bits.proofs.Searches.{min-either}
use Rattle.inner_code.proofs.Combinations.{digit-times, combination-none, combination-lower, combination-upper}
use Rattle.inner_code.proofs.Combinations.{codeword-zero, codeword-xor, codeword-more, codeword-last-row, codeword-found}

-- ---- one step

below-pow : (b : ℕ) → b < 2 ^ b
below-pow zero = pow_pos 0
below-pow (suc b) = omega (arith, below-pow b, pow-suc 2 b)

-- a number's highest digit
pub highest : (b : ℕ) → 0 < b → (p : ℕ) × (2 ^ p ≤ b) × (b < 2 ^ suc p)
highest b h = let t = leading_top b b h (below-pow b) in (t.0, t.2, t.3)

-- one step puts b on w exactly where w has b's highest digit
pub reduce_by-digit : (b p w : ℕ) → 2 ^ p ≤ b → b < 2 ^ suc p → reduce_by b w ≡ bit_xor w (digit w p * b)
unfolding reduce_by digit
reduce_by-digit b p w low high = go (w / 2 ^ p % 2) refl (digit_lt w p)
  where
    top : bit_xor w b / 2 ^ p ≡ bit_xor (w / 2 ^ p) 1
    top = xor_shr w b p ∙ ap (bit_xor (w / 2 ^ p)) (div-eq_of_lt-le {k = 1} (2 ^ p) (omega arith) (omega (arith, pow-suc 2 p)))

    half : bit_xor (w / 2 ^ p) 1 / 2 ≡ w / 2 ^ p / 2
    half = xor-half (w / 2 ^ p) 1 ∙ xor_zero_r (w / 2 ^ p / 2)

    go : (t : ℕ) → w / 2 ^ p % 2 ≡ t → t < 2 → min w (bit_xor w b) ≡ bit_xor w (t * b)
    go zero e l =
        ⊎_elim (λ (m : min w (bit_xor w b) ≡ w). m ∙ sym (ap (bit_xor w) (zero-mul b) ∙ xor_zero_r w))
        (λ (m : min w (bit_xor w b) ≡ bit_xor w b).
        absurd (omega (arith, top, shr_mono p (rw m at (min-le_left w (bit_xor w b))), half, xor-parity (w / 2 ^ p) 1)))
        (min-either w (bit_xor w b))
    go (suc zero) e l =
        ⊎_elim (λ (m : min w (bit_xor w b) ≡ w).
        absurd (omega (arith, top, shr_mono p (rw m at (min-le_right w (bit_xor w b))), half, xor-parity (w / 2 ^ p) 1)))
        (λ (m : min w (bit_xor w b) ≡ bit_xor w b). m ∙ ap (bit_xor w) (sym (one-mul b))) (min-either w (bit_xor w b))
    go (suc (suc t)) e l = absurd (omega arith)

nothing : {b : ℕ} (w : ℕ) → b ≡ 0 → reduce_by b w ≡ w
unfolding reduce_by
nothing w e = ap (min w) (ap (bit_xor w) e ∙ xor_zero_r w) ∙ min-eq_left (le_refl w)

pub reduce_by-xor : (b x y : ℕ) → reduce_by b (bit_xor x y) ≡ bit_xor (reduce_by b x) (reduce_by b y)
reduce_by-xor b x y = ⊎_elim none some (eq-zero-or-pos b)
  where
    none : b ≡ 0 → reduce_by b (bit_xor x y) ≡ bit_xor (reduce_by b x) (reduce_by b y)
    none e = nothing (bit_xor x y) e ∙ sym (ap₂ bit_xor (nothing x e) (nothing y e))

    some : 0 < b → reduce_by b (bit_xor x y) ≡ bit_xor (reduce_by b x) (reduce_by b y)
    some h =
        let t = highest b h in
        let put : (w : ℕ) → reduce_by b w ≡ bit_xor w (digit w t.0 * b) = λ w. reduce_by-digit b t.0 w t.1 t.2 in
        put (bit_xor x y)
        ∙ ap (bit_xor (bit_xor x y))
        (ap (λ (a : ℕ). a * b) (xor-digit x y t.0) ∙ digit-times (digit x t.0) (digit y t.0) b (digit_lt x t.0) (digit_lt y t.0))
        ∙ xor-swap x y (digit x t.0 * b) (digit y t.0 * b)
        ∙ sym (ap₂ bit_xor (put x) (put y))

reduce_by-self : (b : ℕ) → reduce_by b b ≡ 0
unfolding reduce_by
reduce_by-self b = ap (min b) (xor_self b) ∙ min-zero b

reduce_by-zero : (b : ℕ) → reduce_by b 0 ≡ 0
unfolding reduce_by
reduce_by-zero b = zero-min b

-- a step puts b on, or nothing
reduce_by-either : (b w : ℕ) → (reduce_by b w ≡ w) ⊎ (reduce_by b w ≡ bit_xor w b)
unfolding reduce_by
reduce_by-either b w = min-either w (bit_xor w b)

-- ---- all steps

-- a further row leaves no more
pub reduced-further : (row : ℕ → ℕ) (k w : ℕ) → reduced row (suc k) w ≤ reduced row k w
unfolding reduced reduce_by
reduced-further row k w = min-le_left (reduced row k w) _

pub reduced-le : (row : ℕ → ℕ) (k w : ℕ) → reduced row k w ≤ w
unfolding reduced
reduced-le row zero w = le_refl w
reduced-le row (suc k) w = le_trans (reduced-further row k w) (reduced-le row k w)

pub reduced-xor : (row : ℕ → ℕ) (k x y : ℕ) → reduced row k (bit_xor x y) ≡ bit_xor (reduced row k x) (reduced row k y)
unfolding reduced
reduced-xor row zero x y = refl
reduced-xor row (suc k) x y =
    ap (reduce_by (reduced row k (row k))) (reduced-xor row k x y) ∙ reduce_by-xor (reduced row k (row k)) (reduced row k x) (reduced row k y)

pub reduced-zero : (row : ℕ → ℕ) (k : ℕ) → reduced row k 0 ≡ 0
unfolding reduced
reduced-zero row zero = refl
reduced-zero row (suc k) = ap (reduce_by (reduced row k (row k))) (reduced-zero row k) ∙ reduce_by-zero (reduced row k (row k))

-- nothing is left of a row
reduced-row : (row : ℕ → ℕ) (k i : ℕ) → i < k → reduced row k (row i) ≡ 0
unfolding reduced
reduced-row row zero i h = absurd (not-suc-le-zero h)
reduced-row row (suc k) i h =
    ⊎_elim (λ (l : suc i ≤ k). ap (reduce_by (reduced row k (row k))) (reduced-row row k i l) ∙ reduce_by-zero (reduced row k (row k)))
    (λ (e : suc i ≡ suc k). ap (λ (j : ℕ). reduce_by (reduced row k (row k)) (reduced row k (row j))) (suc_inj e)
    ∙ reduce_by-self (reduced row k (row k)))
    (le-suc_iff.0 h)

-- nothing is left of a combination of rows
reduced-combination : (row : ℕ → ℕ) (k j m : ℕ) → j ≤ k → reduced row k (combination row j m) ≡ 0
unfolding combination
reduced-combination row k zero m h = reduced-zero row k
reduced-combination row k (suc j) m h =
    reduced-xor row k (combination row j m) (digit m j * row j)
    ∙ ap₂ bit_xor (reduced-combination row k j m (le_of_lt h)) (times (digit m j) (digit_lt m j))
  where
    times : (t : ℕ) → t < 2 → reduced row k (t * row j) ≡ 0
    times zero l = ap (reduced row k) (zero-mul (row j)) ∙ reduced-zero row k
    times (suc zero) l = ap (reduced row k) (one-mul (row j)) ∙ reduced-row row k j h
    times (suc (suc t)) l = absurd (omega arith)

-- what is left of the powers of 2 combines to what is left of any number
pub reduced-powers : (row : ℕ → ℕ) (k from : ℕ) (left : ℕ → ℕ) → ((b : ℕ) → left b ≡ reduced row k (2 ^ (from + b))) → (n m : ℕ) → m < 2 ^ n
    → combination left n m ≡ reduced row k (m * 2 ^ from)
reduced-powers row k from left is zero m h =
    let none : m ≡ 0 = omega arith in
    rw none (combination-none left 0 ∙ sym (ap (reduced row k) (zero-mul (2 ^ from)) ∙ reduced-zero row k))
reduced-powers row k from left is (suc n) m h =
    elim (dec_lt m (2 ^ n)) [
      | yes low ↦ combination-lower left n m low ∙ reduced-powers row k from left is n m low
      | no high ↦ upper (reduced-powers row k from left is n) (le_dest (omega arith))
    ]
  where
    upper : ((j : ℕ) → j < 2 ^ n → combination left n j ≡ reduced row k (j * 2 ^ from)) → (j : ℕ) × (2 ^ n + j ≡ m)
        → combination left (suc n) m ≡ reduced row k (m * 2 ^ from)
    upper before (j, e) =
        let j-lt : j < 2 ^ n = omega (arith, pow-suc 2 n, e, h) in
        let joined : bit_xor (j * 2 ^ from) (2 ^ (from + n)) ≡ (2 ^ n + j) * 2 ^ from =
        ap (bit_xor (j * 2 ^ from)) (pow-add 2 from n ∙ mul_comm (2 ^ from) (2 ^ n)) ∙ xor-pow j (2 ^ n) from
        ∙ ap (λ (x : ℕ). x * 2 ^ from)
        (xor_comm j (2 ^ n) ∙ ap (λ (x : ℕ). bit_xor x j) (sym (one-mul (2 ^ n))) ∙ xor_shifted 1 n j j-lt
        ∙ ap (λ (x : ℕ). x + j) (one-mul (2 ^ n))) in
        rw (← e) (combination-upper left n j j-lt ∙ ap₂ bit_xor (before j j-lt) (is n)
        ∙ sym (reduced-xor row k (j * 2 ^ from) (2 ^ (from + n))) ∙ ap (reduced row k) joined)

-- of a word they leave the exclusive-or of what they leave of its halves
pub reduced-halves : (row : ℕ → ℕ) (k w : ℕ)
    → bit_xor (reduced row k (w % 256 * 2 ^ 0)) (reduced row k (w / 256 * 2 ^ 8)) ≡ reduced row k w
reduced-halves row k w =
    sym (reduced-xor row k (w % 256 * 2 ^ 0) (w / 256 * 2 ^ 8))
    ∙ ap (reduced row k) (xor_comm (w % 256 * 2 ^ 0) (w / 256 * 2 ^ 8) ∙ xor_shifted (w / 256) 8 (w % 256 * 2 ^ 0) (omega arith) ∙ omega arith)

-- the last step takes off a codeword, or nothing
last_step : (row : ℕ → ℕ) (k w : ℕ) → is_codeword row k (bit_xor w (reduced row k w)) ≡ true → is_codeword row k (bit_xor (row k) (echelon row k)) ≡ true
    → is_codeword row (suc k) (bit_xor w (reduce_by (echelon row k) (reduced row k w))) ≡ true
last_step row k w before last = ⊎_elim kept put (reduce_by-either e x)
  where
    e : ℕ
    e = echelon row k

    x : ℕ
    x = reduced row k w

    apart : is_codeword row (suc k) (bit_xor w x) ≡ true
    apart = codeword-more row k (bit_xor w x) before

    e-codeword : is_codeword row (suc k) e ≡ true
    e-codeword =
        subst (λ (y : ℕ). is_codeword row (suc k) y ≡ true) (xor-cancel (row k) e)
        (codeword-xor row (suc k) (row k) (bit_xor (row k) e) (codeword-last-row row k) (codeword-more row k (bit_xor (row k) e) last))

    kept : reduce_by e x ≡ x → is_codeword row (suc k) (bit_xor w (reduce_by e x)) ≡ true
    kept q = subst (λ (y : ℕ). is_codeword row (suc k) (bit_xor w y) ≡ true) (sym q) apart

    put : reduce_by e x ≡ bit_xor x e → is_codeword row (suc k) (bit_xor w (reduce_by e x)) ≡ true
    put q =
        subst (λ (y : ℕ). is_codeword row (suc k) y ≡ true) (xor_assoc w x e ∙ ap (bit_xor w) (sym q))
        (codeword-xor row (suc k) (bit_xor w x) e apart e-codeword)

-- what was taken off is a codeword
pub reduced-apart : (row : ℕ → ℕ) (k w : ℕ) → is_codeword row k (bit_xor w (reduced row k w)) ≡ true
unfolding reduced echelon
reduced-apart row zero w = subst (λ (x : ℕ). is_codeword row 0 x ≡ true) (sym (xor_self w)) (codeword-zero row 0)
reduced-apart row (suc k) w = last_step row k w (reduced-apart row k w) (reduced-apart row k (row k))

-- ---- membership

pub codeword-reduced : (row : ℕ → ℕ) (k w : ℕ) → is_codeword row k w ≡ true → reduced row k w ≡ 0
codeword-reduced row k w e =
    let t = codeword-found row k w e in
    ap (reduced row k) t.2 ∙ reduced-combination row k k t.0 (le_refl k)

pub reduced-codeword : (row : ℕ → ℕ) (k w : ℕ) → reduced row k w ≡ 0 → is_codeword row k w ≡ true
reduced-codeword row k w e =
    subst (λ (x : ℕ). is_codeword row k x ≡ true) (ap (bit_xor w) e ∙ xor_zero_r w) (reduced-apart row k w)

pub codeword-test : (row : ℕ → ℕ) (k w : ℕ) → is_codeword row k w ≡ eqb (reduced row k w) 0
codeword-test row k w = go (is_codeword row k w) refl
  where
    go : (t : Bool) → is_codeword row k w ≡ t → is_codeword row k w ≡ eqb (reduced row k w) 0
    go true e = e ∙ sym (eq-eqb _ 0 (codeword-reduced row k w e))
    go false e = e ∙ sym (ne_eqb _ 0 (λ z. true≢false (sym (reduced-codeword row k w z) ∙ e)))

-- ---- the rows as the code keeps them

reduced_by-echelon : (basis row : ℕ → ℕ) (n w : ℕ) → ((i : ℕ) → i < n → basis i ≡ echelon row i) → reduced_by basis n w ≡ reduced row n w
unfolding reduced_by reduced echelon
reduced_by-echelon basis row zero w h = refl
reduced_by-echelon basis row (suc n) w h = ap₂ reduce_by (h n (lt-suc_self n)) (reduced_by-echelon basis row n w (λ i l. h i (le_step l)))

pub reduced_by-zero : (basis : ℕ → ℕ) (n : ℕ) → reduced_by basis n 0 ≡ 0
unfolding reduced_by reduce_by
reduced_by-zero basis zero = refl
reduced_by-zero basis (suc n) = rw (reduced_by-zero basis n) (min-eq_left (omega arith))

pub reduced_by-put : (basis : ℕ → ℕ) (n w left : ℕ) → left ≡ reduced_by basis n w → bit_xor left (basis n) < left
    → bit_xor left (basis n) ≡ reduced_by basis (n + 1) w
unfolding reduced_by reduce_by
reduced_by-put basis n w left e h = rw (add-one, ← e) (sym (min-eq_right (le_of_lt h)))

pub reduced_by-kept : (basis : ℕ → ℕ) (n w left : ℕ) → left ≡ reduced_by basis n w → left ≤ bit_xor left (basis n)
    → left ≡ reduced_by basis (n + 1) w
unfolding reduced_by reduce_by
reduced_by-kept basis n w left e h = rw (add-one, ← e) (sym (min-eq_left h))

pub length-with_echelon : (row : ℕ → ℕ) (n : ℕ) (l : List ℕ) → length (with_echelon row n l) ≡ length l
unfolding with_echelon
length-with_echelon row zero l = refl
length-with_echelon row (suc n) l = length-set (with_echelon row n l) n (echelon row n) ∙ length-with_echelon row n l

pub with_echelon-at : (row : ℕ → ℕ) (n : ℕ) (l : List ℕ) (i : ℕ) → i < n → n ≤ length l → get_or (with_echelon row n l) i 0 ≡ echelon row i
unfolding with_echelon
with_echelon-at row zero l i h f = absurd (not-suc-le-zero h)
with_echelon-at row (suc n) l i h f =
    ⊎_elim (λ (p : suc i ≤ n). get_or-set_other (with_echelon row n l) n i (echelon row n) 0 (ne_of_lt p) ∙ with_echelon-at row n l i p (le_of_lt f))
    (λ (e : suc i ≡ suc n).
    subst (λ (j : ℕ). get_or (set (with_echelon row n l) n (echelon row n)) j 0 ≡ echelon row j) (sym (suc_inj e))
    (get_or-set_same (with_echelon row n l) n (echelon row n) 0 (omega (arith, length-with_echelon row n l)))) (le-suc_iff.0 h)

pub with_echelon-one-more : (row : ℕ → ℕ) (n : ℕ) (l : List ℕ) → with_echelon row (n + 1) l ≡ set (with_echelon row n l) n (echelon row n)
unfolding with_echelon
with_echelon-one-more row n l = rw add-one

-- what the code's reduction by a stored echelon form leaves
pub reduced_by-stored : (row : ℕ → ℕ) (n : ℕ) (l : List ℕ) (w : ℕ) → n ≤ length l → reduced_by (at (with_echelon row n l)) n w ≡ reduced row n w
unfolding at
reduced_by-stored row n l w h = reduced_by-echelon (at (with_echelon row n l)) row n w (λ i b. with_echelon-at row n l i b h)
