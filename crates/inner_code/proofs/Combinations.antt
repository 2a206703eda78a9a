-- The codewords of an inner code: exclusive-ors of its generator rows.
--   combination row k m   the exclusive-or of the rows i below k whose digit i in m is 1
--   is_codeword row k w    some combination of the k rows is w
-- `combination-` laws speak of one combination, `codeword-` laws of the test. All hold for any rows and any k.
use Rattle.std.proofs.Common.{◌≡◌, refl, sym, ap, ap₂, ◌∙◌, subst, true, ℕ, zero, suc, ◌+◌, ◌*◌, ◌^◌, ◌<◌, lt-suc_self, zero-mul, one-mul}
use Rattle.std.proofs.Common.{pow-suc, ne_of_lt, arith, eq-eqb, eqb-true, bit_xor, pow_pos}
use native.Mathlib.Nat.{le_step}
use lib.Bits.{xor_zero_r, xor_lt, xor_self}
use Rattle.bits.specs.Bit.{digit}
use Rattle.bits.proofs.Xor.{xor-swap, xor-digit, digit_lt, digit-zero, digit-high, digit-upper, digit-pow-same, digit-pow-other}
use Rattle.inner_code.specs.Code.{combination, is_codeword}
use Rattle.bits.proofs.Searches.{some-below, some-found}

-- ---- one combination

-- the digits below k alone decide
pub combination-digits : (row : ℕ → ℕ) (k a b : ℕ) → ((i : ℕ) → i < k → digit a i ≡ digit b i) → combination row k a ≡ combination row k b
unfolding combination
combination-digits row zero a b h = refl
combination-digits row (suc k) a b h =
    ap₂ (λ (x y : ℕ). bit_xor x (y * row k)) (combination-digits row k a b (λ i l. h i (le_step l))) (h k (lt-suc_self k))

-- an exclusive-or of two digits, times a row
pub digit-times : (a b r : ℕ) → a < 2 → b < 2 → bit_xor a b * r ≡ bit_xor (a * r) (b * r)
digit-times zero b r ha hb = ap (λ (x : ℕ). bit_xor x (b * r)) (sym (zero-mul r))
digit-times (suc zero) zero r ha hb = sym (ap (bit_xor (1 * r)) (zero-mul r) ∙ xor_zero_r (1 * r))
digit-times (suc zero) (suc zero) r ha hb = zero-mul r ∙ sym (xor_self (1 * r))
digit-times (suc zero) (suc (suc b)) r ha hb = absurd (omega arith)
digit-times (suc (suc a)) b r ha hb = absurd (omega arith)

pub combination-xor : (row : ℕ → ℕ) (k a b : ℕ) → bit_xor (combination row k a) (combination row k b) ≡ combination row k (bit_xor a b)
unfolding combination
combination-xor row zero a b = refl
combination-xor row (suc k) a b =
    xor-swap (combination row k a) (digit a k * row k) (combination row k b) (digit b k * row k)
    ∙ ap₂ bit_xor (combination-xor row k a b)
    (sym (digit-times (digit a k) (digit b k) (row k) (digit_lt a k) (digit_lt b k)) ∙ ap (λ (x : ℕ). x * row k) (sym (xor-digit a b k)))

pub combination-none : (row : ℕ → ℕ) (k : ℕ) → combination row k 0 ≡ 0
unfolding combination
combination-none row zero = refl
combination-none row (suc k) = ap₂ bit_xor (combination-none row k) (ap (λ (x : ℕ). x * row k) (digit-zero k) ∙ zero-mul (row k))

-- rows of d digits combine to words of d digits
pub combination-lt : (row : ℕ → ℕ) (d k m : ℕ) → ((i : ℕ) → i < k → row i < 2 ^ d) → combination row k m < 2 ^ d
unfolding combination
combination-lt row d zero m h = pow_pos d
combination-lt row d (suc k) m h =
    xor_lt d _ _ (combination-lt row d k m (λ i l. h i (le_step l))) (times-lt (digit m k) (digit_lt m k))
  where
    times-lt : (a : ℕ) → a < 2 → a * row k < 2 ^ d
    times-lt zero l = subst (λ (x : ℕ). x < 2 ^ d) (sym (zero-mul (row k))) (pow_pos d)
    times-lt (suc zero) l = subst (λ (x : ℕ). x < 2 ^ d) (sym (one-mul (row k))) (h k (lt-suc_self k))
    times-lt (suc (suc a)) l = absurd (omega arith)

-- listing by doubling: the first 2^k combinations stay, and the next 2^k have row k on them
pub combination-lower : (row : ℕ → ℕ) (k m : ℕ) → m < 2 ^ k → combination row (suc k) m ≡ combination row k m
unfolding combination
combination-lower row k m h =
    ap (λ (x : ℕ). bit_xor (combination row k m) x) (ap (λ (x : ℕ). x * row k) (digit-high k m k h (omega arith)) ∙ zero-mul (row k))
    ∙ xor_zero_r _

pub combination-upper : (row : ℕ → ℕ) (k m : ℕ) → m < 2 ^ k → combination row (suc k) (2 ^ k + m) ≡ bit_xor (combination row k m) (row k)
unfolding combination
combination-upper row k m h =
    ap₂ bit_xor
    (combination-digits row k (2 ^ k + m) m
    (λ i l. digit-upper k m i h ∙ ap (λ (x : ℕ). bit_xor x (digit m i)) (digit-pow-other 1 k i (omega arith) (ne_of_lt l))))
    (ap (λ (x : ℕ). x * row k)
    (digit-upper k m k h ∙ ap₂ bit_xor (digit-pow-same 1 k (omega arith)) (digit-high k m k h (omega arith)))
    ∙ one-mul (row k))

-- ---- the test

pub codeword-combination : (row : ℕ → ℕ) (k m : ℕ) → m < 2 ^ k → is_codeword row k (combination row k m) ≡ true
unfolding is_codeword
codeword-combination row k m h = some-below (2 ^ k) _ m h (eq-eqb (combination row k m) _ refl)

pub codeword-found : (row : ℕ → ℕ) (k w : ℕ) → is_codeword row k w ≡ true → (m : ℕ) × (m < 2 ^ k) × (w ≡ combination row k m)
unfolding is_codeword
codeword-found row k w e = let t = some-found (2 ^ k) _ e in (t.0, t.1, eqb-true w _ t.2)

pub codeword-zero : (row : ℕ → ℕ) (k : ℕ) → is_codeword row k 0 ≡ true
codeword-zero row k = subst (λ (w : ℕ). is_codeword row k w ≡ true) (combination-none row k) (codeword-combination row k 0 (pow_pos k))

pub codeword-xor : (row : ℕ → ℕ) (k a b : ℕ) → is_codeword row k a ≡ true → is_codeword row k b ≡ true → is_codeword row k (bit_xor a b) ≡ true
codeword-xor row k a b ha hb =
    let s = codeword-found row k a ha in
    let t = codeword-found row k b hb in
    subst (λ (w : ℕ). is_codeword row k w ≡ true)
    (sym (ap₂ bit_xor s.2 t.2 ∙ combination-xor row k s.0 t.0))
    (codeword-combination row k (bit_xor s.0 t.0) (xor_lt k s.0 t.0 s.1 t.1))

pub codeword-lt : (row : ℕ → ℕ) (d k w : ℕ) → ((i : ℕ) → i < k → row i < 2 ^ d) → is_codeword row k w ≡ true → w < 2 ^ d
codeword-lt row d k w h e =
    let t = codeword-found row k w e in
    subst (λ (x : ℕ). x < 2 ^ d) (sym t.2) (combination-lt row d k t.0 h)

-- a codeword of the first k rows is one of the first k + 1
pub codeword-more : (row : ℕ → ℕ) (k w : ℕ) → is_codeword row k w ≡ true → is_codeword row (suc k) w ≡ true
codeword-more row k w e =
    let t = codeword-found row k w e in
    subst (λ (x : ℕ). is_codeword row (suc k) x ≡ true) (combination-lower row k t.0 t.1 ∙ sym t.2)
    (codeword-combination row (suc k) t.0 (omega (arith, t.1, pow-suc 2 k)))

pub codeword-last-row : (row : ℕ → ℕ) (k : ℕ) → is_codeword row (suc k) (row k) ≡ true
codeword-last-row row k =
    subst (λ (x : ℕ). is_codeword row (suc k) x ≡ true)
    (combination-upper row k 0 (pow_pos k) ∙ ap (λ (x : ℕ). bit_xor x (row k)) (combination-none row k))
    (codeword-combination row (suc k) (2 ^ k + 0) (omega (arith, pow-suc 2 k, pow_pos k)))
