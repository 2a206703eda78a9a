-- Laws of xor, of binary digits and of the number of set digits.
--   bit_xor a b         the number whose digits are set where those of a and b differ (lib.Bits)
--   digit x j          the binary digit of weight 2^j of the number x (specs Bit)
--   differ a b         the digits' difference: for a and b below 2 it is 1 where they differ (lib.Bits)
--   ones x             how many binary digits of x are set (lib.Count)
-- A law is named by its subject, then by the fact: `xor-` is about xor, `xor-bits-` about xor of two numbers below 2,
-- `digit-` about one digit, `ones-` about the count of set digits. At the end of a name, `-zero` is the law at 0,
-- `-lt` and `-le` a bound, `-ext` equality from the parts, `-same` and `-other` the place in question and any other.
-- The proofs go by halving: `xor-half` and `digit-suc` take the lowest digit off, `xor-parity` says what it is.
use Rattle.std.proofs.Common.{◌≡◌, refl, sym, ap, ap₂, ◌∙◌, ◌⊎◌, inl, inr, ℕ, zero, suc, ◌+◌, ◌*◌, ◌/◌, ◌%◌, ◌^◌, ◌≤◌, ◌<◌, add_comm}
use Rattle.std.proofs.Common.{add-zero, eq-zero-or-pos, pow-suc, div-one, mod-eq_of_lt, zero-mul, one-mul, lt_of_lt_of_le, one-add, arith}
use Rattle.std.proofs.Common.{bit_xor, eqb, pow_pos, pow_mono, shr-shr}
use mathlib.Core.Logic.{◌≢◌}
use native.Mathlib.Nat.{div-eq_of_lt}
use native.Mathlib.Decide.{ℕ_discrete}
use lib.Arith.{bin_ind}
use lib.Bits.{differ, xor_add_and, xor_comm, xor_self, xor_zero_l, xor_zero_r}
use lib.Bits.{xor_lt, xor_block, xor_shr, xor_mod, xor_shifted, shifted_half, shifted_even}
use lib.Count.{ones, ones_step}
use lib.Pow.{shl-shr}
use Rattle.bits.specs.Bit.{digit}
use Rattle.bits.specs.Sum.{flag}
use Rattle.bits.proofs.Sums.{flag-equal, flag-apart}

-- ---- xor by its halves

pub xor-half : (a b : ℕ) → bit_xor a b / 2 ≡ bit_xor (a / 2) (b / 2)
xor-half a b = xor_shr a b 1

pub xor-parity : (a b : ℕ) → bit_xor a b % 2 ≡ (a + b) % 2
xor-parity a b = omega (arith, xor_add_and a b)

pub half-ext : (a b : ℕ) → a / 2 ≡ b / 2 → a % 2 ≡ b % 2 → a ≡ b
half-ext a b h l = omega arith

-- ---- xor is a group operation in which every number is its own inverse

pub xor_assoc : (a b c : ℕ) → bit_xor (bit_xor a b) c ≡ bit_xor a (bit_xor b c)
xor_assoc =
    bin_ind (λ (a : ℕ). (b c : ℕ) → bit_xor (bit_xor a b) c ≡ bit_xor a (bit_xor b c)) (λ b c. refl)
    (λ a ih b c. half-ext _ _
    (xor-half (bit_xor a b) c ∙ ap (λ (x : ℕ). bit_xor x (c / 2)) (xor-half a b) ∙ ih (b / 2) (c / 2)
    ∙ sym (xor-half a (bit_xor b c) ∙ ap (bit_xor (a / 2)) (xor-half b c)))
    (omega (arith, xor_add_and (bit_xor a b) c, xor_add_and a b, xor_add_and a (bit_xor b c), xor_add_and b c)))

pub xor-cancel : (a b : ℕ) → bit_xor a (bit_xor a b) ≡ b
xor-cancel a b = sym (xor_assoc a a b) ∙ ap (λ (x : ℕ). bit_xor x b) (xor_self a)

pub xor-cancel-right : (a b : ℕ) → bit_xor (bit_xor a b) b ≡ a
xor-cancel-right a b = xor_assoc a b b ∙ ap (bit_xor a) (xor_self b) ∙ xor_zero_r a

pub xor-cancel-middle : (a b c : ℕ) → bit_xor (bit_xor a b) (bit_xor b c) ≡ bit_xor a c
xor-cancel-middle a b c = xor_assoc a b (bit_xor b c) ∙ ap (bit_xor a) (xor-cancel b c)

pub xor-swap : (a b c d : ℕ) → bit_xor (bit_xor a b) (bit_xor c d) ≡ bit_xor (bit_xor a c) (bit_xor b d)
xor-swap a b c d =
    xor_assoc a b (bit_xor c d)
    ∙ ap (bit_xor a) (sym (xor_assoc b c d) ∙ ap (λ (x : ℕ). bit_xor x d) (xor_comm b c) ∙ xor_assoc c b d)
    ∙ sym (xor_assoc a c (bit_xor b d))

pub xor-pow : (a b k : ℕ) → bit_xor (a * 2 ^ k) (b * 2 ^ k) ≡ bit_xor a b * 2 ^ k
xor-pow a b k =
    ap₂ bit_xor (sym (add-zero (a * 2 ^ k))) (sym (add-zero (b * 2 ^ k))) ∙ xor_block k a b 0 0 (pow_pos k) (pow_pos k) ∙ add-zero (bit_xor a b * 2 ^ k)

pub xor-zero-eq : (a b : ℕ) → bit_xor a b ≡ 0 → a ≡ b
xor-zero-eq a b e = sym (xor-cancel-right a b) ∙ ap (λ (x : ℕ). bit_xor x b) e

-- ---- xor of single digits

pub xor-bits : (a b : ℕ) → a < 2 → b < 2 → bit_xor a b ≡ differ a b
xor-bits zero b ha hb = refl
xor-bits (suc zero) zero ha hb = refl
xor-bits (suc zero) (suc zero) ha hb = refl
xor-bits (suc zero) (suc (suc b)) ha hb = absurd (omega arith)
xor-bits (suc (suc a)) b ha hb = absurd (omega arith)

pub xor-bits-lt : (a b : ℕ) → a < 2 → b < 2 → bit_xor a b < 2
xor-bits-lt = xor_lt 1

pub xor-bits-parity : (a b : ℕ) → a < 2 → b < 2 → bit_xor a b ≡ (a + b) % 2
xor-bits-parity a b ha hb = omega (arith, xor-parity a b, xor-bits-lt a b ha hb)

-- ---- digits

pub digit_lt : (x j : ℕ) → digit x j < 2
unfolding digit
digit_lt x j = omega arith

pub digit-first : (x : ℕ) → digit x 0 ≡ x % 2
unfolding digit
digit-first x = ap (λ (y : ℕ). y % 2) (div-one x)

pub digit-suc : (x j : ℕ) → digit x (suc j) ≡ digit (x / 2) j
unfolding digit
digit-suc x j = rw (← one-add j) (ap (λ (y : ℕ). y % 2) (sym (shr-shr x 1 j)))

pub digit-high : (d x j : ℕ) → x < 2 ^ d → d ≤ j → digit x j ≡ 0
unfolding digit
digit-high d x j h l = ap (λ (y : ℕ). y % 2) (div-eq_of_lt (lt_of_lt_of_le h (pow_mono l)))

pub digit-zero : (j : ℕ) → digit 0 j ≡ 0
digit-zero j = digit-high 0 0 j (omega arith) (omega arith)

pub digit-ext : (d a b : ℕ) → a < 2 ^ d → b < 2 ^ d → ((j : ℕ) → j < d → digit a j ≡ digit b j) → a ≡ b
digit-ext zero a b ha hb same = omega arith
digit-ext (suc d) a b ha hb same =
    half-ext a b
    (digit-ext d (a / 2) (b / 2) (omega (arith, pow-suc 2 d)) (omega (arith, pow-suc 2 d))
    (λ j h. sym (digit-suc a j) ∙ same (suc j) (omega arith) ∙ digit-suc b j))
    (sym (digit-first a) ∙ same 0 (omega arith) ∙ digit-first b)

pub digit-pow-same : (b k : ℕ) → b < 2 → digit (b * 2 ^ k) k ≡ b
unfolding digit
digit-pow-same b k h = ap (λ (y : ℕ). y % 2) (shl-shr b k) ∙ mod-eq_of_lt h

pub digit-pow : (k : ℕ) → digit (2 ^ k) k ≡ 1
digit-pow k = ap (λ (x : ℕ). digit x k) (sym (one-mul (2 ^ k))) ∙ digit-pow-same 1 k (omega arith)

pub digit-pow-other : (b k j : ℕ) → b < 2 → j ≢ k → digit (b * 2 ^ k) j ≡ 0
digit-pow-other b zero zero h ne = absurd (ne refl)
digit-pow-other b zero (suc j) h ne = digit-high 1 (b * 1) (suc j) (omega arith) (omega arith)
digit-pow-other b (suc k) zero h ne = digit-first (b * 2 ^ suc k) ∙ shifted_even b k
digit-pow-other b (suc k) (suc j) h ne =
    digit-suc (b * 2 ^ suc k) j ∙ ap (λ (x : ℕ). digit x j) (shifted_half b k) ∙ digit-pow-other b k j h (λ e. ne (ap suc e))

-- the digits of a number with one 1
pub digit-power : (t b : ℕ) → digit (2 ^ t) b ≡ flag (eqb b t)
digit-power t b =
    elim (ℕ_discrete b t) [
      | yes same ↦ rw same (digit-pow t ∙ sym (flag-equal t t refl))
      | no other ↦
          ap (λ (x : ℕ). digit x b) (sym (one-mul (2 ^ t))) ∙ digit-pow-other 1 t b (omega arith) other ∙ sym (flag-apart b t other)
    ]

pub digits_product : (a b : ℕ) → a < 2 → b < 2 → a * b < 2
digits_product zero b ha hb = omega (arith, zero-mul b)
digits_product (suc zero) b ha hb = omega (arith, one-mul b)
digits_product (suc (suc a)) b ha hb = absurd (omega arith)

pub xor-digit : (a b j : ℕ) → digit (bit_xor a b) j ≡ bit_xor (digit a j) (digit b j)
unfolding digit
xor-digit a b j = ap (λ (x : ℕ). x % 2) (xor_shr a b j) ∙ xor_mod (a / 2 ^ j) (b / 2 ^ j) 1

-- 2^k + m has the digits of m below k, and a 1 at k
pub digit-upper : (k m i : ℕ) → m < 2 ^ k → digit (2 ^ k + m) i ≡ bit_xor (digit (1 * 2 ^ k) i) (digit m i)
digit-upper k m i h =
    ap (λ (x : ℕ). digit x i) (ap (λ (x : ℕ). x + m) (sym (one-mul (2 ^ k))) ∙ sym (xor_shifted 1 k m h)) ∙ xor-digit (1 * 2 ^ k) m i

-- ---- the number of set digits

pub ones-zero : ones 0 ≡ 0
unfolding ones
ones-zero = refl

pub ones_none : (x : ℕ) → ones x ≡ 0 → x ≡ 0
ones_none =
    bin_ind (λ (x : ℕ). ones x ≡ 0 → x ≡ 0) (λ e. refl)
    (λ x ih e. let half : x / 2 ≡ 0 = ih (omega (arith, ones_step x)) in omega (arith, ones_step x))

pub ones_pos : (x : ℕ) → 0 < x → 0 < ones x
ones_pos x h = go (eq-zero-or-pos (ones x))
  where
    go : (ones x ≡ 0) ⊎ (0 < ones x) → 0 < ones x
    go (inl e) = omega (arith, ones_none x e)
    go (inr p) = p

pub ones-xor-le : (a b : ℕ) → ones (bit_xor a b) ≤ ones a + ones b
ones-xor-le =
    bin_ind (λ (a : ℕ). (b : ℕ) → ones (bit_xor a b) ≤ ones a + ones b) (λ b. omega arith)
    (λ a ih b. omega (arith, ones_step (bit_xor a b), ap ones (xor-half a b), xor-parity a b, ih (b / 2), ones_step a, ones_step b))

-- a sum's parity, where a part is known by its own
pub parity-part : (x y r : ℕ) → x % 2 ≡ y % 2 → (x + r) % 2 ≡ (y + r) % 2
parity-part x y r e = omega arith

parity-digits : (a b p q : ℕ) → (a + b + (p + q) % 2) % 2 ≡ (p % 2 + a + (q % 2 + b)) % 2
parity-digits a b p q = parity-digit a b (p + q) ∙ parity-two a b p q
  where
    parity-digit : (a b x : ℕ) → (a + b + x % 2) % 2 ≡ (a + b + x) % 2
    parity-digit a b x = omega arith

    parity-two : (a b p q : ℕ) → (a + b + (p + q)) % 2 ≡ (p % 2 + a + (q % 2 + b)) % 2
    parity-two a b p q = omega arith

pub ones-xor-parity : (a b : ℕ) → ones (bit_xor a b) % 2 ≡ (ones a + ones b) % 2
ones-xor-parity =
    bin_ind (λ (a : ℕ). (b : ℕ) → ones (bit_xor a b) % 2 ≡ (ones a + ones b) % 2)
    (λ b. ap (λ (x : ℕ). ones x % 2) (xor_zero_l b) ∙ omega (arith, ones-zero))
    (λ a ih b.
    ap (λ (x : ℕ). x % 2) (ones_step (bit_xor a b) ∙ add_comm (bit_xor a b % 2) (ones (bit_xor a b / 2)))
    ∙ parity-part (ones (bit_xor a b / 2)) (ones (a / 2) + ones (b / 2)) (bit_xor a b % 2) (ap (λ (x : ℕ). ones x % 2) (xor-half a b) ∙ ih (b / 2))
    ∙ ap (λ (x : ℕ). (ones (a / 2) + ones (b / 2) + x) % 2) (xor-parity a b) ∙ parity-digits (ones (a / 2)) (ones (b / 2)) a b
    ∙ sym (ap₂ (λ (x y : ℕ). (x + y) % 2) (ones_step a) (ones_step b)))

pub ones-triangle : (a b c : ℕ) → ones (bit_xor a c) ≤ ones (bit_xor a b) + ones (bit_xor b c)
ones-triangle a b c = omega (arith, ap ones (xor-cancel-middle a b c), ones-xor-le (bit_xor a b) (bit_xor b c))
