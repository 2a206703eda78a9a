-- Bits of byte strings: reading, writing, and equality bit by bit. At the end, two-byte numbers.
--   bit_at bytes i       bit i of a byte string: bit 0 has weight 128 in byte 0 (specs Bit)
--   with_bit bytes i b   the byte string with its bit i made b; past the end nothing changes (specs Bit)
--   put_digit x j b      the number x with its digit of weight 2^j made b (specs Bit)
--   pair_at bytes at     the two-byte number at the index `at`, high byte first; a missing byte is 0 (specs Bit)
--   get_or bytes k 0      byte k of a byte string, 0 past its end (lib.ListN)
--   changed l k f       the list l with its element k sent through f; past the end nothing changes
--   written i b         what a write of b to bit i of a byte string does to the byte that holds the bit
-- A law is named by its subject, then by the fact: `bit_at-` is about a bit that is read, `with_bit-` about the whole byte
-- string after a bit is written, `put_digit-` about one number, `pair_at-` about two bytes. At the end of a name, `-same` and `-other` are the place
-- that is written and any other, `-keeps` a write of what stands there, `-past` what lies past the end, `-zero` a byte string of zeros, `-ext`
-- equality from the bits, `-front` and `-behind` what stands in one string with another behind it, and in that one.
-- That every byte is below 256 is said as `(k : ℕ) → get_or bytes k 0 < 256`.
use Rattle.std.proofs.Common.{◌≡◌, refl, sym, ap, ap₂, ◌∙◌, List, [], ◌∷◌, ◌++◌, ℕ, zero, suc, ◌+◌, ◌-◌, ◌*◌, ◌/◌, ◌%◌, ◌^◌, ◌≤◌, ◌<◌}
use Rattle.std.proofs.Common.{lt_of_lt_of_le, zero-mul, arith, bit_xor, length, get_or, set, length-set, pow_mono, shl_lt, ext_get_or}
use Rattle.std.proofs.Common.{get_or-append-add, get_or-set_same, get_or-set_other}
use mathlib.Core.Logic.{◌≢◌}
use native.Mathlib.Decide.{ℕ_discrete}
use lib.Bits.{xor_lt, xor_self, xor_zero_r}
use lib.ListN.{get_or-append, get_or-eq_default}
use lib.Seq.{set-get_or, set_out}
use Rattle.bits.specs.Window.{at}
use Rattle.bits.specs.Bit.{digit, bit_at, put_digit, with_bit, pair_at}
use Rattle.bits.proofs.Xor.{digit_lt, digit-zero, digit-ext, digit-pow-same, digit-pow-other, xor-digit, xor-cancel, xor-bits-lt}

-- ---- one digit of a number

pub put_digit-same : (x j b : ℕ) → b < 2 → digit (put_digit x j b) j ≡ b
unfolding put_digit
put_digit-same x j b h =
    xor-digit x _ j ∙ ap (bit_xor (digit x j)) (digit-pow-same _ j (xor-bits-lt _ b (digit_lt x j) h)) ∙ xor-cancel (digit x j) b

pub put_digit-other : (x j b k : ℕ) → b < 2 → k ≢ j → digit (put_digit x j b) k ≡ digit x k
unfolding put_digit
put_digit-other x j b k h ne =
    xor-digit x _ k ∙ ap (bit_xor (digit x k)) (digit-pow-other _ j k (xor-bits-lt _ b (digit_lt x j) h) ne) ∙ xor_zero_r (digit x k)

pub put_digit-lt : (d x j b : ℕ) → x < 2 ^ d → j < d → b < 2 → put_digit x j b < 2 ^ d
unfolding put_digit
put_digit-lt d x j b h l hb = xor_lt d x _ h (lt_of_lt_of_le (shl_lt 1 j (xor-bits-lt _ b (digit_lt x j) hb)) (pow_mono (omega arith)))

pub put_digit-keeps : (x j b : ℕ) → b ≡ digit x j → put_digit x j b ≡ x
unfolding put_digit
put_digit-keeps x j b e =
    ap (λ (d : ℕ). bit_xor x (d * 2 ^ j)) (ap (bit_xor (digit x j)) e ∙ xor_self (digit x j)) ∙ ap (bit_xor x) (zero-mul (2 ^ j)) ∙ xor_zero_r x

-- ---- reading a bit

pub bit_at_lt : (bytes : List ℕ) (i : ℕ) → bit_at bytes i < 2
unfolding bit_at
bit_at_lt bytes i = digit_lt _ (7 - i % 8)

pub bit_at-zero : (bytes : List ℕ) (i : ℕ) → ((j : ℕ) → at bytes j ≡ 0) → bit_at bytes i ≡ 0
unfolding bit_at at
bit_at-zero bytes i zero-bytes = ap (λ (x : ℕ). digit x (7 - i % 8)) (zero-bytes (i / 8)) ∙ digit-zero (7 - i % 8)

pub bit_at-past : (bytes : List ℕ) (i : ℕ) → length bytes * 8 ≤ i → bit_at bytes i ≡ 0
unfolding bit_at
bit_at-past bytes i h = ap (λ (x : ℕ). digit x (7 - i % 8)) (get_or-eq_default bytes 0 (omega arith)) ∙ digit-zero (7 - i % 8)

pub bit_at-byte : (bytes : List ℕ) (k j : ℕ) → j < 8 → bit_at bytes (k * 8 + (7 - j)) ≡ digit (get_or bytes k 0) j
unfolding bit_at
bit_at-byte bytes k j h = ap₂ (λ (q p : ℕ). digit (get_or bytes q 0) p) (omega arith) (omega arith)

pub bit_at-ext : (a b : List ℕ) → length a ≡ length b → ((k : ℕ) → get_or a k 0 < 256) → ((k : ℕ) → get_or b k 0 < 256)
    → ((i : ℕ) → i < length a * 8 → bit_at a i ≡ bit_at b i) → a ≡ b
bit_at-ext a b e small-a small_b same =
    ext_get_or 0 a b e (λ k h. digit-ext 8 _ _ (small-a k) (small_b k)
    (λ j l. sym (bit_at-byte a k j l) ∙ same (k * 8 + (7 - j)) (omega arith) ∙ bit_at-byte b k j l))

-- ---- one element of a list

abbrev changed : List ℕ → ℕ → (ℕ → ℕ) → List ℕ
changed l k f = set l k (f (get_or l k 0))

changed-all : (P : ℕ → Type 0) (l : List ℕ) (at : ℕ) (f : ℕ → ℕ) → P (f (get_or l at 0)) → ((k : ℕ) → P (get_or l k 0))
    → (k : ℕ) → P (get_or (changed l at f) k 0)
changed-all P [] at f p all k = all k
changed-all P (x ∷ xs) zero f p all zero = p
changed-all P (x ∷ xs) zero f p all (suc k) = all (suc k)
changed-all P (x ∷ xs) (suc at) f p all zero = all zero
changed-all P (x ∷ xs) (suc at) f p all (suc k) = changed-all P xs at f p (λ n. all (suc n)) k

changed-keeps : (g : ℕ → ℕ) (l : List ℕ) (at : ℕ) (f : ℕ → ℕ) → g (f (get_or l at 0)) ≡ g (get_or l at 0)
    → g (get_or (changed l at f) at 0) ≡ g (get_or l at 0)
changed-keeps g [] at f e = refl
changed-keeps g (x ∷ xs) zero f e = e
changed-keeps g (x ∷ xs) (suc at) f e = changed-keeps g xs at f e

-- ---- writing a bit

abbrev written : ℕ → ℕ → ℕ → ℕ
written i b x = put_digit x (7 - i % 8) b

pub length-with_bit : (bytes : List ℕ) (i b : ℕ) → length (with_bit bytes i b) ≡ length bytes
unfolding with_bit
length-with_bit bytes i b = length-set bytes (i / 8) _

pub with_bit-past : (bytes : List ℕ) (i b : ℕ) → length bytes * 8 ≤ i → with_bit bytes i b ≡ bytes
unfolding with_bit
with_bit-past bytes i b h = set_out bytes (i / 8) _ (omega arith)

pub with_bit-byte : (bytes : List ℕ) (i b : ℕ) → b < 2 → ((k : ℕ) → get_or bytes k 0 < 256) → (k : ℕ) → get_or (with_bit bytes i b) k 0 < 256
unfolding with_bit
with_bit-byte bytes i b h small =
    changed-all (λ (x : ℕ). x < 256) bytes (i / 8) (written i b) (put_digit-lt 8 _ (7 - i % 8) b (small (i / 8)) (omega arith) h) small

pub bit_at-same : (bytes : List ℕ) (i b : ℕ) → i < length bytes * 8 → b < 2 → bit_at (with_bit bytes i b) i ≡ b
unfolding bit_at with_bit
bit_at-same bytes i b h l =
    ap (λ (x : ℕ). digit x (7 - i % 8)) (get_or-set_same bytes (i / 8) _ 0 (omega arith)) ∙ put_digit-same (get_or bytes (i / 8) 0) (7 - i % 8) b l

pub bit_at-other : (bytes : List ℕ) (i j b : ℕ) → i ≢ j → b < 2 → bit_at (with_bit bytes i b) j ≡ bit_at bytes j
unfolding bit_at with_bit
bit_at-other bytes i j b ne h =
    elim (ℕ_discrete (i / 8) (j / 8)) [
      | yes e ↦ rw (← e) (changed-keeps (λ (x : ℕ). digit x (7 - j % 8)) bytes (i / 8) (written i b)
          (put_digit-other (get_or bytes (i / 8) 0) (7 - i % 8) b (7 - j % 8) h (omega arith)))
      | no n ↦ ap (λ (x : ℕ). digit x (7 - j % 8)) (get_or-set_other bytes (i / 8) (j / 8) _ 0 (λ e. n (sym e)))
    ]

pub with_bit-keeps : (bytes : List ℕ) (i b : ℕ) → b ≡ bit_at bytes i → with_bit bytes i b ≡ bytes
unfolding bit_at with_bit
with_bit-keeps bytes i b e = ap (set bytes (i / 8)) (put_digit-keeps _ (7 - i % 8) b e) ∙ set-get_or bytes (i / 8) 0

-- ---- two-byte numbers

pub pair_at-past : (bytes : List ℕ) (at : ℕ) → length bytes ≤ at → pair_at bytes at ≡ 0
unfolding pair_at
pair_at-past bytes at h = simp (get_or-eq_default bytes 0 {n = at} h, get_or-eq_default bytes 0 {n = at + 1} (omega arith))

pub pair_at-last : (bytes : List ℕ) (at : ℕ) → length bytes ≡ at + 1 → pair_at bytes at ≡ get_or bytes at 0 * 256
unfolding pair_at
pair_at-last bytes at e = omega (arith, get_or-eq_default bytes 0 {n = at + 1} (omega arith))

-- in one string behind another
module _ (front rest : List ℕ) (at : ℕ) where
  pub pair_at-front : at + 1 < length front → pair_at (front ++ rest) at ≡ pair_at front at
  unfolding pair_at
  pair_at-front l = rw (get_or-append front rest 0 at (omega arith), get_or-append front rest 0 (at + 1) l)

  pub pair_at-behind : pair_at (front ++ rest) (length front + at) ≡ pair_at rest at
  unfolding pair_at
  pair_at-behind =
      let next : length front + at + 1 ≡ length front + (at + 1) = omega arith in
      rw (next, get_or-append-add front rest at 0, get_or-append-add front rest (at + 1) 0)
