-- The bits in which two byte strings differ, counted.
--   flips N a b   the number of bits 0 .. N - 1 in which two byte strings differ (specs Bit)
-- Laws are named `flips-` and the fact.
use Rattle.std.proofs.Common.{◌≡◌, refl, sym, ap, ◌∙◌, List, ℕ, ◌+◌, ◌≤◌, ◌<◌, le_trans, le_of_eq, mul-one, arith, eqb, bit_xor}
use native.Mathlib.Decide.{ℕ_discrete}
use lib.Bits.{xor_self, xor_comm}
use Rattle.bits.specs.Bit.{bit_at, with_bit, flips}
use Rattle.bits.specs.Sum.{sum, flag}
use Rattle.bits.proofs.Sums.{sum-one-more, sum-ext, sum_mono, sum-add, sum-const, sum-none, count-at, flag-equal}
use Rattle.bits.proofs.Xor.{xor-bits-lt}
use Rattle.bits.proofs.Bytes.{bit_at_lt, bit_at-other}

pub flips-zero : (a b : List ℕ) → flips 0 a b ≡ 0
unfolding flips sum
flips-zero a b = refl

pub flips-one-more : (N : ℕ) (a b : List ℕ) → flips (N + 1) a b ≡ flips N a b + bit_xor (bit_at a N) (bit_at b N)
unfolding flips
flips-one-more N a b = sum-one-more N _

-- a bit adds at most 1
pub flips-bit : (a b : List ℕ) (i : ℕ) → bit_xor (bit_at a i) (bit_at b i) < 2
flips-bit a b i = xor-bits-lt _ _ (bit_at_lt a i) (bit_at_lt b i)

pub flips-le : (N : ℕ) (a b : List ℕ) → flips N a b ≤ N
unfolding flips
flips-le N a b = le_trans (sum_mono N _ (λ i. 1) (λ i l. omega (arith, flips-bit a b i))) (le_of_eq (sum-const N 1 ∙ mul-one N))

pub flips-one : (N : ℕ) (sent block : List ℕ) (i b : ℕ) → i < N → b < 2 → flips N sent (with_bit block i b) ≤ flips N sent block + 1
unfolding flips
flips-one N sent block i b h l =
    le_trans
    (sum_mono N _ (λ e. bit_xor (bit_at sent e) (bit_at block e) + flag (eqb e i)) (λ e k. each e))
    (le_of_eq (sum-add N _ _ ∙ ap (λ (x : ℕ). sum N (λ e. bit_xor (bit_at sent e) (bit_at block e)) + x) (count-at N i h)))
  where
    each : (e : ℕ) → bit_xor (bit_at sent e) (bit_at (with_bit block i b) e) ≤ bit_xor (bit_at sent e) (bit_at block e) + flag (eqb e i)
    each e =
        elim (ℕ_discrete e i) [
          | yes q ↦ omega (arith, flag-equal e i q, flips-bit sent (with_bit block i b) e)
          | no q ↦ omega (arith, ap (bit_xor (bit_at sent e)) (bit_at-other block i e b (λ p. q (sym p)) l))
        ]

pub flips-none : (N : ℕ) (a : List ℕ) → flips N a a ≡ 0
unfolding flips
flips-none N a = sum-none N _ (λ i h. xor_self (bit_at a i))

pub flips-comm : (N : ℕ) (a b : List ℕ) → flips N a b ≡ flips N b a
unfolding flips
flips-comm N a b = sum-ext N _ _ (λ i l. xor_comm (bit_at a i) (bit_at b i))
