-- Bits inside and outside the spans: how many bits two blocks differ in, by those outside and the number of those inside.
--   is_lost lost i            bit i is in a span (specs Spans)
--   lost_bits N lost          how many of the bits 0 .. N - 1 are in a span (specs Spans)
--   flips_outside N lost a b  in how many of the others two blocks differ (specs Spans)
--   filled b lost block      the block with every lost bit made b (specs Spans)
--   flips N a b              the number of bits 0 .. N - 1 in which two blocks differ (bits specs Bit)
-- Laws are named by their subject, then by the fact: `bit-` is about one bit of each block, `outside-` about flips_outside, `lost-` about lost
-- bits. At the end of a name, `-none` is about the empty list.
use Rattle.std.proofs.Common.{ℕ, ◌+◌, ◌*◌, ◌≤◌, ◌<◌, Bool, true, false, cond, List, [], ◌≡◌, refl, sym, ap, ◌∙◌, le_trans, le_of_eq}
use Rattle.std.proofs.Common.{lt_of_lt_of_le, arith, bit_xor, length}
use lib.Bits.{xor_comm}
use Rattle.bits.specs.Bit.{bit_at, flips}
use Rattle.bits.specs.Sum.{sum, flag}
use Rattle.bits.proofs.Sums.{sum-ext, sum_mono, sum-add, sum-scale, sum-none, flag_true, flag-false}
use Rattle.bits.proofs.Xor.{xor-bits-parity}
use Rattle.bits.proofs.Bytes.{bit_at_lt}
use Rattle.spans.specs.Spans.{is_lost, lost_bits, flips_outside, filled}
use Rattle.spans.proofs.Filling.{lost-none, filled-kept, filled-lost}

-- ---- two blocks

pub outside-comm : (N : ℕ) (lost a b : List ℕ) → flips_outside N lost a b ≡ flips_outside N lost b a
unfolding flips_outside
outside-comm N lost a b = sum-ext N _ _ (λ i l. ap (cond (is_lost lost i) 0) (xor_comm (bit_at a i) (bit_at b i)))

pub outside-none : (N : ℕ) (a b : List ℕ) → flips_outside N [] a b ≡ flips N a b
unfolding flips_outside flips
outside-none N a b = sum-ext N _ _ (λ i l. ap (λ (t : Bool). cond t 0 (bit_xor (bit_at a i) (bit_at b i))) (lost-none i))

pub lost-bits-none : (N : ℕ) → lost_bits N [] ≡ 0
unfolding lost_bits
lost-bits-none N = sum-none N _ (λ i l. ap flag (lost-none i) ∙ flag-false)

-- ---- three blocks: a bit in which two of them differ is lost, or in one of the two the third has another

bit-triangle : (t : Bool) (x y z : ℕ) → x < 2 → y < 2 → z < 2 → bit_xor x z ≤ cond t 0 (bit_xor x y) + cond t 0 (bit_xor y z) + flag t
bit-triangle true x y z h k l = omega (arith, flag_true, xor-bits-parity x z h l)
bit-triangle false x y z h k l =
    omega (arith, flag-false, xor-bits-parity x y h k, xor-bits-parity y z k l, xor-bits-parity x z h l)

pub outside-triangle : (N : ℕ) (lost a b c : List ℕ) → flips N a c ≤ flips_outside N lost a b + flips_outside N lost b c + lost_bits N lost
unfolding flips flips_outside lost_bits
outside-triangle N lost a b c =
    le_trans
    (sum_mono N _ _ (λ i l. bit-triangle (is_lost lost i) (bit_at a i) (bit_at b i) (bit_at c i) (bit_at_lt a i) (bit_at_lt b i) (bit_at_lt c i)))
    (le_of_eq (sum-add N _ _ ∙ ap (λ (x : ℕ). x + sum N (λ i. flag (is_lost lost i))) (sum-add N _ _)))

-- ---- a block with the lost bits all 0, and all 1

bit-lost : (x : ℕ) → x < 2 → bit_xor x 0 + bit_xor x 1 ≡ 1
bit-lost x h = omega (arith, xor-bits-parity x 0 h (omega arith), xor-bits-parity x 1 h (omega arith))

module _ (N : ℕ) (lost sent received : List ℕ) (fits : N ≤ length received * 8) where
  -- a bit that is lost differs from the one sent in one of the two, any other in both or in neither
  bit-filled : (i : ℕ) → i < N → bit_xor (bit_at sent i) (bit_at (filled 0 lost received) i) + bit_xor (bit_at sent i) (bit_at (filled 1 lost received) i)
      ≡ 2 * cond (is_lost lost i) 0 (bit_xor (bit_at sent i) (bit_at received i)) + flag (is_lost lost i)
  bit-filled i l = go (is_lost lost i) refl
    where
      x : ℕ
      x = bit_at sent i

      go : (t : Bool) → is_lost lost i ≡ t → bit_xor x (bit_at (filled 0 lost received) i) + bit_xor x (bit_at (filled 1 lost received) i)
          ≡ 2 * cond t 0 (bit_xor x (bit_at received i)) + flag t
      go true e =
          let inside : i < length received * 8 = lt_of_lt_of_le l fits in
          let zeros = ap (bit_xor x) (filled-lost 0 lost received (omega arith) i inside e) in
          let ones = ap (bit_xor x) (filled-lost 1 lost received (omega arith) i inside e) in
          omega (arith, zeros, ones, bit-lost x (bit_at_lt sent i), flag_true)
      go false e =
          let zeros = ap (bit_xor x) (filled-kept 0 lost received (omega arith) i e) in
          let ones = ap (bit_xor x) (filled-kept 1 lost received (omega arith) i e) in
          omega (arith, zeros, ones, flag-false)

  pub outside-sum : flips N sent (filled 0 lost received) + flips N sent (filled 1 lost received)
      ≡ 2 * flips_outside N lost sent received + lost_bits N lost
  unfolding flips flips_outside lost_bits
  outside-sum =
      sym (sum-add N _ _) ∙ sum-ext N _ _ bit-filled ∙ sum-add N _ _ ∙ ap (λ (x : ℕ). x + sum N (λ i. flag (is_lost lost i))) (sum-scale N 2 _)
