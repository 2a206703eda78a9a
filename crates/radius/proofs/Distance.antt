-- The distance of a plan's code: two codewords of a plan that covers F flips differ in more than 2F bits.
-- The notions, of specs/Answer.antt, wiring specs/Block.antt and bits specs/Bit.antt:
--   flips N a b            the number of bits 0 .. N - 1 in which two blocks differ
--   Block N block          a block of N bits
--   Codeword plan block    a block of this plan that is a codeword
--   margin_answer plan F    what the margin answers for F flips
-- and here
--   mixed a b t            the block a with its bits below t made those of b
-- Names: `mixed-` is about the blocks on the way from a to b, and at the end of a name `-below` and `-from` are its bits below t and from t
-- on. The theorem is codewords-apart; codewords-same says it of two codewords that are not so far apart.
use Rattle.std.proofs.Common.{ℕ, zero, suc, ◌+◌, ◌*◌, ◌≤◌, ◌<◌, List, [], ◌∷◌, ◌⊎◌, inl, inr, ◌≡◌, refl, sym, ap, ◌∙◌, le_refl, le_trans}
use Rattle.std.proofs.Common.{arith, bit_xor, length, get_or}
use native.Mathlib.Decide.{dec_le, ℕ_discrete}
use lib.Bits.{xor_self, xor_comm}
use Rattle.wiring.proofs.Blocks.{block_room}
use Rattle.bits.specs.Bit.{bit_at, with_bit, flips}
use Rattle.bits.proofs.Sums.{sum-add, sum-ext, sum-none, sum-none-each}
use Rattle.bits.proofs.Xor.{xor-zero-eq}
use Rattle.bits.proofs.Bytes.{bit_at_lt, bit_at-same, bit_at-other, length-with_bit, with_bit-byte}
use Rattle.bits.proofs.Flips.{flips-none, flips-one}
use Rattle.inner_code.specs.Reply.{done}
use Rattle.wiring.specs.Plan.{Plan, edge_count}
use Rattle.wiring.specs.Block.{Block, Codeword}
use Rattle.wiring.proofs.Blocks.{block-sized, block-clear, block_back, block-ext}
use Rattle.radius.specs.Answer.{margin_answer}
use Rattle.radius.proofs.Guarantee.{demand3-alone}

-- ---- the blocks on the way from a to b

unfoldable mixed : List ℕ → List ℕ → ℕ → List ℕ
mixed a b zero = a
mixed a b (suc t) = with_bit (mixed a b t) t (bit_at b t)

mixed-length : (a b : List ℕ) (t : ℕ) → length (mixed a b t) ≡ length a
unfolding mixed
mixed-length a b zero = refl
mixed-length a b (suc t) = length-with_bit _ t _ ∙ mixed-length a b t

mixed-bytes : (a b : List ℕ) → ((k : ℕ) → get_or a k 0 < 256) → (t k : ℕ) → get_or (mixed a b t) k 0 < 256
unfolding mixed
mixed-bytes a b small zero = small
mixed-bytes a b small (suc t) = with_bit-byte _ t _ (bit_at_lt b t) (mixed-bytes a b small t)

mixed-from : (a b : List ℕ) (t i : ℕ) → t ≤ i → bit_at (mixed a b t) i ≡ bit_at a i
unfolding mixed
mixed-from a b zero i h = refl
mixed-from a b (suc t) i h = bit_at-other _ t i _ (λ e. omega arith) (bit_at_lt b t) ∙ mixed-from a b t i (omega arith)

mixed-below : (a b : List ℕ) (t i : ℕ) → t ≤ length a * 8 → i < t → bit_at (mixed a b t) i ≡ bit_at b i
unfolding mixed
mixed-below a b zero i fits l = absurd (omega arith)
mixed-below a b (suc t) i fits l =
    elim (ℕ_discrete t i) [
      | yes e ↦ rw e (bit_at-same (mixed a b i) i (bit_at b i) (omega (arith, mixed-length a b i)) (bit_at_lt b i))
      | no ne ↦ bit_at-other _ t i _ ne (bit_at_lt b t) ∙ mixed-below a b t i (omega arith) (omega arith)
    ]

xor-either : (x y m : ℕ) → (m ≡ x) ⊎ (m ≡ y) → bit_xor x m + bit_xor y m ≡ bit_xor x y
xor-either x y m (inl e) = ap (λ (z : ℕ). bit_xor x z + bit_xor y z) e ∙ omega (arith, xor_self x, xor_comm y x)
xor-either x y m (inr e) = ap (λ (z : ℕ). bit_xor x z + bit_xor y z) e ∙ omega (arith, xor_self y)

module _ (a b : List ℕ) (N : ℕ) (fits : N ≤ length a * 8) where
  -- a bit in which a and b differ is on the way another than a's or another than b's, and not both
  mixed-flips : (t : ℕ) → t ≤ N → flips N a (mixed a b t) + flips N b (mixed a b t) ≡ flips N a b
  unfolding flips
  mixed-flips t l =
      sym (sum-add N _ _)
      ∙ sum-ext N _ _ (λ i h. xor-either (bit_at a i) (bit_at b i) _
      (elim (dec_le t i) [ yes from ↦ inl (mixed-from a b t i from) | no below ↦ inr (mixed-below a b t i (le_trans l fits) (omega arith)) ]))

  mixed-all : flips N b (mixed a b N) ≡ 0
  unfolding flips
  mixed-all = sum-none N _ (λ i h. ap (bit_xor (bit_at b i)) (mixed-below a b N i fits h) ∙ xor_self (bit_at b i))

-- ---- the distance

-- Were they nearer, the blocks on the way would all be within F flips of a: one that is within F flips of a is not within F flips of b, so it
-- differs from a in fewer than F bits, and the next one in at most F. But the last one is b.
module _ (plan : Plan) (a b : List ℕ) (F q : ℕ) (code-a : Codeword plan a) (code-b : Codeword plan b)
    (margin : margin_answer plan F ≡ done (q ∷ [])) (differ : a ≡ b → ⊥) (few : flips (edge_count plan) a b ≤ 2 * F) where
  abbrev N : ℕ
  N = edge_count plan

  fits : N ≤ length a * 8
  fits = block_room N a code-a.block-of.checked

  mixed-block : (t : ℕ) → t ≤ N → Block N (mixed a b t)
  mixed-block t l =
      record {
        bytes = mixed-bytes a b code-a.block-of.bytes t;
        checked =
            block_back N _ (mixed-length a b t ∙ block-sized N a code-a.block-of.checked)
            (λ i h. mixed-from a b t i (le_trans l h) ∙ block-clear N a code-a.block-of.checked i h);
      }

  mixed-far : (t : ℕ) → t ≤ N → flips N a (mixed a b t) ≤ F → F + 1 ≤ flips N b (mixed a b t)
  mixed-far t l near = demand3-alone plan a (mixed a b t) b F q code-a (mixed-block t l) near margin code-b (λ e. differ (sym e))

  mixed-near : (t : ℕ) → t ≤ N → flips N a (mixed a b t) ≤ F
  unfolding mixed
  mixed-near zero l = omega (arith, flips-none N a)
  mixed-near (suc t) l =
      let before : t ≤ N = omega arith in
      let near : flips N a (mixed a b t) ≤ F = mixed-near t before in
      omega (arith, mixed-far t before near, mixed-flips a b N fits t before, flips-one N a (mixed a b t) t (bit_at b t) l (bit_at_lt b t))

  apart-absurd : ⊥
  apart-absurd = omega (arith, mixed-all a b N fits, mixed-far N (le_refl N) (mixed-near N (le_refl N)))

pub codewords-apart : (plan : Plan) (a b : List ℕ) (F q : ℕ)
    → Codeword plan a
    → Codeword plan b
    → margin_answer plan F ≡ done (q ∷ [])
    → (a ≡ b → ⊥)
    → 2 * F + 1 ≤ flips (edge_count plan) a b
codewords-apart plan a b F q code-a code-b margin differ =
    elim (dec_le (2 * F + 1) (flips (edge_count plan) a b)) [
      | yes apart ↦ apart
      | no near ↦ absurd (apart-absurd plan a b F q code-a code-b margin differ (omega arith))
    ]

pub codewords-same : (plan : Plan) (a b : List ℕ) (F q : ℕ) → Codeword plan a → Codeword plan b → margin_answer plan F ≡ done (q ∷ [])
    → flips (edge_count plan) a b ≤ 2 * F → a ≡ b
unfolding flips
codewords-same plan a b F q code-a code-b margin near =
    elim (ℕ_discrete (flips (edge_count plan) a b) 0) [
      | yes none ↦
          block-ext _ a b code-a.block-of code-b.block-of
          (λ i l. xor-zero-eq (bit_at a i) (bit_at b i) (sum-none-each (edge_count plan) _ none i l))
      | no some ↦
          absurd (apart-absurd plan a b F q code-a code-b margin (λ e. some (rw e (flips-none (edge_count plan) b))) near)
    ]
