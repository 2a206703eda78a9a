-- `wiring::check_bits` meets its contract: with the right length only the last byte can hold a bit after the last, and it holds one
-- exactly if a low digit of it is set.
use Rattle.std.proofs.Common.{◌≡◌, sym, ◌∙◌, ℕ, ◌*◌, ◌%◌, ◌^◌, ◌<◌, one-mul, arith, pow_pos, shl_exact}
use Rattle.wiring.specs.Block.{block_bytes}
use Rattle.wiring.proofs.Blocks.{bits-unsized, bits-whole, bits-low-clear, bits-low-set}
use Rattle.wiring.proofs.block.check_bits.Goals as goal

pub returns-then-bytes-whole : goal.returns-then-bytes-whole
unfolding block_bytes
returns-then-bytes-whole c length_wrong stray_bit = sym (bits-unsized _ _ _ _ (λ e. c.if-bytes-whole.true (omega arith)))

pub returns-then-rest-eq0 : goal.returns-then-rest-eq0
unfolding block_bytes
returns-then-rest-eq0 c length_wrong stray_bit = sym (bits-whole _ _ _ _ (omega arith) (omega arith))

pub returns-then-bytes-whole-2 : goal.returns-then-bytes-whole-2
unfolding block_bytes
returns-then-bytes-whole-2 c length_wrong stray_bit = sym (bits-unsized _ _ _ _ (λ e. c.if-bytes-whole-2.true (omega arith)))

-- a byte holds the weight of each of its bits
weight : (k : ℕ) → k < 8 → (1 * 2 ^ k) % 256 ≡ 2 ^ k
weight k l = shl_exact 1 k 8 (omega arith) (omega arith) ∙ one-mul (2 ^ k)

weight-pos : (k : ℕ) → k < 8 → 0 < (1 * 2 ^ k) % 256
weight-pos k l = omega (arith, weight k l, pow_pos k)

pub nonzero_rem-bytes : goal.nonzero_rem-bytes
nonzero_rem-bytes c = weight-pos _ (omega arith)

pub returns-then-bytes-whole-ne0 : goal.returns-then-bytes-whole-ne0
unfolding block_bytes
returns-then-bytes-whole-ne0 c length_wrong stray_bit = sym (bits-low-set _ _ _ _ (omega arith) _ (weight _ (omega arith)) c.if-bytes-whole-ne0.true)

pub returns : goal.returns
unfolding block_bytes
returns c length_wrong stray_bit = sym (bits-low-clear _ _ _ _ (omega arith) _ (weight _ (omega arith)) c.if-bytes-whole-ne0.false)
