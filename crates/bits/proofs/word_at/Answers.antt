-- `bits::word_at` meets its contract: the three bytes put together, cut at both ends.
use Rattle.std.proofs.Common.{ap₂, ◌∙◌, ℕ, ◌+◌, ◌-◌, ◌*◌, ◌/◌, ◌%◌, ◌^◌, ◌≤◌, ◌<◌, mod-lt, arith, pow_pos, pow_mono}
use Rattle.bits.specs.Window.{at}
use Rattle.bits.proofs.Windows.{shifted_one, word_at-window}
use Rattle.bits.proofs.word_at.Goals as goal

-- what a mask of d bits leaves
masked-lt : (x d : ℕ) → d ≤ 16 → x % ((1 * 2 ^ d) % 4294967296) < 65536
masked-lt x d h = rw (shifted_one d 32 (omega arith)) (omega (arith, mod-lt x (pow_pos d), pow_mono {j = 16} h))

pub nonzero_rem-result-2 : goal.nonzero_rem-result-2
nonzero_rem-result-2 c =
    let d = c.args.d in
    omega (arith, shifted_one d 32 (omega arith), pow_pos d)

pub overflow_cast-result-3 : goal.overflow_cast-result-3
overflow_cast-result-3 c =
    let args = c.args in
    let window = c.byte-high.result * 65536 + c.byte-middle.result * 256 + c.byte-low.result in
    omega (arith, masked-lt (window / 2 ^ (24 - args.i % 8 - args.d)) args.d (omega arith))

pub returns : goal.returns
unfolding at
returns c =
    let args = c.args in
    let bytes = args.bytes.now in
    let first = c.byte-high.ensures in
    let second = c.byte-middle.ensures in
    let third = c.byte-low.ensures in
    ap₂ (λ (x y : ℕ). x / 2 ^ (24 - args.i % 8 - args.d) % y)
    (omega (arith, first.0, second.0, third.0)) (shifted_one args.d 32 (omega arith))
    ∙ word_at-window bytes args.i args.d (omega arith) (omega (arith, second.0, second.1)) (omega (arith, third.0, third.1))
