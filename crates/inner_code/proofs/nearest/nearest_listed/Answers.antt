-- `inner_code::nearest_listed` meets its contract: after m turns `least` and `back` are the least keys of the patterns to the first m words.
use Rattle.std.proofs.Common.{arith, rules, ◌≡◌, sym, ap, ap₂, ◌∙◌, ℕ, ◌-◌, ◌%◌, min, length, get_or, bit_xor}
use lib.Bits.{xor_lt}
use lib.Count.{ones-le}
use Rattle.bits.specs.Window.{at}
use Rattle.bits.proofs.Searches.{least-one-more}
use Rattle.inner_code.specs.Code.{key, no_key}
use Rattle.inner_code.specs.Reduction.{least_key, back_key, least_back, sole, searched, step_to}
use Rattle.inner_code.proofs.nearest.nearest_listed.Goals as goal

pub loop-listed-init : goal.loop-listed-init
unfolding least_key least_back
loop-listed-init c = search rules

pub overflow_mul-ones : goal.overflow_mul-ones
overflow_mul-ones c =
    omega (arith, ones-le 16 (bit_xor (get_or c.args.words.now c.loop-listed.listed-index 0) c.args.word) (xor_lt 16 _ _ (c.type_inv.words _).fits c.ranges.word.fits))

pub overflow_add-ones : goal.overflow_add-ones
overflow_add-ones c = omega (arith, c.type_inv.pattern.fits, ones-le 16 _ c.type_inv.pattern.fits)

pub overflow_sub-pattern : goal.overflow_sub-pattern
overflow_sub-pattern c = omega (arith, c.type_inv.pattern.fits)

pub overflow_add-ones-in-loop-listed : goal.overflow_add-ones-in-loop-listed
overflow_add-ones-in-loop-listed c = omega (arith, c.type_inv.pattern.fits, ones-le 16 _ c.type_inv.pattern.fits)

pub loop-listed-preserved : goal.loop-listed-preserved
unfolding at key back_key least_key least_back
loop-listed-preserved c =
    let args = c.args in
    let m = c.loop-listed.listed-index in
    let forth : ℕ → ℕ = λ i. key (bit_xor (at args.words.now i) args.word) in
    let back : ℕ → ℕ = λ i. back_key (bit_xor (at args.words.now i) args.word) in (
      c.min-least.ensures ∙ ap (λ (x : ℕ). min x (forth m)) c.loop-listed.invariant.0 ∙ sym (least-one-more no_key forth m),
      c.min-back.ensures ∙ ap (λ (x : ℕ). min x (back m)) c.loop-listed.invariant.1 ∙ sym (least-one-more no_key back m),
    )

pub returns : goal.returns
unfolding searched
returns c =
    let args = c.args in
    let words = at args.words.now in
    let end : c.loop-listed.listed-index ≡ length args.words.now = omega arith in
    c.put_on.ensures
    ∙ ap (λ (x : ℕ). step_to args.word (bit_xor args.word x))
    (c.sole.ensures
    ∙ ap₂ (λ (x y : ℕ). sole (x % 65536) (65535 - y % 65536))
    (c.loop-listed.invariant.0 ∙ ap (λ (n : ℕ). least_key words n args.word) end)
    (c.loop-listed.invariant.1 ∙ ap (λ (n : ℕ). least_back words n args.word) end))
