-- `spans::flips_of_bytes` meets its contract: after i - first turns the bits of the bytes from `first` to before i are counted.
use Rattle.std.proofs.Common.{rules, ℕ, ◌+◌, ◌-◌, ◌*◌, ◌≤◌, ◌<◌, List, ◌≡◌, sym, ap, ◌∙◌, arith, bit_xor, get_or}
use lib.Count.{ones}
use Rattle.spans.specs.Walking.{flips_between}
use Rattle.spans.proofs.Gaps.{between_none, between_le, between-byte-more}
use Rattle.spans.proofs.flips_of_bytes.Goals as goal

pub loop-i-init : goal.loop-i-init
loop-i-init c =
    sym (between_none c.args.a.now c.args.b.now (8 * c.args.first) (8 * c.args.first) (omega arith))

-- the count with one more byte, at most the number of bits
module _ (a b : List ℕ) (a-bytes : (k : ℕ) → get_or a k 0 < 256) (b-bytes : (k : ℕ) → get_or b k 0 < 256) (first i count : ℕ)
    (behind : first ≤ i) (so-far : count ≡ flips_between a b (8 * first) (8 * i)) where
  counted : count + ones (bit_xor (get_or a i 0) (get_or b i 0)) ≡ flips_between a b (8 * first) (8 * (i + 1))
  counted =
      ap (λ (n : ℕ). n + ones (bit_xor (get_or a i 0) (get_or b i 0))) so-far ∙ sym (between-byte-more a b a-bytes b-bytes first i behind)

  few : count + ones (bit_xor (get_or a i 0) (get_or b i 0)) ≤ 8 * (i + 1) - 8 * first
  few = omega (arith, counted, between_le a b (8 * first) (8 * (i + 1)))

pub overflow_cast-count : goal.overflow_cast-count
overflow_cast-count c =
    let turn = c.loop-i in
    omega (arith, few c.args.a.now c.args.b.now (search rules) (search rules) c.args.first turn.i turn.count (omega arith) turn.invariant)

pub overflow_add-count : goal.overflow_add-count
overflow_add-count c =
    let turn = c.loop-i in
    omega (arith, few c.args.a.now c.args.b.now (search rules) (search rules) c.args.first turn.i turn.count (omega arith) turn.invariant)

pub loop-i-preserved : goal.loop-i-preserved
loop-i-preserved c =
    counted c.args.a.now c.args.b.now (search rules) (search rules) c.args.first c.loop-i.i c.loop-i.count (omega arith) c.loop-i.invariant

pub returns : goal.returns
returns c =
    let args = c.args in
    let end : c.loop-i.i ≡ args.last = omega arith in
    let all = c.loop-i.invariant ∙ ap (λ (i : ℕ). flips_between args.a.now args.b.now (8 * args.first) (8 * i)) end in
    (all, omega (arith, all, between_le args.a.now args.b.now (8 * args.first) (8 * args.last)))
