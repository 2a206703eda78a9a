-- `bits::highest` meets its contract: a number that is not 0 has its highest digit behind its leading zeros.
use Rattle.std.proofs.Common.{ℕ, ◌+◌, ◌-◌, ◌^◌, ◌≤◌, ◌<◌, ◌≡◌, add-one, arith}
use lib.Count.{count_leading_zeros, leading_le, leading_top}
use Rattle.bits.proofs.highest.Goals as goal

top : (x : ℕ) → 0 < x → x < 65536 → (count_leading_zeros 16 x ≤ 15) × (2 ^ (15 - count_leading_zeros 16 x) ≤ x) × (x < 2 ^ (15 - count_leading_zeros 16 x + 1))
top x some small =
    let (j, e, low, high) = leading_top 16 x some small in
    let is : 15 - count_leading_zeros 16 x ≡ j = omega arith in
    (omega arith, rw is low, rw (is, add-one) high)

pub overflow_cast-result : goal.overflow_cast-result
overflow_cast-result c = omega (arith, leading_le 16 c.args.x)

pub overflow_sub-result : goal.overflow_sub-result
overflow_sub-result c = (top c.args.x c.requires (omega arith)).0

pub returns : goal.returns
returns c = let t = top c.args.x c.requires (omega arith) in record {
  power_low = t.1;
  power_high = t.2;
  fits_word = omega arith;
}
