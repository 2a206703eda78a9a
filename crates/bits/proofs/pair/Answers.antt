-- `bits::pair` meets its contract: each byte is below 256, so nothing wraps, and what is missing reads as 0.
use Rattle.std.proofs.Common.{refl, sym, ◌+◌, arith}
use Rattle.bits.specs.Bit.{pair_at}
use Rattle.bits.proofs.Bytes.{pair_at-past, pair_at-last}
use Rattle.bits.proofs.pair.Goals as goal

pub returns-then-bytes-at : goal.returns-then-bytes-at
returns-then-bytes-at c = sym (pair_at-past _ _ (omega arith))

pub overflow_cast-high : goal.overflow_cast-high
overflow_cast-high c = omega (arith, c.type_inv.bytes c.args.at)

pub overflow_mul-high : goal.overflow_mul-high
overflow_mul-high c = omega (arith, c.type_inv.bytes c.args.at)

pub returns-then-bytes-at-eq1 : goal.returns-then-bytes-at-eq1
returns-then-bytes-at-eq1 c = sym (pair_at-last _ _ (omega arith))

pub overflow_cast-result : goal.overflow_cast-result
overflow_cast-result c = omega (arith, c.type_inv.bytes (c.args.at + 1))

pub overflow_add-result-2 : goal.overflow_add-result-2
overflow_add-result-2 c =
    let at = c.args.at in
    omega (arith, c.type_inv.bytes at, c.type_inv.bytes (at + 1))

pub returns : goal.returns
unfolding pair_at
returns c = refl
