-- `spans::flips_between` meets its contract: the bits before the first whole byte, the whole bytes, and the bits behind the last one are all the
-- bits.
use Rattle.std.proofs.Common.{◌+◌, ◌*◌, ◌/◌, arith}
use Rattle.spans.proofs.Gaps.{between-append}
use Rattle.spans.proofs.flips_between.Goals as goal

pub returns : goal.returns
returns c =
    let args = c.args in
    let first = (args.from + 7) / 8 in
    let last = args.to / 8 in
    let a = args.a.now in
    let b = args.b.now in
    omega (
      arith,
      c.flips_of_bits-2.ensures.0,
      c.flips_of_bytes.ensures.0,
      c.flips_of_bits-3.ensures.0,
      between-append a b args.from (8 * first) args.to (omega arith) (omega arith),
      between-append a b (8 * first) (8 * last) args.to (omega arith) (omega arith),
    )
