-- `spans::make` meets its contract: the bits before the first whole byte, the whole bytes, and the bits behind the last one are all the bits, in
-- their order.
use Rattle.std.proofs.Common.{◌+◌, ◌/◌, ◌%◌, arith}
use Rattle.spans.proofs.Filling.{made-parts}
use Rattle.spans.proofs.make.Goals as goal

pub returns : goal.returns
returns c =
    let args = c.args in
    made-parts (args.value % 2) args.from ((args.from + 7) / 8) (args.to / 8) args.to args.block.now
    (omega arith) (omega arith) (omega arith) c.make_bits-2.ensures c.make_bytes.ensures c.make_bits-3.ensures
