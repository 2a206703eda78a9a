-- `bits::byte` meets its contract: past the end the byte is 0, elsewhere it is the list's.
use Rattle.std.proofs.Common.{refl, sym, arith}
use lib.ListN.{get_or-eq_default}
use Rattle.bits.specs.Window.{at}
use Rattle.bits.proofs.byte.Goals as goal

pub returns-then-bytes-i : goal.returns-then-bytes-i
unfolding at
returns-then-bytes-i c = (sym (get_or-eq_default c.args.bytes.now 0 {n = c.args.i} (omega arith)), omega arith)

pub overflow_cast-result : goal.overflow_cast-result
overflow_cast-result c = omega (arith, c.type_inv.bytes c.args.i)

pub returns : goal.returns
unfolding at
returns c = (refl, omega (arith, c.type_inv.bytes c.args.i))
