-- `bits::power` meets its contract: the shift drops no digit.
use Rattle.std.proofs.Common.{◌^◌, ◌∙◌, one-mul, arith, shl_exact}
use Rattle.bits.proofs.power.Goals as goal

pub returns : goal.returns
returns c = shl_exact 1 c.args.i 16 (omega arith) (omega arith) ∙ one-mul (2 ^ c.args.i)
