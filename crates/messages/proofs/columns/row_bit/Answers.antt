-- `messages::row_bit` meets its contract: row p of column e is digit p % 64 of the word 8·e + p / 64.
use Rattle.std.proofs.Common.{refl}
use Rattle.bits.specs.Bit.{digit}
use Rattle.messages.specs.Columns.{row_bit}
use Rattle.messages.proofs.columns.row_bit.Goals as goal

pub returns : goal.returns
unfolding row_bit digit
returns c = refl
