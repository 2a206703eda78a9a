-- `restored::plan::square_wiring` meets its contract: the bytes are the plan's.
use Rattle.std.proofs.Common.{refl}
use Rattle.wiring.specs.Square.{square_wiring}
use Rattle.restored.proofs.plan.square_wiring.Goals as goal

pub returns : goal.returns
unfolding square_wiring
returns c = refl
