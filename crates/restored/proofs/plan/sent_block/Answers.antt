-- `restored::plan::sent_block` meets its contract: the bytes are the plan's.
use Rattle.std.proofs.Common.{refl}
use Rattle.restored.specs.Sent.{sent_block}
use Rattle.restored.proofs.plan.sent_block.Goals as goal

pub returns : goal.returns
unfolding sent_block
returns c = refl
