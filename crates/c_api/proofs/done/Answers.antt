-- `c_api::done` meets its contract.
use Rattle.std.proofs.Common.{refl}
use Rattle.c_api.specs.Answer.{told}
use Rattle.c_api.proofs.done.Goals as goal

pub returns : goal.returns
unfolding told
returns c = refl
