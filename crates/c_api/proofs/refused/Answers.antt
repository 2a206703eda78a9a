-- `c_api::refused` meets its contract.
use Rattle.c_api.specs.Answer.{told}
use Rattle.c_api.proofs.refused.Goals as goal

pub returns : goal.returns
unfolding told
returns c = cc
