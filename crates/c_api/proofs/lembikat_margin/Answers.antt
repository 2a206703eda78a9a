-- `c_api::lembikat_margin` meets its contract: what is told of each case of the service's answer is told of the defined reply.
use Rattle.radius.specs.Answer.{margin_reply}
use Rattle.c_api.specs.Answer.{told}
use Rattle.c_api.proofs.Telling.{telling}
use Rattle.c_api.proofs.lembikat_margin.Goals as goal

pub returns-in-Ok : goal.returns-in-Ok
unfolding told
returns-in-Ok c = telling margin_reply c.in-Ok.is (rw c.parts.ensures at c.margin_sweeps.ensures) told c.done.ensures

pub returns-in-Err : goal.returns-in-Err
unfolding told
returns-in-Err c = telling margin_reply c.in-Err.is (rw c.parts.ensures at c.margin_sweeps.ensures) told c.refused.ensures
