-- `c_api::lembikat_read` meets its contract: what is told of each case of the service's answer is told of the defined reply.
use Rattle.messages.specs.Answer.{taken_reply}
use Rattle.c_api.specs.Answer.{told}
use Rattle.c_api.proofs.Telling.{telling}
use Rattle.c_api.proofs.lembikat_read.Goals as goal

pub returns-in-Ok : goal.returns-in-Ok
unfolding told
returns-in-Ok c = record {
  value = telling taken_reply c.in-Ok.is
      (rw c.parts.ensures at c.read_block.ensures.result_value) told c.done.ensures;
  output_after = rw c.parts.ensures at c.read_block.ensures.output_after;
}

pub returns-in-Err : goal.returns-in-Err
unfolding told
returns-in-Err c = record {
  value = telling taken_reply c.in-Err.is
      (rw c.parts.ensures at c.read_block.ensures.result_value) told c.refused.ensures;
  output_after = rw c.parts.ensures at c.read_block.ensures.output_after;
}
