-- `c_api::lembikat_build_table` meets its contract: what is told of each case of the service's answer is told of the defined reply.
use Rattle.tables.specs.Answer.{built_reply}
use Rattle.c_api.specs.Answer.{told}
use Rattle.c_api.proofs.Telling.{telling}
use Rattle.c_api.proofs.lembikat_build_table.Goals as goal

pub returns-in-Ok : goal.returns-in-Ok
unfolding told
returns-in-Ok c = record {
  value = telling built_reply c.in-Ok.is
      c.build_table.ensures.result_value told c.done.ensures;
  output_after = c.build_table.ensures.output_after;
}

pub returns-in-Err : goal.returns-in-Err
unfolding told
returns-in-Err c = record {
  value = telling built_reply c.in-Err.is
      c.build_table.ensures.result_value told c.refused.ensures;
  output_after = c.build_table.ensures.output_after;
}
