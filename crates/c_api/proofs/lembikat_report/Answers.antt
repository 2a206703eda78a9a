-- `c_api::lembikat_report` meets its contract: what is told of each case of the service's answer is told of the defined reply.
use Rattle.report.specs.Answer.{report_reply}
use Rattle.c_api.specs.Answer.{told}
use Rattle.c_api.proofs.Telling.{telling}
use Rattle.c_api.proofs.lembikat_report.Goals as goal

pub returns-in-Ok : goal.returns-in-Ok
unfolding told
returns-in-Ok c = record {
  value = telling report_reply c.in-Ok.is
      (rw c.parts.ensures at c.report_runs.ensures.result_value) told c.done.ensures;
  list_after = rw c.parts.ensures at c.report_runs.ensures.list_after;
}

pub returns-in-Err : goal.returns-in-Err
unfolding told
returns-in-Err c = record {
  value = telling report_reply c.in-Err.is
      (rw c.parts.ensures at c.report_runs.ensures.result_value) told c.refused.ensures;
  list_after = rw c.parts.ensures at c.report_runs.ensures.list_after;
}
