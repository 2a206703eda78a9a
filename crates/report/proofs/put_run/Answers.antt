-- `report::put_run` meets its contract: its four stores are those of the run's bytes.
use Rattle.report.proofs.Reporting.{stored-pair}
use Rattle.report.proofs.put_run.Goals as goal

pub returns : goal.returns
returns c = stored-pair c.args.list.now c.args.at c.args.offset c.args.size
