-- `inner_code::check_sheet` meets its contract: the check is made over zeros.
use Rattle.inner_code.proofs.sheet.check_sheet.Goals as goal

pub returns : goal.returns
returns c = c.check_into-values.ensures
