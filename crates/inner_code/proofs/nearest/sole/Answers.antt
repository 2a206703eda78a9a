-- `inner_code::sole` meets its contract: the two are compared.
use Rattle.std.proofs.Common.{sym}
use Rattle.inner_code.proofs.NearestWord.{sole-one, sole_none}
use Rattle.inner_code.proofs.nearest.sole.Goals as goal

pub returns-then-first-last : goal.returns-then-first-last
returns-then-first-last c = sym (sole-one _ _ c.if-first-last.true)

pub returns : goal.returns
returns c = sym (sole_none _ _ c.if-first-last.false)
