-- `margin::count_behind` meets its contract: its test is that of the definition.
use Rattle.std.proofs.Common.{◌∙◌, arith}
use Rattle.margin.proofs.MarginInputs.{count_cut, count-whole}
use Rattle.margin.proofs.margin_input.count_behind.Goals as goal

pub returns-then-rest-behind : goal.returns-then-rest-behind
returns-then-rest-behind c = count_cut _ _ (omega arith)

pub returns : goal.returns
returns c = c.pair.ensures ∙ count-whole _ _ (omega arith)
