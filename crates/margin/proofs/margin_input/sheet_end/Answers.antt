-- `margin::sheet_end` meets its contract: its test is that of the definition, and a byte is below 256, so that nothing wraps.
use Rattle.std.proofs.Common.{sym, ◌∙◌, arith}
use Rattle.margin.proofs.MarginInputs.{sheet-cut, sheet-long}
use Rattle.margin.proofs.margin_input.sheet_end.Goals as goal

pub returns-then-bytes-from-lt2 : goal.returns-then-bytes-from-lt2
returns-then-bytes-from-lt2 c = (sym (sheet-cut _ _ (omega arith)), omega arith)

pub returns : goal.returns
returns c = (c.min.ensures ∙ sym (sheet-long _ _ (omega arith)), omega arith)
