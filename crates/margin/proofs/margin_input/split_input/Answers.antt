-- `margin::split_input` meets its contract: each part is the one of the definition.
use Rattle.margin.proofs.MarginInputs.{parts_are}
use Rattle.margin.proofs.margin_input.split_input.Goals as goal

pub returns : goal.returns
returns c =
    parts_are _ _ _ _ _ _ c.sheet_end-left.ensures.0 c.sheet_end-right.ensures.0 c.count_behind-nl.ensures c.count_behind-nr.ensures c.min-wiring.ensures
