-- `panel::put_head` meets its contract: the bytes of its two numbers are those before a block.
use Rattle.std.proofs.Common.{◌∙◌, arith}
use Rattle.panel.proofs.States.{head-stored}
use Rattle.panel.proofs.state.put_head.Goals as goal

pub returns : goal.returns
returns c =
    head-stored c.args.state.now c.args.shown.count c.args.shown.sweeps (omega arith) (omega arith) (omega arith)
    (c.copy_from_slice.ensures.after ∙ c.to_be_bytes.ensures) (c.copy_from_slice-2.ensures.after ∙ c.to_be_bytes-2.ensures)
