-- `messages::clear` meets its contract: what is filled in are the zeros of the front that is written over.
use Rattle.std.proofs.Common.{◌≤◌, length, length-take-le}
use Rattle.std.proofs.lemmas.List.{length-replicate}
use Rattle.bits.specs.Bit.{written}
use Rattle.messages.proofs.output.clear.Goals as goal

pub returns : goal.returns
unfolding written
returns c =
    let room : c.args.count ≤ length c.args.output.now = c.requires in
    rw (c.fill.ensures.after (λ y e. e), length-take-le, length-replicate)
