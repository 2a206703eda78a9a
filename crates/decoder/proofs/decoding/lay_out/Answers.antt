-- `decoder::lay_out` meets its contract: the part of the buffer that is filled is the received block.
use Rattle.std.proofs.Common.{refl, length}
use Rattle.decoder.proofs.Trials.{laid-part, laid-whole}
use Rattle.decoder.proofs.decoding.lay_out.Goals as goal

pub returns : goal.returns
returns c =
    let received = c.args.received.block.now in
    let room = c.args.room.now in
    let laid = c.copy_front.ensures in
    let size = length received in
    rw (laid-whole received room size laid refl c.fill.new.block c.fill.auto.block, c.fill.ensures, laid-part received room size laid refl)
