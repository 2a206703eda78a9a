-- `restored::send` meets what it calls: the received block starts as the sent one, and three flips bring it at most three bits away.
use Rattle.std.proofs.Common.{ap, ◌∙◌, length}
use Rattle.restored.specs.Sent.{Received}
use Rattle.restored.proofs.SquarePlan.{received-flipped}
use Rattle.restored.proofs.send.Goals as goal
use Rattle.restored.proofs.send.Goals.{After-flip_some}

received : (c : After-flip_some) → Received c.flip_some.new.block
received c =
    let sent = c.sent_block-sent.ensures in
    let start = c.sent_block-received.ensures in
    received-flipped (c.flip_some.auto.block ∙ ap length start) (rw (sent, start) at c.flip_some.ensures)

pub restore-requires : goal.restore-requires
restore-requires c = received (goal.at.restore-requires c).After-flip_some

pub tell_apart-requires : goal.tell_apart-requires
tell_apart-requires c = received (goal.at.tell_apart-requires c).After-flip_some
