-- `report::agreeing` meets its contract: equal bytes have equal bits, and otherwise bit i alone decides.
use Rattle.std.proofs.Common.{arith, refl}
use Rattle.report.proofs.Reporting.{agreeing-byte, agreeing-flag}
use Rattle.report.proofs.agreeing.Goals as goal

pub returns-then-received-i : goal.returns-then-received-i
returns-then-received-i c =
    let args = c.args in
    agreeing-byte args.received.now args.settled.now args.edges args.i (omega arith) (omega arith) c.if-received-i.true

pub returns : goal.returns
returns c =
    let args = c.args in
    rw c.from.ensures
    (agreeing-flag args.received.now args.settled.now args.edges args.i _ _ c.bit.ensures c.bit-2.ensures (omega arith) _ refl)
