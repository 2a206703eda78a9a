-- `decoder::note` meets its contract: the sum is put in its place where both tests hold, and else nothing is.
use Rattle.std.proofs.Common.{sym, arith}
use Rattle.decoder.proofs.SweepSums.{noted-told, noted-untold}
use Rattle.decoder.proofs.settle.note.Goals as goal

pub returns-then-i-lt-SUMS : goal.returns-then-i-lt-SUMS
returns-then-i-lt-SUMS c =
    let args = c.args in
    sym (noted-told args.sums.now args.i args.limit args.changed c.if-i-limit.true c.if-i-lt-SUMS.true)

pub returns-else-i-limit : goal.returns-else-i-limit
returns-else-i-limit c =
    let args = c.args in
    sym (noted-untold args.sums.now args.i args.limit args.changed (omega (arith, c.else-i-limit.either)))
