-- `decoder::answer_by` meets its contract: a count within the limit is answered, and past it the received block is put back.
use Rattle.std.proofs.Common.{arith}
use Rattle.decoder.proofs.Trials.{by-settled, by-unsettled}
use Rattle.decoder.proofs.decoding.answer_by.Goals as goal

pub returns-then-limit-count : goal.returns-then-limit-count
returns-then-limit-count c =
    by-unsettled _ _ _ _ c.if-limit-count.true c.copy_front.ensures

pub returns : goal.returns
returns c = by-settled _ _ _ _ (omega (arith, c.if-limit-count.false))
