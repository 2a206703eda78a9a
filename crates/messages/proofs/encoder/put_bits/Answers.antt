-- `messages::put_bits` meets its contract: after e turns the first e bits are put.
use Rattle.std.proofs.Common.{◌≡◌, arith}
use Rattle.messages.proofs.Written.{put-none, put-one-more}
use Rattle.messages.proofs.encoder.put_bits.Goals as goal

pub loop-e-init : goal.loop-e-init
loop-e-init c = put-none _ _ _

pub loop-e-preserved : goal.loop-e-preserved
loop-e-preserved c = put-one-more _ _ _ _ _ _ _ c.loop-e.invariant c.parity_of.ensures c.put_bit.ensures

pub returns : goal.returns
returns c =
    let end : c.loop-e.e ≡ c.args.edges = omega arith in
    rw end at c.loop-e.invariant
