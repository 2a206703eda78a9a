-- `restored::tell_apart` cannot fail: what the guarantee says without any decoder call gives its expectation. The codeword of zeros is not
-- the one that was sent, so it differs from the received block in more bits than are covered.
use Rattle.std.proofs.Common.{arith, lt-ltb}
use Rattle.wiring.specs.Square.{square_plan}
use Rattle.radius.proofs.Guarantee.{demand3-alone}
use Rattle.restored.specs.Sent.{sent_block}
use Rattle.restored.proofs.SquarePlan.{zero_block, square-edges, square-margin, sent-codeword, zero-codeword, zero-another}
use Rattle.restored.proofs.SquarePlan.{received-block, received-few}
use Rattle.restored.proofs.tell_apart.Goals as goal

pub expect-requires : goal.expect-requires
expect-requires c =
    let r = c.requires in
    let far =
    demand3-alone square_plan sent_block _ zero_block 3 2 sent-codeword (received-block r) (received-few r) square-margin zero-codeword
    zero-another in
    lt-ltb 3 c.differing.result (omega (arith, c.differing.ensures, rw square-edges at far))
