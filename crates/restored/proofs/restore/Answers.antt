-- `restored::restore` cannot fail: each of its expectations is one fact that the guarantee gives of a decoder call. The first call settles
-- within the sweeps named (`answer`, `within`) on the sent block (`restored`); with the limit at the count answered it settles there
-- (`settled`, `first`), and with one sweep less it is refused (`first`).
use Rattle.std.proofs.Common.{◌≡◌, refl, sym, ◌∙◌, ◌<◌, arith, le-leb, eq-eqb}
use lib.Pointwise.{bytes_decides}
use Rattle.wiring.specs.Square.{square_plan}
use Rattle.radius.specs.Demand.{Restored}
use Rattle.restored.specs.Sent.{sent_block}
use Rattle.restored.proofs.SquarePlan.{zero_block, sent-written}
use Rattle.restored.proofs.Decoding.{decode-restored, decode-at, decode-before, outcome-count, outcome-unsettled}
use Rattle.restored.proofs.restore.Goals as goal
use Rattle.restored.proofs.restore.Goals.{After-sweeps-count}

-- ---- the first call

promised : (c : After-sweeps-count) → Restored square_plan sent_block c.args.received.now zero_block 4096 2
promised c = decode-restored c.requires zero_block refl 4096 (omega arith) (omega arith)

count-is : (c : After-sweeps-count) → c.sweeps-count.result ≡ (promised c).count
count-is c =
    let call = c.decode in
    c.sweeps-count.ensures ∙ outcome-count call.result _ (call.ensures.result_value ∙ (promised c).answer)

pub expect-requires : goal.expect-requires
expect-requires c = le-leb c.sweeps-count.result 2 (omega (arith, count-is c, (promised c).within))

pub expect-requires-2 : goal.expect-requires-2
expect-requires-2 c =
    let sent = c.sent_block-sent.ensures in
    let same = c.decode.ensures.output_after ∙ (promised (goal.at.expect-requires-2 c).After-sweeps-count).restored ∙ sent-written ∙ sym sent in
    c.eq.ensures ∙ (bytes_decides _ _).1 same

-- ---- the limit at the count answered

pub expect-requires-3 : goal.expect-requires-3
expect-requires-3 c =
    let count = count-is (goal.at.expect-requires-3 c).After-sweeps-count in
    let p = promised (goal.at.expect-requires-3 c).After-sweeps-count in
    let one = c.decode in
    let at = decode-at c.requires _ one.auto.output p.count (omega (arith, p.within)) p.first p.settled in
    let again = outcome-count c.decode-again.result p.count ((rw count at c.decode-again.ensures.result_value) ∙ at) in
    eq-eqb _ _ (c.sweeps.ensures ∙ again ∙ sym count)

-- ---- the limit one lower

pub expect-requires-then-count-gt0 : goal.expect-requires-then-count-gt0
expect-requires-then-count-gt0 c =
    let count = count-is (goal.at.expect-requires-then-count-gt0 c).After-sweeps-count in
    let p = promised (goal.at.expect-requires-then-count-gt0 c).After-sweeps-count in
    let room = c.decode-again.auto.output ∙ c.decode.auto.output in
    let some : 0 < p.count = rw count at c.if-count-gt0.true in
    let before = decode-before c.requires _ room p.count (omega (arith, p.within)) p.first some in
    c.is_unsettled.ensures.1 (outcome-unsettled c.decode-sooner.result ((rw count at c.decode-sooner.ensures.result_value) ∙ before))
