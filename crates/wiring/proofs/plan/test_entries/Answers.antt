-- `wiring::test_entries` meets its contract: after i turns the first i entries have passed, and `seen` has a bit for each of their edges.
use Rattle.std.proofs.Common.{◌≡◌, refl, sym, ap, ◌∙◌, arith}
use Rattle.wiring.specs.Plan.{edge_of}
use Rattle.wiring.specs.Wiring.{entries_check}
use Rattle.wiring.specs.Access.{none_seen, seen_after}
use Rattle.wiring.proofs.Permutation.{entries-refused, entries-one-more}
use Rattle.wiring.proofs.SeenBits.{entry-high, entry_seen, entry-fresh, seen_stored}
use Rattle.wiring.proofs.plan.test_entries.Goals as goal

pub loop-i-init : goal.loop-i-init
unfolding entries_check seen_after none_seen
loop-i-init c = (refl, refl)

pub returns-then-edges-edge : goal.returns-then-edges-edge
returns-then-edges-edge c =
    let turn = c.loop-i in
    let args = c.args in
    let edge = edge_of args.wiring.now in
    sym (entries-refused args.edges edge args.edges turn.i 9 turn.i turn.invariant.0
    (entry-high args.edges edge turn.i _ c.edge_at-edge.ensures c.if-edges-edge.true) (omega arith))

pub returns-then-byte-bit-ne0 : goal.returns-then-byte-bit-ne0
returns-then-byte-bit-ne0 c =
    let turn = c.loop-i in
    let args = c.args in
    let edge = edge_of args.wiring.now in
    sym (entries-refused args.edges edge args.edges turn.i 10 turn.i turn.invariant.0
    (entry_seen args.edges edge turn.i _ c.edge_at-edge.ensures turn.seen turn.invariant.1 c.if-edges-edge.false (omega arith)
    c.if-byte-bit-ne0.true)
    (omega arith))

pub loop-i-preserved : goal.loop-i-preserved
loop-i-preserved c =
    let turn = c.loop-i in
    let args = c.args in
    let edge = edge_of args.wiring.now in
    let is = c.edge_at-edge.ensures in
    let low = c.if-edges-edge.false in (
      entries-one-more args.edges edge turn.i turn.invariant.0
          (entry-fresh args.edges edge turn.i _ is turn.seen turn.invariant.1 low (omega arith) c.if-byte-bit-ne0.false),
      seen_stored args.edges edge turn.i _ is turn.seen turn.invariant.1 low (omega arith) c.if-byte-bit-ne0.false,
    )

pub returns : goal.returns
returns c =
    let args = c.args in
    let end : c.loop-i.i ≡ args.edges = omega arith in
    sym (ap (entries_check args.edges (edge_of args.wiring.now)) (sym end) ∙ c.loop-i.invariant.0)
