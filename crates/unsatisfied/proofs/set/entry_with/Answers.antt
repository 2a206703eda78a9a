-- `unsatisfied::entry_with` meets its contract: at no entry before i does the edge stand.
use Rattle.std.proofs.Common.{◌≡◌, sym, ◌∙◌, ◌/◌, length, arith, below_more}
use Rattle.unsatisfied.proofs.BitChange.{entry_found, entry-nowhere}
use Rattle.unsatisfied.proofs.set.entry_with.Goals as goal

pub returns-then-edge_at-edge : goal.returns-then-edge_at-edge
returns-then-edge_at-edge c =
    entry_found _ _ _ c.loop-i.invariant (omega arith) (sym c.edge_at.ensures ∙ c.if-edge_at-edge.true)

pub loop-i-preserved : goal.loop-i-preserved
loop-i-preserved c = below_more _ _ c.loop-i.invariant (λ e. c.if-edge_at-edge.false (c.edge_at.ensures ∙ e))

pub returns : goal.returns
returns c =
    let end : c.loop-i.i ≡ length c.args.wiring.now / 2 = omega arith in
    sym end ∙ entry-nowhere _ _ _ c.loop-i.invariant end
