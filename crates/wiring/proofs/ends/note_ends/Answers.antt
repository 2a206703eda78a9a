-- `wiring::note_ends` meets its contract: after i turns the ends that the first i entries name are noted, and since no edge stands twice no
-- later turn writes over one of them.
use Rattle.std.proofs.Common.{◌≡◌, refl, ◌<◌, div-le_self, arith, length-set}
use Rattle.bits.proofs.Lists.{kept-start, kept_set}
use Rattle.wiring.proofs.EdgeEnds.{noted-none, noted-one-more}
use Rattle.wiring.proofs.ends.note_ends.Goals as goal
use Rattle.wiring.proofs.ends.note_ends.Goals.{After-edge_at-edge}

pub loop-i-init : goal.loop-i-init
loop-i-init c = (refl, refl, noted-none _ _ _ _ _, kept-start _ _, kept-start _ _)

-- an entry of the wiring is one of its edges
edge-lt : (c : After-edge_at-edge) → c.edge_at-edge.result < c.args.edges
edge-lt c = omega (arith, c.edge_at-edge.ensures, c.requires.permuted.edge-lt c.loop-i.i (omega arith))

pub overflow_cast-lefts : goal.overflow_cast-lefts
overflow_cast-lefts c = omega (arith, edge-lt c, div-le_self c.edge_at-edge.result c.args.dl)

pub overflow_cast-rights : goal.overflow_cast-rights
overflow_cast-rights c = omega (arith, div-le_self c.loop-i.i c.args.dr)

pub offset_bounds-rights-edge : goal.offset_bounds-rights-edge
offset_bounds-rights-edge c = omega (arith, edge-lt c)

pub bounds-rights-edge : goal.bounds-rights-edge
bounds-rights-edge c = omega (arith, edge-lt c)

pub loop-i-preserved : goal.loop-i-preserved
loop-i-preserved c =
    let before = c.loop-i in (
      simp length-set before.invariant.0,
      simp length-set before.invariant.1,
      noted-one-more c.requires.permuted (omega arith) (omega arith) before.i c.edge_at-edge.result (omega arith) c.edge_at-edge.ensures
          before.invariant.2,
      kept_set before.invariant.3 before.i _ (omega arith),
      kept_set before.invariant.4 c.edge_at-edge.result _ (edge-lt c),
    )

pub returns : goal.returns
returns c =
    let end : c.loop-i.i ≡ c.args.edges = omega arith in
    record {
      noted = rw end at c.loop-i.invariant.2;
      lefts_kept = c.loop-i.invariant.3;
      rights_kept = c.loop-i.invariant.4;
    }
