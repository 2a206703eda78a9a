-- `tables::fold` meets its contract: after c turns the first c classes, and those apart from them, are folded.
use Rattle.std.proofs.Common.{arith}
use Rattle.tables.proofs.Keys.{folded-passed, folded_both, folded-same}
use Rattle.tables.proofs.building.fold.Goals as goal
use Rattle.tables.proofs.building.fold.Goals.{else-c-other, then-c-other}

pub loop-c-preserved : goal.loop-c-preserved
loop-c-preserved c =
    let args = c.args in
    let so = c.loop-c.invariant in
    let turn = c.loop-c.c in
    elim c.if-c-other.branch [
      | then-c-other w ↦ folded-same _ _ _ _ w.table-is w.costs-is
          (folded_both args.count args.apart args.digit _ _ turn _ _ (omega arith) so _ _ w.if-c-other.true w.fold_pair.ensures)
      | else-c-other w ↦ folded-same _ _ _ _ w.table-is w.costs-is
          (folded-passed args.count args.apart args.digit _ _ turn _ _ (omega arith) so w.if-c-other.false)
    ]
