-- `tables::mark_ties` meets its contract: after c turns the first c classes have their entries.
use Rattle.std.proofs.Common.{ap, ◌∙◌, ◌+◌, ◌*◌, arith, get_or, get_or-set_other}
use Rattle.tables.specs.Folding.{marked_byte}
use Rattle.tables.proofs.Keys.{marked_more}
use Rattle.tables.proofs.building.mark_ties.Goals as goal

pub loop-c-preserved : goal.loop-c-preserved
loop-c-preserved c =
    let args = c.args in
    let m = c.loop-c.c in
    marked_more m args.table.now args.costs.now c.loop-c.table _ _ c.loop-c.invariant (omega arith)
    c.marked_byte.ensures
    (c.marked_byte-in-loop-c.ensures
    ∙ ap (marked_byte (get_or args.costs.now m 0))
    (get_or-set_other c.loop-c.table (2 * m) (2 * m + 1) _ 0 (λ e. omega (arith, e))))
