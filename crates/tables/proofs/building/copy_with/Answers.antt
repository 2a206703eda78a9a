-- `tables::copy_with` meets its contract: after c turns the first c keys stand again.
use Rattle.std.proofs.Common.{◌≡◌, ℕ, ◌+◌, ◌*◌, ◌/◌, ◌%◌, List, refl, ap, ◌∙◌, get_or, arith, rules, bit_xor, get_or-set_other}
use Rattle.bits.specs.Window.{at}
use Rattle.tables.proofs.Keys.{copied_more}
use Rattle.tables.proofs.building.copy_with.Goals as goal

pub overflow_add-costs : goal.overflow_add-costs
unfolding at
overflow_add-costs c =
    omega (arith, c.loop-c.invariant.kept-cost c.loop-c.c (omega arith), c.requires.costs_low c.loop-c.c (omega arith))

pub loop-c-preserved : goal.loop-c-preserved
loop-c-preserved c =
    let args = c.args in
    let m = c.loop-c.c in
    let table = c.loop-c.table in
    let bytes = c.to_be_bytes.ensures in
    let high : get_or c.to_be_bytes.result 0 0 ≡ args.digit / 256 = ap (λ (l : List ℕ). get_or l 0 0) bytes ∙ omega arith in
    let low : get_or c.to_be_bytes.result 1 0 ≡ args.digit % 256 = ap (λ (l : List ℕ). get_or l 1 0) bytes ∙ omega arith in
    copied_more args.count args.digit m args.table.now args.costs.now table c.loop-c.costs (omega arith)
    (omega (arith, c.requires.room.entries)) (omega (arith, c.requires.room.weights)) c.loop-c.invariant _ _ _
    (λ i. search rules) (ap (bit_xor (get_or table (2 * m) 0)) high)
    (ap (λ (x : ℕ). bit_xor x (get_or c.to_be_bytes.result 1 0))
    (get_or-set_other table (2 * (args.count + m)) (2 * m + 1) _ 0 (λ e. omega (arith, e)))
    ∙ ap (bit_xor (get_or table (2 * m + 1) 0)) low)
    refl
