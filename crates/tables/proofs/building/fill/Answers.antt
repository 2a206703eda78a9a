-- `tables::fill` meets its contract: after b turns every class that a pattern below 2^b reaches has its lightest one.
use Rattle.std.proofs.Common.{◌≡◌, ℕ, ◌-◌, ◌*◌, ◌%◌, ◌^◌, ◌≤◌, ◌<◌, min, List, [], sym, ap, ◌∙◌, subst, length, get_or, arith, rules}
use Rattle.std.proofs.Common.{pow_pos}
use mathlib.Core.Path.{subst⁻¹}
use Rattle.bits.specs.Window.{at}
use Rattle.bits.proofs.Windows.{shifted_one}
use Rattle.inner_code.specs.Reduction.{reduced, reduced_by}
use Rattle.inner_code.specs.Sheet.{degree, row_count, row_of}
use Rattle.inner_code.proofs.SheetChecks.{Sound, sound, degree-byte}
use Rattle.tables.specs.Answer.{table_bytes}
use Rattle.tables.specs.Numbering.{free_mask, squeezed_by, number_of}
use Rattle.tables.specs.Folding.{Room, Sized, Filled}
use Rattle.tables.proofs.Tables.{classes-le, classes-few, left_is, number_is}
use Rattle.tables.proofs.Tables.{filled-start, filled-small, doubled-room, filled-copied, folded-apart, filled-folded, filled-table, filled-same}
use Rattle.tables.proofs.building.fill.Goals as goal
use Rattle.tables.proofs.building.fill.Goals.{After-residue-left, At-loop-b, else-left-digit, then-left-digit}

-- ---- the sheet, and the room that it asks for

fine : {sheet basis table : List ℕ} → Sized sheet basis table → Sound sheet
fine {sheet} fits = sound sheet [] fits.accepted

classes : List ℕ → ℕ
classes sheet = 2 ^ (degree sheet - row_count sheet)

room-for : {sheet basis table : List ℕ} (fits : Sized sheet basis table) (count : ℕ) (costs after left : List ℕ) → length table ≤ 2 * length costs
    → length after ≡ length table → length left ≡ length costs → count ≤ classes sheet → Room count after left
unfolding table_bytes classes
room-for {sheet} fits count costs after left enough sized costed few =
    record {
      entries = omega (arith, fits.sized);
      weights = omega (arith, fits.sized);
      few = omega (arith, classes-few sheet (fine fits));
    }

room : (c : At-loop-b) (count : ℕ) → count ≤ classes c.args.sheet.now → Room count c.loop-b.table c.loop-b.costs
room c count few =
    room-for c.requires.sized count c.args.costs.now c.loop-b.table c.loop-b.costs c.requires.table_len_bound
    (c.loop-b.auto.table ∙ c.put_key.ensures.sized) (c.loop-b.auto.costs ∙ c.put_key.ensures.costed) few

reached : (c : At-loop-b) → c.loop-b.count ≤ classes c.args.sheet.now
unfolding classes
reached c =
    let sheet = c.args.sheet.now in
    omega (arith, c.loop-b.invariant.0.counted, classes-le sheet (fine c.requires.sized) c.loop-b.b (omega (arith, degree-byte sheet)))

pub bounds-sheet-0 : goal.bounds-sheet-0
bounds-sheet-0 c = omega (arith, (fine c.requires.sized).sized)

pub bounds-sheet-1 : goal.bounds-sheet-1
bounds-sheet-1 c = omega (arith, (fine c.requires.sized).sized)

pub put_key-requires-clause-table_room : goal.put_key-requires-clause-table_room
unfolding table_bytes
put_key-requires-clause-table_room c =
    let sheet = c.args.sheet.now in
    omega (arith, c.requires.sized.sized, pow_pos (degree sheet - row_count sheet))

pub put_key-requires-clause-costs_room : goal.put_key-requires-clause-costs_room
unfolding table_bytes
put_key-requires-clause-costs_room c =
    let sheet = c.args.sheet.now in
    omega (arith, c.requires.sized.sized, pow_pos (degree sheet - row_count sheet))

pub loop-b-init : goal.loop-b-init
loop-b-init c = (filled-start c.args.sheet.now (fine c.requires.sized) _ _ _ _ c.put_key.ensures, λ i. (c.type_inv.table i).fits)

-- ---- a turn: its digit, and what the rows leave of it

record Turn (sheet basis : List ℕ) (b digit left : ℕ) : Type 0 where
  b_lt : b < degree sheet
  digit_is : digit ≡ 2 ^ b
  left_by : left ≡ reduced_by (at basis) (min (row_count sheet) 11) (2 ^ b)

turn-of : {sheet basis table : List ℕ} → Sized sheet basis table → (b left : ℕ) → b < get_or sheet 0 0
    → left ≡ reduced_by (at basis) (min (get_or sheet 1 0) 11) ((1 * 2 ^ b) % 65536) → Turn sheet basis b ((1 * 2 ^ b) % 65536) left
unfolding degree row_count
turn-of fits b left b_lt left_by =
    let is = shifted_one b 16 (omega (arith, b_lt, (fine fits).degree-high)) in
    record { b_lt = b_lt; digit_is = is; left_by = rw is at left_by }

turn : (c : After-residue-left) → Turn c.args.sheet.now c.args.basis.now c.loop-b.b ((1 * 2 ^ c.loop-b.b) % 65536) c.residue-left.result
turn c = turn-of c.requires.sized c.loop-b.b c.residue-left.result c.loop-b-test.true c.residue-left.ensures

free : {sheet basis table : List ℕ} {b digit left : ℕ} → Sized sheet basis table → Turn sheet basis b digit left → left ≡ digit
    → reduced (row_of sheet) (row_count sheet) (2 ^ b) ≡ 2 ^ b
free {sheet} {basis} {b = b} fits t same = sym (t.left_by ∙ left_is sheet (fine fits) basis fits.echelon (2 ^ b)) ∙ same ∙ t.digit_is

taken : {sheet basis table : List ℕ} {b digit left : ℕ} → Sized sheet basis table → Turn sheet basis b digit left → (left ≡ digit → ⊥)
    → reduced (row_of sheet) (row_count sheet) (2 ^ b) ≡ 2 ^ b → ⊥
taken {sheet} {basis} {b = b} fits t differ e =
    differ (t.left_by ∙ left_is sheet (fine fits) basis fits.echelon (2 ^ b) ∙ e ∙ sym t.digit_is)

-- the number of the digit's class
apart : {sheet basis table : List ℕ} {b digit left mask r : ℕ} → Sized sheet basis table → Turn sheet basis b digit left
    → mask ≡ free_mask (at basis) (min (row_count sheet) 11) → r ≡ squeezed_by mask 16 left → r ≡ number_of (row_of sheet) (row_count sheet) (2 ^ b)
apart {sheet} {basis} {b = b} {left = left} fits t mask_is squeezed =
    squeezed ∙ ap (λ (m : ℕ). squeezed_by m 16 left) mask_is ∙ number_is sheet (fine fits) basis fits.echelon (2 ^ b) left t.left_by

pub overflow_shl-digit : goal.overflow_shl-digit
overflow_shl-digit c = omega (arith, degree-byte c.args.sheet.now, (fine c.requires.sized).degree-high)

wider : (c : After-residue-left) → c.residue-left.result ≡ (1 * 2 ^ c.loop-b.b) % 65536 → 2 * c.loop-b.count ≤ classes c.args.sheet.now
unfolding classes
wider c same =
    doubled-room c.args.sheet.now (fine c.requires.sized) c.loop-b.b c.loop-b.count (turn c).b_lt c.loop-b.table c.loop-b.costs c.loop-b.invariant.0
    (free c.requires.sized (turn c) same)

pub copy_with-requires-clause-room : goal.copy_with-requires-clause-room
copy_with-requires-clause-room c =
    room (goal.at.copy_with-requires-clause-room c).At-loop-b (2 * c.loop-b.count)
    (wider (goal.at.copy_with-requires-clause-room c).After-residue-left c.if-left-digit.true)

pub copy_with-requires-clause-costs_low : goal.copy_with-requires-clause-costs_low
copy_with-requires-clause-costs_low c =
    filled-small c.args.sheet.now (fine c.requires.sized) c.loop-b.b c.loop-b.count
    (turn (goal.at.copy_with-requires-clause-costs_low c).After-residue-left).b_lt c.loop-b.table c.loop-b.costs c.loop-b.invariant.0

pub overflow_mul-count : goal.overflow_mul-count
overflow_mul-count c =
    let few = (room (goal.at.overflow_mul-count c).At-loop-b c.loop-b.count (reached (goal.at.overflow_mul-count c).At-loop-b)).few in
    omega (arith, few)

pub fold-requires-clause-room : goal.fold-requires-clause-room
fold-requires-clause-room c =
    room (goal.at.fold-requires-clause-room c).At-loop-b c.loop-b.count (reached (goal.at.fold-requires-clause-room c).At-loop-b)

pub fold-requires-clause-apart_low : goal.fold-requires-clause-apart_low
unfolding row_count
fold-requires-clause-apart_low c =
    let fits = c.requires.sized in
    let here = turn (goal.at.fold-requires-clause-apart_low c).After-residue-left in
    folded-apart c.args.sheet.now (fine fits) c.loop-b.b c.loop-b.count here.b_lt c.loop-b.table c.loop-b.costs c.loop-b.invariant.0
    (taken fits here c.if-left-digit.false) _ (apart fits here c.free_digits-mask.ensures c.squeeze.ensures)

pub loop-b-preserved : goal.loop-b-preserved
unfolding row_count
loop-b-preserved c =
    let sheet = c.args.sheet.now in
    let fits = c.requires.sized in
    let here = turn (goal.at.loop-b-preserved c).After-residue-left in
    let so = c.loop-b.invariant.0 in (
      (elim c.if-left-digit.branch [
        | then-left-digit w ↦ filled-same sheet (fine fits) _ _ _ _ _ _ w.count-is w.table-is w.costs-is
            (filled-copied sheet (fine fits) c.loop-b.b c.loop-b.count here.b_lt c.loop-b.table c.loop-b.costs so
            (free fits here w.if-left-digit.true) _ _ _ here.digit_is c.loop-b.invariant.1 w.copy_with.ensures)
        | else-left-digit w ↦ filled-same sheet (fine fits) _ _ _ _ _ _ w.count-is w.table-is w.costs-is
            (filled-folded sheet (fine fits) c.loop-b.b c.loop-b.count here.b_lt c.loop-b.table c.loop-b.costs so
            (taken fits here w.if-left-digit.false) _ (apart fits here c.free_digits-mask.ensures w.squeeze.ensures) _ _ _ here.digit_is w.fold.ensures)
      ]),
      λ i. elim c.if-left-digit.branch [
        | then-left-digit w ↦ subst⁻¹ (λ (l : List ℕ). get_or l i 0 < 256) w.table-is (search rules)
        | else-left-digit w ↦ subst⁻¹ (λ (l : List ℕ). get_or l i 0 < 256) w.table-is (search rules)
      ],
    )

pub mark_ties-requires : goal.mark_ties-requires
mark_ties-requires c = room (goal.at.mark_ties-requires c).At-loop-b c.loop-b.count (reached (goal.at.mark_ties-requires c).At-loop-b)

pub returns : goal.returns
returns c =
    let sheet = c.args.sheet.now in
    let end : c.loop-b.b ≡ degree sheet = omega (arith, degree-byte sheet) in
    filled-table sheet (fine c.requires.sized) c.loop-b.count c.loop-b.table c.loop-b.costs _
    (subst (λ (b : ℕ). Filled sheet b c.loop-b.count c.loop-b.table c.loop-b.costs) end c.loop-b.invariant.0)
    c.mark_ties.ensures c.loop-b.invariant.1 (λ i. (c.type_inv.table i).fits)
    (c.mark_ties.ensures.sized ∙ c.loop-b.auto.table ∙ c.put_key.ensures.sized ∙ c.requires.sized.sized)
