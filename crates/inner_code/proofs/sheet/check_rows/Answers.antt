-- `inner_code::check_rows` meets its contract: after i turns the rows below i are sound, and their echelon form stands in `basis`.
use Rattle.std.proofs.Common.{◌≡◌, refl, sym, ap, ap₂, ◌∙◌, List, ℕ, ◌≤◌, ◌<◌, ◌^◌, min, rules, arith, length, set}
use native.Mathlib.Nat.{min-eq_left}
use Rattle.bits.specs.Window.{at}
use Rattle.bits.proofs.Windows.{shifted_one}
use Rattle.inner_code.specs.Sheet.{row_of, rows_check}
use Rattle.inner_code.specs.Reduction.{with_echelon, echelon, reduced_by}
use Rattle.inner_code.proofs.EchelonForm.{length-with_echelon, with_echelon-one-more, reduced_by-stored}
use Rattle.inner_code.proofs.SheetChecks.{row-high, row_made, row-sound, rows-one-more, rows-refused, rows-answer-refused, rows-answer-done}
use Rattle.inner_code.proofs.sheet.check_rows.Goals as goal
use Rattle.inner_code.proofs.sheet.check_rows.Goals.{After-residue-left}

-- what is left of row i by the stored rows is its echelon row
left : (sheet before basis : List ℕ) (i row result : ℕ) → i ≤ 11 → i ≤ length before → basis ≡ with_echelon (row_of sheet) i before → row ≡ row_of sheet i
    → result ≡ reduced_by (at basis) (min i 11) row → result ≡ echelon (row_of sheet) i
unfolding echelon
left sheet before basis i row result h room b r e =
    e ∙ ap₂ (λ (l : List ℕ) (n : ℕ). reduced_by (at l) n row) b (min-eq_left h)
    ∙ ap (reduced_by (at (with_echelon (row_of sheet) i before)) i) r
    ∙ reduced_by-stored (row_of sheet) i before (row_of sheet i) room

pub loop-i-init : goal.loop-i-init
unfolding rows_check with_echelon
loop-i-init c = (search rules, search rules, shifted_one c.args.d 32 (omega arith), refl, refl, search rules)

-- ---- a turn: the call, the loop's head, and row i as it is read

pub returns-then-limit-row : goal.returns-then-limit-row
unfolding row_of
returns-then-limit-row c =
    let turn = c.loop-i in
    let args = c.args in
    let row = row_of args.sheet.now in
    let high : 2 ^ args.d ≤ row turn.i = omega (arith, turn.invariant.2, c.if-limit-row.true, c.pair-row.ensures) in
    record {
      answer =
          sym
          (rows-answer-refused args.sheet.now args.d args.k 5 turn.i
          (rows-refused args.d row turn.i 5 turn.i args.k turn.invariant.3 (row-high args.d row turn.i high) (search rules)));
      rows = turn.invariant.4;
    }

-- row i has no bit past the first d
row_low : (c : After-residue-left)
    → let args = c.args in row_of args.sheet.now c.loop-i.i < 2 ^ args.d
unfolding row_of
row_low c = omega (arith, c.loop-i.invariant.2, c.if-limit-row.false, c.pair-row.ensures)

-- what is left of row i is its echelon row
left_is : (c : After-residue-left)
    → c.residue-left.result ≡ echelon (row_of c.args.sheet.now) c.loop-i.i
unfolding row_of
left_is c =
    let turn = c.loop-i in
    left c.args.sheet.now _ turn.basis turn.i c.pair-row.result c.residue-left.result (search rules)
    turn.invariant.5 turn.invariant.4 c.pair-row.ensures c.residue-left.ensures

pub returns-then-left-eq0 : goal.returns-then-left-eq0
unfolding row_of echelon
returns-then-left-eq0 c =
    let turn = c.loop-i in
    let args = c.args in
    let row = row_of args.sheet.now in
    let made : echelon row turn.i ≡ 0 = sym (left_is (goal.at.returns-then-left-eq0 c).After-residue-left) ∙ c.if-left-eq0.true in
    let refusal = row_made args.d row turn.i (row_low (goal.at.returns-then-left-eq0 c).After-residue-left) made in
    record {
      answer =
          sym
          (rows-answer-refused args.sheet.now args.d args.k 6 turn.i
          (rows-refused args.d row turn.i 6 turn.i args.k turn.invariant.3 refusal (search rules)));
      rows = turn.invariant.4;
    }

pub loop-i-preserved : goal.loop-i-preserved
unfolding row_of echelon
loop-i-preserved c =
    let turn = c.loop-i in
    let args = c.args in
    let row = row_of args.sheet.now in
    let sound = row-sound args.d row turn.i (row_low (goal.at.loop-i-preserved c).After-residue-left) (λ z. c.if-left-eq0.false (left_is (goal.at.loop-i-preserved c).After-residue-left ∙ z)) in (
      search rules,
      search rules,
      turn.invariant.2,
      rows-one-more args.d row turn.i turn.invariant.3 sound,
      ap₂ (λ (l : List ℕ) (x : ℕ). set l turn.i x) turn.invariant.4 (left_is (goal.at.loop-i-preserved c).After-residue-left)
          ∙ sym (with_echelon-one-more row turn.i args.basis.now),
      omega (arith, ap length turn.invariant.4, length-with_echelon row turn.i args.basis.now),
    )

pub returns : goal.returns
returns c =
    let turn = c.loop-i in
    let args = c.args in
    let row = row_of args.sheet.now in
    let end : turn.i ≡ args.k = omega arith in
    record {
      answer = sym (rows-answer-done args.sheet.now args.d args.k (ap (rows_check args.d row) (sym end) ∙ turn.invariant.3));
      rows = turn.invariant.4 ∙ ap (λ (n : ℕ). with_echelon row n args.basis.now) end;
    }
