-- `inner_code::check_into` meets its contract: each return is the outcome of the first test that holds.
use Rattle.std.proofs.Common.{arith, sym, ◌∙◌, refl, inl, inr}
use Rattle.inner_code.specs.Sheet.{degree, row_count}
use Rattle.inner_code.specs.declared.refusal.Refusal.{Refusal}
use Rattle.inner_code.proofs.SheetChecks.{refused-into, sheet-short, sheet-degree, sheet-count, sheet-length, sheet-rows-answer}
use Rattle.inner_code.proofs.sheet.check_into.Goals as goal
use Rattle.inner_code.proofs.sheet.check_into.Goals.{then-d-lt2-via-then-d-lt2, then-d-lt2-via-else-d-lt2+then-d-gt-MAX_DEGREE}
use Rattle.inner_code.proofs.sheet.check_into.Goals.{then-k-lt1-via-then-k-lt1, then-k-lt1-via-else-k-lt1+then-k-gt-MAX_ROWS}
use Rattle.inner_code.proofs.sheet.check_into.Goals.{then-k-lt1-via-else-k-lt1+else-k-gt-MAX_ROWS+then-d-k}

pub returns-then-sheet-lt2 : goal.returns-then-sheet-lt2
returns-then-sheet-lt2 c = refused-into c.args.sheet.now _ Refusal.SheetShort refl (sheet-short c.args.sheet.now (omega arith))

pub returns-then-d-lt2 : goal.returns-then-d-lt2
unfolding degree row_count
returns-then-d-lt2 c =
    let sheet = c.args.sheet.now in
    refused-into sheet _ Refusal.DegreeOutOfRange refl (sheet-degree sheet (omega arith)
    (elim c.then-d-lt2.branch [
      | then-d-lt2-via-then-d-lt2 w ↦ inl (omega arith)
      | then-d-lt2-via-else-d-lt2+then-d-gt-MAX_DEGREE w ↦ inr (omega arith)
    ]))

pub returns-then-k-lt1 : goal.returns-then-k-lt1
unfolding degree row_count
returns-then-k-lt1 c =
    let sheet = c.args.sheet.now in
    refused-into sheet _ Refusal.RowsOutOfRange refl (sheet-count sheet (omega arith) (omega arith) (omega arith)
    (elim c.then-k-lt1.branch [
      | then-k-lt1-via-then-k-lt1 w ↦ inl (omega arith)
      | then-k-lt1-via-else-k-lt1+then-k-gt-MAX_ROWS w ↦ inr (inl (omega arith))
      | then-k-lt1-via-else-k-lt1+else-k-gt-MAX_ROWS+then-d-k w ↦ inr (inr (omega arith))
    ]))

pub returns-then-sheet-k : goal.returns-then-sheet-k
unfolding degree row_count
returns-then-sheet-k c =
    let sheet = c.args.sheet.now in
    refused-into sheet _ Refusal.SheetLengthWrong refl
    (sheet-length sheet (omega arith) (omega arith) (omega arith) (omega arith) (omega arith) (omega arith) (omega arith))

pub returns : goal.returns
unfolding degree row_count
returns c =
    let sheet = c.args.sheet.now in
    let checked = c.check_rows.ensures in
    record {
      answer =
          checked.answer
          ∙ sym (sheet-rows-answer sheet (omega arith) (omega arith) (omega arith) (omega arith) (omega arith) (omega arith) (omega arith));
      rows = checked.rows;
    }
