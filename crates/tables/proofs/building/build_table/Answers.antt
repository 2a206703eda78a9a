-- `tables::build_table` meets its contract: each return is the outcome of the first test that holds, and the table is filled in place.
use Rattle.std.proofs.Common.{◌≡◌, sym, ap₂, ◌∙◌, List, ◌++◌, ℕ, ◌*◌, ◌-◌, ◌%◌, ◌^◌, arith, drop, length-take-le}
use Rattle.bits.specs.Bit.{written}
use Rattle.inner_code.proofs.Replies.{passed-on}
use Rattle.inner_code.proofs.SheetChecks.{Accepted, accepted, turned-back}
use Rattle.tables.specs.Answer.{table_bytes}
use Rattle.tables.proofs.Tables.{size_is, table-length}
use Rattle.tables.proofs.LookUps.{build-refused, build-short, build-done, build-left, build-written}
use Rattle.tables.proofs.building.build_table.Goals as goal
use Rattle.tables.proofs.building.build_table.Goals.{In_ok-values}

-- ---- the sheet's check, the call, and what an accepted sheet gives

plan : (c : In_ok-values)
    → Accepted c.args.sheet.now c.check_into.new.basis c.in_ok-values.values
plan c = accepted c.check_into.ensures c.in_ok-values.was

-- the number of bytes that a table takes
size : (c : In_ok-values)
    → (2 * 2 ^ (c.in_ok-values.values.d - c.in_ok-values.values.k)) % 18446744073709551616
    ≡ table_bytes c.args.sheet.now
size c = size_is _ (plan c).sheet-sound _ _ (plan c).d-is (plan c).k-is

pub overflow_sub-size : goal.overflow_sub-size
overflow_sub-size c =
    let p = plan (goal.at.overflow_sub-size c).In_ok-values in
    omega (arith, p.d-is, p.k-is, p.sheet-sound.count-degree)

pub overflow_shl-size : goal.overflow_shl-size
overflow_shl-size c =
    let p = plan (goal.at.overflow_shl-size c).In_ok-values in
    omega (arith, p.d-is, p.sheet-sound.degree-high)

pub returns-then-output-size : goal.returns-then-output-size
returns-then-output-size c =
    let args = c.args in
    let told = build-short args.sheet.now args.output.now (plan (goal.at.returns-then-output-size c).In_ok-values).sheet-done (omega (arith, size (goal.at.returns-then-output-size c).In_ok-values, c.if-output-size.true)) in
    record {
      result_value = told;
      output_after = build-left args.sheet.now args.output.now 13 0 told;
    }

pub fill_table-requires : goal.fill_table-requires
fill_table-requires c =
    let p = plan (goal.at.fill_table-requires c).In_ok-values in
    record {
      accepted = p.sheet-done;
      echelon = p.basis-is;
      sized =
          length-take-le _ c.args.output.now (omega (arith, c.if-output-size.false))
          ∙ size (goal.at.fill_table-requires c).In_ok-values;
    }

pub returns-in_err-values : goal.returns-in_err-values
returns-in_err-values c =
    let args = c.args in
    let told = build-refused args.sheet.now args.output.now _ _ (turned-back c.check_into.ensures c.in_err-values.was) in
    rw (passed-on _ _ c.from_residual.ensures.1) record {
      result_value = told;
      output_after = build-left args.sheet.now args.output.now _ _ told;
    }

pub returns : goal.returns
unfolding written
returns c =
    let args = c.args in
    let sheet = args.sheet.now in
    let output = args.output.now in
    let told = build-done sheet output (plan (goal.at.returns c).In_ok-values).sheet-done (omega (arith, size (goal.at.returns c).In_ok-values, c.if-output-size.false)) in record {
      result_value = told;
      output_after = ap₂ (λ (front : List ℕ) (n : ℕ). front ++ drop n output) c.fill_table.ensures
          (size (goal.at.returns c).In_ok-values ∙ sym (table-length sheet (plan (goal.at.returns c).In_ok-values).sheet-sound))
          ∙ build-written sheet output told;
    }
