-- `wiring::check_plan` meets its contract: each return is the outcome of the first of both sheets and the wiring that refuses.
use Rattle.std.proofs.Common.{arith, sym, ◌∙◌, refl}
use Rattle.inner_code.proofs.Replies.{passed-on}
use Rattle.inner_code.proofs.SheetChecks.{accepted}
use Rattle.wiring.specs.PlanParts.{plan_in}
use Rattle.wiring.proofs.Plans.{past-sheets, checked-left-refused, checked-right-refused, checked-wiring-refused, checked-passed, left-held, right-held}
use Rattle.wiring.proofs.plan.check_plan.Goals as goal

pub returns-in_err-left : goal.returns-in_err-left
returns-in_err-left c =
    rw (passed-on _ _ c.from_residual.ensures.1) (checked-left-refused _ _ _ c.check_sheet-left_checked.ensures c.in_err-left.was)

pub returns-in_err-right : goal.returns-in_err-right
returns-in_err-right c =
    rw (passed-on _ _ c.from_residual-in_err-right.ensures.1)
    (checked-right-refused _ _ _ c.check_sheet-left_checked.ensures c.in_ok-left.was _ _ c.check_right-right_checked.ensures c.in_err-right.was)

pub check_wiring-requires : goal.check_wiring-requires
check_wiring-requires c =
    let l = accepted c.check_sheet-left_checked.ensures c.in_ok-left.was in
    let r = accepted c.check_right-right_checked.ensures c.in_ok-right.was in
    (omega (arith, l.d-is, l.sheet-sound.degree-high), omega (arith, r.d-is, r.sheet-sound.degree-high))

pub returns-in_err-check_wiring : goal.returns-in_err-check_wiring
returns-in_err-check_wiring c =
    rw (passed-on _ _ c.from_residual-in_err-check_wiring.ensures.1)
    (checked-wiring-refused _ _ _ c.check_sheet-left_checked.ensures c.in_ok-left.was _ _ c.check_right-right_checked.ensures c.in_ok-right.was _
    (sym c.in_err-check_wiring.ensures))

pub invariant_of-result : goal.invariant_of-result
invariant_of-result c = record {
  passed = checked-passed (plan_in c.args.parts) _ _ c.check_sheet-left_checked.ensures c.in_ok-left.was _ _ c.check_right-right_checked.ensures c.in_ok-right.was
      (sym c.in_ok-check_wiring.ensures);
  left_is = left-held (plan_in c.args.parts) _ _ c.check_sheet-left_checked.ensures c.in_ok-left.was;
  right_is = right-held (plan_in c.args.parts) _ _ c.check_sheet-left_checked.ensures c.in_ok-left.was _ _ c.check_right-right_checked.ensures c.in_ok-right.was;
}

pub returns : goal.returns
returns c = record { answer = c.in_ok-check_wiring.ensures ∙ sym (past-sheets _ _ _ c.check_sheet-left_checked.ensures c.in_ok-left.was _ _ c.check_right-right_checked.ensures c.in_ok-right.was); parts = refl }
