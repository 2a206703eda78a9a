-- `wiring::check_wiring` meets its contract: each return is the outcome of the first test that holds.
use Rattle.std.proofs.Common.{false, ◌≡◌, sym, ◌∙◌, ◌*◌, ◌≤◌, arith}
use Rattle.wiring.specs.Wiring.{count_faulty}
use Rattle.wiring.proofs.Permutation.{edges_le, count-range, wiring-left-count, wiring-right-count}
use Rattle.wiring.proofs.Permutation.{wiring-differing, wiring-unsized, wiring-entries}
use Rattle.wiring.proofs.plan.check_wiring.Goals as goal
use Rattle.wiring.proofs.plan.check_wiring.Goals.{Else-is_count_faulty-2, then-is_count_faulty-via-then-is_count_faulty}
use Rattle.wiring.proofs.plan.check_wiring.Goals.{then-is_count_faulty-via-else-is_count_faulty+then-is_count_faulty-2}

pub returns-then-is_count_faulty : goal.returns-then-is_count_faulty
returns-then-is_count_faulty c = elim c.then-is_count_faulty.branch [
  | then-is_count_faulty-via-then-is_count_faulty w ↦ sym (wiring-left-count _ _ _ _ _ (sym c.is_count_faulty.ensures ∙ w.if-is_count_faulty.true))
  | then-is_count_faulty-via-else-is_count_faulty+then-is_count_faulty-2 w ↦
      sym (wiring-right-count _ _ _ _ _ (sym w.is_count_faulty-else-is_count_faulty.ensures ∙ w.if-is_count_faulty-2.true))
]

-- ---- once both counts have passed

left-counted : (c : Else-is_count_faulty-2) → count_faulty c.args.nl ≡ false
left-counted c = sym c.is_count_faulty.ensures ∙ c.if-is_count_faulty.false

right-counted : (c : Else-is_count_faulty-2) → count_faulty c.args.nr ≡ false
right-counted c = sym c.is_count_faulty-else-is_count_faulty.ensures ∙ c.if-is_count_faulty-2.false

left-fits : (c : Else-is_count_faulty-2) → c.args.nl * c.args.dl ≤ 32768
left-fits c = edges_le _ _ (count-range _ (left-counted c)).1 (omega arith)

right-fits : (c : Else-is_count_faulty-2) → c.args.nr * c.args.dr ≤ 32768
right-fits c = edges_le _ _ (count-range _ (right-counted c)).1 (omega arith)

pub overflow_mul-edges : goal.overflow_mul-edges
overflow_mul-edges c = omega (arith, left-fits c)

pub overflow_mul-nr : goal.overflow_mul-nr
overflow_mul-nr c = omega (arith, right-fits c)

pub returns-then-edges-nr : goal.returns-then-edges-nr
returns-then-edges-nr c = sym (wiring-differing _ _ _ _ _ (left-counted (goal.at.returns-then-edges-nr c).Else-is_count_faulty-2) (right-counted (goal.at.returns-then-edges-nr c).Else-is_count_faulty-2) c.if-edges-nr.true)

pub overflow_mul-edges-2 : goal.overflow_mul-edges-2
overflow_mul-edges-2 c = omega (arith, left-fits (goal.at.overflow_mul-edges-2 c).Else-is_count_faulty-2)

pub returns-then-wiring-edges : goal.returns-then-wiring-edges
returns-then-wiring-edges c =
    sym (wiring-unsized _ _ _ _ _ (left-counted (goal.at.returns-then-wiring-edges c).Else-is_count_faulty-2) (right-counted (goal.at.returns-then-wiring-edges c).Else-is_count_faulty-2) (omega arith) c.if-wiring-edges.true)

pub check_entries-requires : goal.check_entries-requires
check_entries-requires c = omega (arith, left-fits (goal.at.check_entries-requires c).Else-is_count_faulty-2)

pub returns : goal.returns
returns c =
    c.check_entries.ensures ∙ sym (wiring-entries _ _ _ _ _ (left-counted (goal.at.returns c).Else-is_count_faulty-2) (right-counted (goal.at.returns c).Else-is_count_faulty-2) (omega arith) (omega arith))
