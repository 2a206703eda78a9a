use Rattle.std.proofs.Common.{◌≡◌, [], ◌≤◌, ◌-◌, ◌^◌, length}
use Rattle.inner_code.specs.Reply.{done}
use Rattle.inner_code.specs.Sheet.{row_of, rows_check}
use Rattle.inner_code.specs.Reduction.{with_echelon}
use Rattle.inner_code.proofs.sheet.check_rows.Given as goal

abbrev pub invariant-loop-i : goal.invariant-loop-i
invariant-loop-i l =
    (l.i ≤ l.k) × (l.k ≤ 11) × (l.limit ≡ 2 ^ l.d) × (rows_check l.d (row_of l.sheet) l.i ≡ done []) × (l.basis ≡ with_echelon (row_of l.sheet) l.i l.initial.basis)
    × (l.i ≤ length l.initial.basis)

abbrev pub decreases-loop-i : goal.decreases-loop-i
decreases-loop-i l = l.k - l.i
