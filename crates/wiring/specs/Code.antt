-- A side of a plan as the code holds it: none of this is needed to believe a contract of a service.
--   code_of plan name   its n, d and k, and the echelon form of its rows before zeros
use Rattle.std.specs.Prelude.{ℕ, List, replicate}
use Rattle.inner_code.specs.Sheet.{degree, row_count, row_of}
use Rattle.inner_code.specs.Reduction.{with_echelon}
use Rattle.wiring.specs.Plan.{Plan, sheet_of, count_of}
use Rattle.wiring.specs.declared.side.SideCode.{SideCode}
use Rattle.wiring.specs.declared.side.SideName.{SideName}

abbrev pub code_of : Plan → SideName → SideCode
code_of plan name =
    let sheet : List ℕ = sheet_of plan name in
    record { n = count_of plan name; d = degree sheet; k = row_count sheet; basis = with_echelon (row_of sheet) (row_count sheet) (replicate 11 0) }
