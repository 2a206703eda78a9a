-- `restored::plan::decode` meets its contract: the sheet and the wiring that it calls the decoder with are the plan's.
use Rattle.std.proofs.Common.{ℕ, List, ◌≡◌, ap₂}
use Rattle.wiring.specs.Plan.{plan_of}
use Rattle.wiring.specs.Square.{square_plan}
use Rattle.restored.proofs.plan.decode.Goals as goal

pub returns : goal.returns
returns c =
    let plan-is : plan_of c.sheet-sheet.result c.sheet-sheet.result 8 8 c.square_wiring-wiring.result ≡ square_plan =
    ap₂ (λ (s w : List ℕ). plan_of s s 8 8 w) c.sheet-sheet.ensures c.square_wiring-wiring.ensures in
    record {
      result_value = rw plan-is at c.decode.ensures.answer;
      output_after = rw plan-is at c.decode.ensures.leaves;
    }
