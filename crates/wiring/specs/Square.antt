-- The square plan of the paper's bench values, an example: none of this is needed to believe a contract of a service.
--   entry_bytes edge m   m entries as bytes, two each, high byte first
--   square_wiring        n = d = 8, entry v·8 + j is edge 8j + v
--   square_plan          the plan with the house code on both sides
use Rattle.std.specs.Prelude.{ℕ, zero, suc, ◌+◌, ◌*◌, ◌/◌, ◌%◌, List, [], ◌∷◌, ◌++◌}
use Rattle.inner_code.specs.House.{house_sheet}
use Rattle.wiring.specs.Plan.{Plan, plan_of}

unfoldable pub entry_bytes : (ℕ → ℕ) → ℕ → List ℕ
entry_bytes edge zero = []
entry_bytes edge (suc i) = entry_bytes edge i ++ (edge i / 256 ∷ edge i % 256 ∷ [])

unfoldable pub square_wiring : List ℕ
unfolding entry_bytes
square_wiring = entry_bytes (λ i. 8 * (i % 8) + i / 8) 64

abbrev pub square_plan : Plan
square_plan = plan_of house_sheet house_sheet 8 8 square_wiring
