-- How many vertices read no inner codeword: the panel's number.
--   unsatisfied_at side block      how many vertices of a side do
--   unsatisfied_count sides block  how many do, left and right: the paper's number of unsatisfied vertices, the true count
--   count_change sides before after  by how much the true count of the second block is above that of the first; 65,536 are added, so that a
--                                 count that falls is told by a natural number too
use Rattle.std.specs.Prelude.{ℕ, ◌+◌, ◌-◌, List, not}
use Rattle.bits.specs.Sum.{sum, flag}
use Rattle.wiring.specs.Plan.{Side, left, right}
use Rattle.wiring.specs.Block.{satisfied}
use Rattle.wiring.specs.declared.side.SideName.{SideName}

unfoldable pub unsatisfied_at : Side → List ℕ → ℕ
unfolding sum flag satisfied
unsatisfied_at side block = sum side.n (λ v. flag (not (satisfied side block v)))

unfoldable pub unsatisfied_count : (SideName → Side) → List ℕ → ℕ
unfolding unsatisfied_at
unsatisfied_count sides block = unsatisfied_at (sides left) block + unsatisfied_at (sides right) block

unfoldable pub count_change : (SideName → Side) → List ℕ → List ℕ → ℕ
unfolding unsatisfied_count
count_change sides before after = 65536 + unsatisfied_count sides after - unsatisfied_count sides before
