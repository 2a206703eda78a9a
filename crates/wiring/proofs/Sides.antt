-- The two sides by name.
--   other name                   the other side (specs Plan)
--   sheet_for, count_for           the sheet of a side and the number of its vertices, as the code picks them (specs Access)
use Rattle.std.proofs.Common.{Bool, true, false, true≢false, ◌≡◌, refl, ap}
use Rattle.wiring.specs.Plan.{Plan, sheet_of, count_of, other}
use Rattle.wiring.specs.Access.{sheet_for, count_for}
use Rattle.wiring.specs.declared.side.SideName.{SideName}

-- the other side's side
pub other-twice : (name : SideName) → other (other name) ≡ name
unfolding other
other-twice SideName.Left = refl
other-twice SideName.Right = refl

-- one side is not the other
pub right-left : SideName.Right ≡ SideName.Left → ⊥
right-left e = true≢false (ap is_right e)
  where
    is_right : SideName → Bool
    is_right SideName.Left = false
    is_right SideName.Right = true

pub sheet-for : (plan : Plan) (name : SideName) → sheet_for name plan.left_sheet plan.right_sheet ≡ sheet_of plan name
unfolding sheet_for
sheet-for plan SideName.Left = refl
sheet-for plan SideName.Right = refl

pub count-for : (plan : Plan) (name : SideName) → count_for name plan.nl plan.nr ≡ count_of plan name
unfolding count_for
count-for plan SideName.Left = refl
count-for plan SideName.Right = refl
