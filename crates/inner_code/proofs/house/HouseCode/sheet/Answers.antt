-- `inner_code::HouseCode::sheet` meets its contract: the bytes are the house sheet.
use Rattle.std.proofs.Common.{refl}
use Rattle.inner_code.specs.House.{house_sheet}
use Rattle.inner_code.proofs.house.HouseCode.sheet.Goals as goal

-- src/house.rt:297:5
pub returns : goal.returns
unfolding house_sheet
returns c = refl
