-- `inner_code::HouseCode::new` meets its contract: the constants are the house code's values.
use Rattle.std.proofs.Common.{refl}
use Rattle.inner_code.specs.House.{house_code}
use Rattle.inner_code.proofs.house.HouseCode.new.Goals as goal

pub returns : goal.returns
unfolding house_code
returns c = refl
