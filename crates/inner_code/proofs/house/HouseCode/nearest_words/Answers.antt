-- `inner_code::HouseCode::nearest_words` meets its contract: it hands out the table, whose rule holds at each entry.
use Rattle.std.proofs.Common.{refl}
use Rattle.inner_code.proofs.HouseWords.{house_words, house_words-rule}
use Rattle.inner_code.proofs.house.HouseCode.nearest_words.Goals as goal

pub returns : goal.returns
unfolding house_words
returns c = record { sized = refl; entry = house_words-rule }
