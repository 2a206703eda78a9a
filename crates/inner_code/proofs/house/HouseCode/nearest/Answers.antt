-- `inner_code::HouseCode::nearest` meets its contract: the table's rule at the word.
use Rattle.std.proofs.Common.{rules}
use Rattle.inner_code.proofs.HouseWords.{house_words, house_words-rule}
use Rattle.inner_code.proofs.house.HouseCode.nearest.Goals as goal

pub returns : goal.returns
unfolding house_words
returns c = house_words-rule c.args.word (search rules)
