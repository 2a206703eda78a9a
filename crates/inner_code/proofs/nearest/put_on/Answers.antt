-- `inner_code::put_on` meets its contract: the pattern is what the word and the word with the pattern on it differ in.
use Rattle.inner_code.proofs.NearestWord.{step-put}
use Rattle.inner_code.proofs.nearest.put_on.Goals as goal

pub returns : goal.returns
returns c = step-put c.args.word c.args.pattern
