-- `words::mark` meets its contract: the digit of the vertex is set where it is not.
use Rattle.bits.specs.Bit.{digit}
use Rattle.bits.specs.Window.{at}
use Rattle.words.proofs.Marks.{marked-once}
use Rattle.words.proofs.news.mark.Goals as goal

pub returns : goal.returns
unfolding digit at
returns c = marked-once c.args.kept.now c.args.from c.args.v
