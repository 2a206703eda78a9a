-- `spans::start_of` meets its contract: the two bytes that it reads are those of `start_of`, and a two-byte number is below 65536.
use Rattle.std.proofs.Common.{rules}
use Rattle.spans.specs.Spans.{start_of}
use Rattle.spans.proofs.start_of.Goals as goal

pub returns : goal.returns
unfolding start_of
returns c = (c.pair.ensures, search rules)
