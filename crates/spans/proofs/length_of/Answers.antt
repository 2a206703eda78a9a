-- `spans::length_of` meets its contract: the two bytes that it reads are those of `length_of`, and a two-byte number is below 65536.
use Rattle.std.proofs.Common.{rules}
use Rattle.spans.specs.Spans.{length_of}
use Rattle.spans.proofs.length_of.Goals as goal

pub returns : goal.returns
unfolding length_of
returns c = (c.pair.ensures, search rules)
