-- `words::news_of` meets its contract: the marks of the left side stand behind the words, those of the right side behind them.
use Rattle.std.proofs.Common.{sym, ap}
use Rattle.words.specs.Marks.{news_of}
use Rattle.words.proofs.news.news_of.Goals as goal

pub returns-in-Left : goal.returns-in-Left
unfolding news_of
returns-in-Left c = sym (ap news_of c.in-Left.is)

pub returns-in-Right : goal.returns-in-Right
unfolding news_of
returns-in-Right c = sym (ap news_of c.in-Right.is)
