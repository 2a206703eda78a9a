-- `finder::single_more` meets its contract: the first is kept, a second is one too many.
use Rattle.std.proofs.Common.{sym}
use Rattle.finder.proofs.Finding.{more-first, more-next}
use Rattle.finder.proofs.finder.single_more.Goals as goal

pub returns-then-found-eq0 : goal.returns-then-found-eq0
returns-then-found-eq0 c = sym (more-first _ _ c.if-found-eq0.true)

pub returns : goal.returns
returns c = sym (more-next _ _ c.if-found-eq0.false)
