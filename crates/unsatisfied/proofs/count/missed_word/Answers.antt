-- `unsatisfied::missed_word` meets its contract: the word passes exactly if its side's basis leaves nothing of it.
use Rattle.unsatisfied.proofs.VertexTests.{word-told}
use Rattle.unsatisfied.proofs.count.missed_word.Goals as goal

pub returns : goal.returns
returns c = word-told _ _ _ c.residue.ensures
