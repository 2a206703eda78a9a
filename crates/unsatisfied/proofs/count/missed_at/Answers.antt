-- `unsatisfied::missed_at` meets its contract: it tests the word that the vertex reads.
use Rattle.std.proofs.Common.{ap, ◌∙◌}
use Rattle.unsatisfied.specs.Answer.{missed_of, missed_by}
use Rattle.unsatisfied.proofs.count.missed_at.Goals as goal

pub returns : goal.returns
unfolding missed_by
returns c = (c.missed_word.ensures.0 ∙ ap (missed_of c.args.code) c.read_word.ensures, c.missed_word.ensures.1)
