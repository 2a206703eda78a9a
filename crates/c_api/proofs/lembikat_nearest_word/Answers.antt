-- `c_api::lembikat_nearest_word` meets its contract: what is told of the service's answer is told of the defined reply.
use Rattle.std.proofs.Common.{ap, ◌∙◌}
use Rattle.c_api.specs.Answer.{told_word}
use Rattle.c_api.proofs.lembikat_nearest_word.Goals as goal

pub returns : goal.returns
returns c = c.word_answer.ensures ∙ ap told_word c.nearest_word.ensures
