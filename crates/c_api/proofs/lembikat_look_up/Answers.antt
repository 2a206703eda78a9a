-- `c_api::lembikat_look_up` meets its contract: what is told of the service's answer is told of the defined reply.
use Rattle.std.proofs.Common.{ap, ◌∙◌}
use Rattle.c_api.specs.Answer.{told_word}
use Rattle.c_api.proofs.lembikat_look_up.Goals as goal

pub returns : goal.returns
returns c = c.word_answer.ensures ∙ ap told_word c.look_up.ensures
