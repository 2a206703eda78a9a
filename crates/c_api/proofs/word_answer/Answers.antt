-- `c_api::word_answer` meets its contract: what is told of each case of an answer is told of the reply that it stands for.
use Rattle.std.proofs.Common.{sym, ap, Result}
use Rattle.inner_code.specs.Answer.{nearest_reply}
use Rattle.inner_code.specs.declared.refusal.Refusal.{Refusal}
use Rattle.inner_code.specs.declared.nearest.Step.{Step}
use Rattle.c_api.specs.Answer.{told_word}
use Rattle.c_api.proofs.word_answer.Goals as goal

pub returns-in-Ok : goal.returns-in-Ok
unfolding told_word
returns-in-Ok c = sym (ap (λ (x : Result Step Refusal). told_word (nearest_reply x)) c.in-Ok.is)

pub returns-in-Err : goal.returns-in-Err
unfolding told_word
returns-in-Err c =
    let told = sym (ap (λ (x : Result Step Refusal). told_word (nearest_reply x)) c.in-Err.is) in
    cc
