-- `c_api::shown` meets its contract: what is told of each case of an answer is told of the reply that it stands for.
use Rattle.std.proofs.Common.{sym, ap, Result}
use Rattle.panel.specs.Answer.{shown_reply}
use Rattle.inner_code.specs.declared.refusal.Refusal.{Refusal}
use Rattle.panel.specs.declared.shown.Shown.{Shown}
use Rattle.c_api.specs.Answer.{told_state}
use Rattle.c_api.proofs.shown.Goals as goal

pub returns-in-Ok : goal.returns-in-Ok
unfolding told_state
returns-in-Ok c = sym (ap (λ (x : Result Shown Refusal). told_state (shown_reply x)) c.in-Ok.is)

pub returns-in-Err : goal.returns-in-Err
unfolding told_state
returns-in-Err c =
    let told = sym (ap (λ (x : Result Shown Refusal). told_state (shown_reply x)) c.in-Err.is) in
    cc
