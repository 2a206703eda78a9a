-- `decoder::decode` meets its contract: a call that is stopped answers with `refuse`, and past the tests `decode_checked` gives the answer.
use Rattle.std.proofs.Common.{sym, ap, ◌∙◌}
use Rattle.decoder.specs.Answer.{decode_reply}
use Rattle.decoder.proofs.Settling.{decode-stopped}
use Rattle.decoder.proofs.decoding.decode.Goals as goal

pub decode_checked-requires : goal.decode_checked-requires
decode_checked-requires c = rw c.in-Ok.ensures.parts (sym c.in-Ok.ensures.answer)

pub returns-in-Ok : goal.returns-in-Ok
returns-in-Ok c = rw (← c.in-Ok.ensures.parts) c.decode_checked.ensures

pub returns-in-Err : goal.returns-in-Err
returns-in-Err c =
    let d = decode-stopped _ _ _ _ _ (sym c.in-Err.ensures.answer) in record {
      answer = ap decode_reply c.refuse.ensures.outcome_value ∙ sym d.answer;
      sums = c.refuse.ensures.sums_value ∙ sym d.tells;
      visits = c.refuse.ensures.visits_value ∙ sym d.visited;
      leaves = sym d.leaves;
    }
