-- `c_api::lembikat_decode` meets its contract: what is told of each case of the service's answer is told of the defined reply, and the sums and
-- visits are the service's.
use Rattle.std.proofs.Common.{refl}
use Rattle.decoder.specs.Answer.{decode_reply}
use Rattle.c_api.specs.Answer.{told_decode}
use Rattle.c_api.proofs.Telling.{telling-sums}
use Rattle.c_api.proofs.lembikat_decode.Goals as goal

pub returns-in-Ok : goal.returns-in-Ok
unfolding told_decode
returns-in-Ok c =
    let call = rw c.parts-plan.ensures at c.decode-decoding.ensures in record {
      value = telling-sums decode_reply c.in-Ok.is call.answer call.sums call.visits refl;
      output_after = call.leaves;
    }

pub returns-in-Err : goal.returns-in-Err
unfolding told_decode
returns-in-Err c =
    let call = rw c.parts-plan.ensures at c.decode-decoding.ensures in record {
      value = telling-sums decode_reply c.in-Err.is call.answer call.sums call.visits cc;
      output_after = call.leaves;
    }
