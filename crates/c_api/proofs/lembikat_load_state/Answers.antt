-- `c_api::lembikat_load_state` meets its contract: what is told of the service's answer is told of the defined reply.
use Rattle.std.proofs.Common.{ap, ◌∙◌}
use Rattle.c_api.specs.Answer.{told_state}
use Rattle.c_api.proofs.lembikat_load_state.Goals as goal

pub returns : goal.returns
returns c =
    let called = c.load_state.ensures in
    record {
      value = c.shown.ensures ∙ ap told_state (rw c.parts.ensures at called.result_value);
      state_after = rw c.parts.ensures at called.state_after;
    }
