-- `c_api::lembikat_locate` meets its contract: what is told of each case of the locator's answer is told of the defined reply.
use Rattle.std.proofs.Common.{Ok, ap, ◌∙◌}
use Rattle.wiring.specs.Answer.{locate_reply}
use Rattle.c_api.specs.Answer.{told, told_place}
use Rattle.c_api.proofs.Telling.{telling}
use Rattle.c_api.proofs.lembikat_locate.Goals as goal

pub returns-in-Ok-None : goal.returns-in-Ok-None
unfolding told told_place
returns-in-Ok-None c =
    telling locate_reply (c.in-Ok-None.is ∙ ap Ok c.in-Ok-None.field-0-is) (rw c.parts.ensures at c.locate.ensures) told_place c.done.ensures

pub returns-in-Ok-Some : goal.returns-in-Ok-Some
unfolding told told_place
returns-in-Ok-Some c =
    telling locate_reply (c.in-Ok-Some.is ∙ ap Ok c.in-Ok-Some.field-0-is) (rw c.parts.ensures at c.locate.ensures) told_place c.found.ensures

pub returns-in-Err : goal.returns-in-Err
unfolding told told_place
returns-in-Err c = telling locate_reply c.in-Err.is (rw c.parts.ensures at c.locate.ensures) told_place c.refused.ensures
