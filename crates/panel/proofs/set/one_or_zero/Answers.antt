-- `panel::one_or_zero` meets its contract: its test is the definition's.
use Rattle.std.proofs.Common.{◌≡◌, Bool, true, false, not, cond, refl}
use mir.Val.{bool_byte}
use Rattle.panel.specs.State.{set_to}
use Rattle.panel.proofs.set.one_or_zero.Goals as goal

-- a test that is cast to a number, as the definition has it
as_cond : (t : Bool) → bool_byte (not t) ≡ cond t 0 1
as_cond true = refl
as_cond false = refl

pub returns : goal.returns
unfolding set_to
returns c = as_cond _
