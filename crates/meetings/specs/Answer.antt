-- What the service spread answers.
--   spread_answer plan   1 to 10, 23, or R
--   spread_reply r       the paper's number, place and value for each case of the answer in the code
use Rattle.std.specs.Prelude.{ℕ, [], ◌∷◌, Result, Ok, Err}
use Rattle.inner_code.specs.Reply.{Reply, done, refused, and_then}
use Rattle.inner_code.specs.Refusal.{number_of, place_of}
use Rattle.inner_code.specs.declared.refusal.Refusal.{Refusal}
use Rattle.wiring.specs.Plan.{Plan, side_of}
use Rattle.wiring.specs.Wiring.{plan_check}
use Rattle.meetings.specs.Spread.{spread}

unfoldable pub spread_answer : Plan → Reply
unfolding and_then plan_check spread
spread_answer plan = and_then (plan_check plan) (done (spread (side_of plan) ∷ []))

abbrev pub spread_reply : Result ℕ Refusal → Reply
spread_reply (Ok value) = done (value ∷ [])
spread_reply (Err r) = refused (number_of r) (place_of r)
