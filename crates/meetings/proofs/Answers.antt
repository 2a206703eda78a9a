-- The spread's answers, outcome by outcome.
--   spread_answer plan              1 to 10 and 23, or the spread R (specs Answer)
-- Laws are named `spread-`, then by the outcome.
use Rattle.std.proofs.Common.{ℕ, [], ◌∷◌, ◌≡◌, sym}
use Rattle.inner_code.specs.Reply.{done, refused}
use Rattle.inner_code.proofs.Replies.{and_then-passed, and_then-refused}
use Rattle.wiring.specs.Plan.{Plan, side_of}
use Rattle.wiring.specs.Wiring.{plan_check}
use Rattle.meetings.specs.Spread.{spread}
use Rattle.meetings.specs.Answer.{spread_answer}

module _ (plan : Plan) where
  pub spread-refused : (number place : ℕ) → plan_check plan ≡ refused number place → spread_answer plan ≡ refused number place
  unfolding spread_answer
  spread-refused number place e = and_then-refused _ _ number place e

  pub spread-done : plan_check plan ≡ done [] → (R : ℕ) → R ≡ spread (side_of plan) → done (R ∷ []) ≡ spread_answer plan
  unfolding spread_answer
  spread-done accepted R e = rw e (sym (and_then-passed _ _ [] accepted))
