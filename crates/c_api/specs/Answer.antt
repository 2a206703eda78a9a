-- What a C host is told.
--   told reply               a service's reply: its first value, 0 where it has none, or its refusal's number and place
--   told_word reply           the reply of the nearest word or of the look-up: as told, and beside it the bits changed, its second value
--   told_decode reply counts visits  the decoder's reply: as told, and beside it the sums and the visits
--   told_state reply          the reply of a call on a state: as told, the value being the count, and beside it the sweep number, its second value
--   told_place reply          the locator's reply: nothing, or as place 1 for left (0) and 2 for right (1) and as value the vertex, or its refusal
use Rattle.std.specs.Prelude.{ℕ, suc, List, [], ◌∷◌, get_or}
use Rattle.inner_code.specs.Reply.{Reply, done, refused}
use Rattle.c_api.specs.declared.Answer.{Answer}
use Rattle.c_api.specs.declared.WordAnswer.{WordAnswer}
use Rattle.c_api.specs.declared.DecodeAnswer.{DecodeAnswer}
use Rattle.c_api.specs.declared.StateAnswer.{StateAnswer}

unfoldable pub told : Reply → Answer
told (done values) = record { number = 0; place = 0; value = get_or values 0 0 }
told (refused x y) = record { number = x; place = y; value = 0 }

unfoldable pub told_word : Reply → WordAnswer
told_word (done values) = record { number = 0; place = 0; value = get_or values 0 0; changed = get_or values 1 0 }
told_word (refused x y) = record { number = x; place = y; value = 0; changed = 0 }

unfoldable pub told_decode : Reply → List ℕ → ℕ → DecodeAnswer
told_decode (done values) counts visits = record { number = 0; place = 0; value = get_or values 0 0; sums = counts; visits = visits }
told_decode (refused x y) counts visits = record { number = x; place = y; value = 0; sums = counts; visits = visits }

unfoldable pub told_state : Reply → StateAnswer
told_state (done values) = record { number = 0; place = 0; value = get_or values 0 0; sweeps = get_or values 1 0 }
told_state (refused x y) = record { number = x; place = y; value = 0; sweeps = 0 }

unfoldable pub told_place : Reply → Answer
unfolding told
told_place (done []) = told (done [])
told_place (done (side ∷ [])) = told (done [])
told_place (done (side ∷ vertex ∷ rest)) = record { number = 0; place = suc side; value = vertex }
told_place (refused x y) = told (refused x y)
