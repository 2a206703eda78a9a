-- The words of demand 3, of what is promised where bits are lost, and of how many vertices are visited.
--   stopped_before15 reply      a row before 15 in the table stops the call: it is refused, and not with 15
--   Restored ..                what a decoder call is promised with no bit lost: it settles within q sweeps, at the first count after which the
--                              received block is a codeword, and its output holds the sent block
--   Mended ..                  what one is promised with lost spans: it settles, and its output holds the sent block
--   visits_bound plan F q       nl + nr and, for each sweep from 3 to q, the b of two sweeps before and d times the b of one sweep before, d of the
--                              side swept then
use Rattle.std.specs.Prelude.{ℕ, ◌+◌, ◌-◌, ◌*◌, ◌≤◌, ◌<◌, ◌≡◌, List, [], ◌∷◌, Bool, true, false, not, eqb}
use Rattle.bits.specs.Bit.{written}
use Rattle.bits.specs.Sum.{sum}
use Rattle.inner_code.specs.Reply.{Reply, done, refused}
use Rattle.wiring.specs.Plan.{Plan, side_of}
use Rattle.sweeps.specs.Sweep.{turn}
use Rattle.decoder.specs.Decode.{settled_after}
use Rattle.decoder.specs.Answer.{decode_answer, decode_output}
use Rattle.radius.specs.Margin.{bound}
use Rattle.radius.specs.Answer.{measures_of}

unfoldable pub stopped_before15 : Reply → Bool
stopped_before15 (done values) = false
stopped_before15 (refused number place) = not (eqb number 15)

pub record Restored (plan : Plan) (sent received output : List ℕ) (H q : ℕ) : Type 0 where
  pub count : ℕ
  pub answer : decode_answer plan received [] output H ≡ done (count ∷ [])
  pub within : count ≤ q
  pub settled : settled_after plan received count ≡ true
  pub first : (i : ℕ) → i < count → settled_after plan received i ≡ false
  pub restored : decode_output plan received [] output H ≡ written sent output

pub record Mended (plan : Plan) (sent received lost output : List ℕ) (H : ℕ) : Type 0 where
  pub count : ℕ
  pub answer : decode_answer plan received lost output H ≡ done (count ∷ [])
  pub restored : decode_output plan received lost output H ≡ written sent output

unfoldable pub visits_bound : Plan → ℕ → ℕ → ℕ
unfolding sum turn bound
visits_bound plan F q =
    plan.nl + plan.nr
    + sum (q - 2) (λ i. bound (measures_of plan) F i + (side_of plan (turn (i + 1))).d * bound (measures_of plan) F (i + 1))
