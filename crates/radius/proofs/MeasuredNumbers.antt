-- A plan's numbers: what the measures of an accepted plan give, how they make the answer, and what a caller learns.
--   Sound sheet               what an accepted sheet is (inner_code SheetChecks)
--   numbers_answer plan           1 to 10 and 23, or a plan's nine numbers (specs Answer)
--   numbers_of plan, in_order p    a plan's nine numbers, and such numbers in the order in which they are answered (specs Answer)
-- Laws are named by their subject, then by the fact: `-is` is what a measure gives, `-refused` and `-answered` are the outcomes,
-- and `-known` leads from its answer back to the plan.
use Rattle.std.proofs.Common.{Result, Ok, ℕ, ◌^◌, ◌≤◌, min, List, [], ◌≡◌, sym, ap, ◌∙◌, length, get_or, take}
use native.Mathlib.Nat.{min-eq_left}
use Rattle.bits.specs.Window.{at}
use Rattle.inner_code.specs.Reply.{Reply, done, refused}
use Rattle.inner_code.specs.Code.{distance}
use Rattle.inner_code.specs.Sheet.{row_count, row_of}
use Rattle.inner_code.specs.Reduction.{Lists, fewest_ones}
use Rattle.inner_code.specs.declared.refusal.Refusal.{Refusal}
use Rattle.inner_code.proofs.Replies.{and_then-passed, and_then-refused, and_then-done}
use Rattle.inner_code.proofs.Listings.{front_length, front-word}
use Rattle.inner_code.proofs.InnerDistance.{fewest-distance}
use Rattle.inner_code.proofs.SheetChecks.{Sound}
use Rattle.wiring.specs.Plan.{Plan, sheet_of, side_of}
use Rattle.wiring.specs.Wiring.{plan_check}
use Rattle.wiring.specs.declared.side.SideName.{SideName}
use Rattle.wiring.proofs.Plans.{plan-done}
use Rattle.radius.specs.Answer.{distance_of, in_order, numbers_of, numbers_answer, numbers_reply}
use Rattle.radius.specs.declared.numbers.PlanNumbers.{PlanNumbers}

-- the fewest ones of the listed codewords are the code's distance
pub listed-distance : (row : ℕ → ℕ) (k : ℕ) {before words : List ℕ} {count : ℕ} → Lists row k before count words
    → 2 ^ min k 11 ≤ length before
    → fewest_ones (at (take count words)) (length (take count words)) ≡ distance row (min k 11)
listed-distance row k {words = words} {count = count} lists room =
    ap (fewest_ones (at (take count words))) (front_length row k lists room)
    ∙ fewest-distance row (at (take count words)) (min k 11) (front-word row k lists room)

module _ (plan : Plan) where
  pub numbers-refused : (a b : ℕ) → plan_check plan ≡ refused a b → numbers_answer plan ≡ refused a b
  unfolding numbers_answer
  numbers-refused a b e = and_then-refused _ _ a b e

  pub distance_is : (name : SideName) → Sound (sheet_of plan name) → (D : ℕ)
      → D ≡ distance (row_of (sheet_of plan name)) (min (row_count (sheet_of plan name)) 11) → D ≡ distance_of (side_of plan name)
  distance_is name s D e = e ∙ ap (distance (row_of (sheet_of plan name))) (min-eq_left s.count-high)

  module _ (accepted : plan_check plan ≡ done []) where
    pub numbers-answered : (p : PlanNumbers) → p ≡ numbers_of plan → done (in_order p) ≡ numbers_answer plan
    unfolding numbers_answer
    numbers-answered p e = rw e (sym (and_then-passed _ _ [] accepted))

-- ---- what a caller learns from the numbers

value : ℕ → Reply → ℕ
value i (done values) = get_or values i 0
value i (refused number place) = 0

-- the answer tells each of the nine
order-tells : (p q : PlanNumbers) → done (in_order p) ≡ done (in_order q) → p ≡ q
unfolding value
order-tells p q e i =
    record {
      nl = value 0 (e i);
      nr = value 1 (e i);
      dl = value 2 (e i);
      dr = value 3 (e i);
      kl = value 4 (e i);
      kr = value 5 (e i);
      left_distance = value 6 (e i);
      right_distance = value 7 (e i);
      spread = value 8 (e i);
    }

pub numbers-known : (plan : Plan) (r : Result PlanNumbers Refusal) (p : PlanNumbers) → numbers_reply r ≡ numbers_answer plan → r ≡ Ok p
    → (plan_check plan ≡ done []) × (p ≡ numbers_of plan)
unfolding numbers_answer
numbers-known plan r p e q =
    let ((values, passed), told) = and_then-done (plan_check plan) _ _ (sym e ∙ ap numbers_reply q) in
    (plan-done plan passed, sym (order-tells _ p told))
