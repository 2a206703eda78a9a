-- What the service margin answers, and the numbers of a plan.
--   distance_of side           the inner distance D of a side's code
--   measures_of plan           the measures of a plan; its spread is measured from the wiring's own entries
--   margin_of plan F           the sweeps named for F flips, 0 where F is not covered
--   margin_answer plan F       the service: 1 to 10, 23, 17, 18, or the sweeps
--   numbers_of plan            a plan's nine numbers: of each side n, d, k and the inner distance D, and the spread R
--   in_order p                 such numbers in the order in which they are answered: nl, nr, dl, dr, kl, kr, the left D, the right D, R
--   numbers_answer plan        1 to 10 and 23, or a plan's nine numbers
--   margin_reply, numbers_reply  the paper's number, place and values for each case of an answer in the code
use Rattle.std.specs.Prelude.{ℕ, List, [], ◌∷◌, ltb, eqb, Result, Ok, Err}
use Rattle.inner_code.specs.Reply.{Reply, done, refused, refuse_if, and_then}
use Rattle.inner_code.specs.Refusal.{number_of, place_of}
use Rattle.inner_code.specs.Code.{distance}
use Rattle.inner_code.specs.declared.refusal.Refusal.{Refusal}
use Rattle.wiring.specs.Plan.{Plan, Side, edge_count, left, right, side_of}
use Rattle.wiring.specs.Wiring.{plan_check}
use Rattle.wiring.specs.declared.side.SideName.{SideName}
use Rattle.meetings.specs.Spread.{spread}
use Rattle.radius.specs.Margin.{Measures, sweeps_named}
use Rattle.radius.specs.declared.numbers.PlanNumbers.{PlanNumbers}

abbrev pub distance_of : Side → ℕ
distance_of side = distance side.row side.k

abbrev pub measures_of : Plan → Measures
measures_of plan =
    let sides : SideName → Side = side_of plan in
    record { edges = edge_count plan; n = (sides right).n; d = (sides left).d; distance = λ s. distance_of (sides s); spread = spread sides }

abbrev pub margin_of : Plan → ℕ → ℕ
margin_of plan F = sweeps_named (measures_of plan) F

unfoldable pub margin_answer : Plan → ℕ → Reply
unfolding and_then refuse_if plan_check sweeps_named
margin_answer plan F =
    and_then (plan_check plan)
    (refuse_if (ltb (edge_count plan) F) 17 0
    (refuse_if (eqb (margin_of plan F) 0) 18 0 (done (margin_of plan F ∷ []))))

abbrev pub numbers_of : Plan → PlanNumbers
numbers_of plan =
    let sides : SideName → Side = side_of plan in
    record {
      nl = (sides left).n;
      nr = (sides right).n;
      dl = (sides left).d;
      dr = (sides right).d;
      kl = (sides left).k;
      kr = (sides right).k;
      left_distance = distance_of (sides left);
      right_distance = distance_of (sides right);
      spread = spread sides;
    }

abbrev pub in_order : PlanNumbers → List ℕ
in_order p = p.nl ∷ p.nr ∷ p.dl ∷ p.dr ∷ p.kl ∷ p.kr ∷ p.left_distance ∷ p.right_distance ∷ p.spread ∷ []

unfoldable pub numbers_answer : Plan → Reply
unfolding and_then plan_check distance spread
numbers_answer plan = and_then (plan_check plan) (done (in_order (numbers_of plan)))

abbrev pub margin_reply : Result ℕ Refusal → Reply
margin_reply (Ok sweeps) = done (sweeps ∷ [])
margin_reply (Err r) = refused (number_of r) (place_of r)

abbrev pub numbers_reply : Result PlanNumbers Refusal → Reply
numbers_reply (Ok p) = done (in_order p)
numbers_reply (Err r) = refused (number_of r) (place_of r)
