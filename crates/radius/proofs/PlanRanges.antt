-- How large the numbers of an accepted plan are, and what measures they give.
-- The notions, of specs/Ranges.antt and specs/Answer.antt:
--   InRange p                            nine numbers are in the range that has every plan's
--   measures_by p, numbers_of plan         the measures by nine numbers, and the nine numbers of a plan
--   distance_of, measures_of               D of a side, and the measures of a plan
-- Names: the subject first (distance, measures, plan), then the fact.
--   distance_most                                D is at most d
--   distance-plan, measures-plan                 the numbers of a plan give its measures
--   plan-within                                  those of an accepted plan are in the range
use Rattle.std.proofs.Common.{ℕ, zero, suc, ◌*◌, ◌≤◌, ◌<◌, true, List, [], ◌≡◌, refl, sym, ap, ◌∙◌, le_trans, mul-le-mul, not-suc-le-zero}
use Rattle.std.proofs.Common.{pos_of_ne-zero, arith}
use mathlib.Core.Bool.{false≢true}
use lib.Count.{ones-le}
use Rattle.inner_code.specs.Reply.{done}
use Rattle.inner_code.specs.Code.{is_codeword, distance}
use Rattle.inner_code.specs.Sheet.{degree, row_count, row_of}
use Rattle.inner_code.proofs.Combinations.{codeword-last-row, codeword-more, codeword-zero}
use Rattle.inner_code.proofs.InnerDistance.{distance-le, distance-pos}
use Rattle.inner_code.proofs.SheetChecks.{Sound}
use Rattle.wiring.specs.Plan.{Plan, sheet_of, side_of}
use Rattle.wiring.specs.Wiring.{plan_check}
use Rattle.wiring.specs.declared.side.SideName.{SideName}
use Rattle.wiring.proofs.Permutation.{wired-even, wired-joined}
use Rattle.wiring.proofs.Plans.{plan-sound}
use Rattle.meetings.proofs.SpreadSize.{spread-le}
use Rattle.radius.specs.Answer.{distance_of, measures_of, numbers_of}
use Rattle.radius.specs.Margin.{Measures}
use Rattle.radius.specs.Ranges.{distance_to, measures_by, InRange}

-- ---- the inner distance of an accepted sheet

first-row : (row : ℕ → ℕ) (k : ℕ) → 1 ≤ k → is_codeword row k (row 0) ≡ true
first-row row zero l = absurd (not-suc-le-zero l)
first-row row (suc zero) l = codeword-last-row row 0
first-row row (suc (suc k)) l = codeword-more row (suc k) (row 0) (first-row row (suc k) (omega arith))

-- the first row is a nonzero codeword of d digits
pub distance_most : (sheet : List ℕ) → Sound sheet → distance (row_of sheet) (row_count sheet) ≤ degree sheet
distance_most sheet s =
    let first : ℕ = row_of sheet 0 in
    let nonzero : 0 < first =
    pos_of_ne-zero (λ none. false≢true (sym (s.rows_new 0 s.count_low) ∙ rw none (codeword-zero (row_of sheet) 0))) in
    le_trans (distance-le (row_of sheet) (row_count sheet) first (first-row (row_of sheet) (row_count sheet) s.count_low) nonzero)
    (ones-le (degree sheet) first (s.rows-lt 0 s.count_low))

-- ---- the numbers of an accepted plan

distance-plan : (plan : Plan) (to : SideName) → distance_to (numbers_of plan) to ≡ distance_of (side_of plan to)
distance-plan plan SideName.Left = refl
distance-plan plan SideName.Right = refl

pub measures-plan : (plan : Plan) → measures_by (numbers_of plan) ≡ measures_of plan
measures-plan plan i =
    let m : Measures = measures_of plan in
    record { edges = m.edges; n = m.n; d = m.d; distance = λ to. distance-plan plan to i; spread = m.spread }

pub plan-within : (plan : Plan) → plan_check plan ≡ done [] → InRange (numbers_of plan)
plan-within plan accepted =
    let (s, w) = plan-sound plan accepted in
    let l = w.left-fits in
    let even = ap (λ (m : ℕ). degree plan.left_sheet * m) (wired-even w) in
    record {
      nl-high = l.n-high;
      nr-high = w.right-fits.n-high;
      dl-high = l.d-high;
      distance-low = λ to. rw (distance-plan plan to) (distance-pos _ _);
      distance_high = λ to. rw (distance-plan plan to) (le_trans (distance_most (sheet_of plan to) (s to)) (s to).degree-high);
      spread-high = omega (arith, spread-le (wired-joined plan w) l.n-low, even, mul-le-mul l.n-high (mul-le-mul l.d-high l.d-high));
    }
