-- The wiring's refusals 7, 23 and 8 to 10, and the edges between vertices.
--   entry_check N edge i       entry i alone: at or above N (9), else seen earlier (10)
--   entries_check N edge m     the first faulty entry below m
--   count_faulty n             a number of vertices that no side has
--   wiring_check dl dr nl nr wiring  the wiring's place in the table, by each side's degree and number of vertices: the first of 7 for either
--                             count, 23, 8, 9 and 10, or done with no value
--   plan_check plan            the left sheet, the right sheet and the wiring: 1 to 10, 23
--   edges_between sides u v    the number of edges between left vertex u and right vertex v: of the entries of v, those whose edge is one of u's
use Rattle.std.specs.Prelude.{ℕ, zero, suc, ◌+◌, ◌*◌, ◌/◌, List, [], Bool, not, ◌||◌, length, ltb, leb, eqb}
use Rattle.bits.specs.Sum.{sum, flag}
use Rattle.bits.specs.Search.{some_below}
use Rattle.inner_code.specs.Reply.{Reply, done, refuse_if, and_then}
use Rattle.inner_code.specs.Sheet.{degree, sheet_check}
use Rattle.wiring.specs.Plan.{Plan, Side, edge_of, left, right}
use Rattle.wiring.specs.declared.side.SideName.{SideName}

unfoldable pub entry_check : ℕ → (ℕ → ℕ) → ℕ → Reply
unfolding refuse_if some_below
entry_check N edge i = refuse_if (leb N (edge i)) 9 i (refuse_if (some_below i (λ j. eqb (edge j) (edge i))) 10 i (done []))

unfoldable pub entries_check : ℕ → (ℕ → ℕ) → ℕ → Reply
unfolding and_then entry_check
entries_check N edge zero = done []
entries_check N edge (suc i) = and_then (entries_check N edge i) (entry_check N edge i)

unfoldable pub count_faulty : ℕ → Bool
count_faulty n = ltb n 1 || ltb 2048 n

unfoldable pub wiring_check : ℕ → ℕ → ℕ → ℕ → List ℕ → Reply
unfolding refuse_if count_faulty entries_check edge_of
wiring_check dl dr nl nr wiring =
    refuse_if (count_faulty nl || count_faulty nr) 7 0
    (refuse_if (not (eqb (nl * dl) (nr * dr))) 23 0
    (refuse_if (not (eqb (length wiring) (2 * (nl * dl)))) 8 0
    (entries_check (nl * dl) (edge_of wiring) (nl * dl))))

unfoldable pub plan_check : Plan → Reply
unfolding and_then sheet_check wiring_check degree
plan_check plan =
    and_then (sheet_check plan.left_sheet)
    (and_then (sheet_check plan.right_sheet)
    (wiring_check (degree plan.left_sheet) (degree plan.right_sheet) plan.nl plan.nr plan.wiring))

unfoldable pub edges_between : (SideName → Side) → ℕ → ℕ → ℕ
unfolding sum flag
edges_between sides u v =
    sum (sides right).d (λ j. flag (eqb ((sides right).bit (v * (sides right).d + j) / (sides left).d) u))
