-- How the code finds the message positions and the encoded word: none of this is needed to believe a contract of a service. One row per
-- bit position starts as the unit vector. Each check in turn drops its pivot, the lowest live row that fails it, and puts that row on
-- every live row that fails.
--   parity N a f                 the value of the check with coefficients a on the vector f, both of N entries
--   State                        which rows are live, and bit e of each row p
--   start N                      all rows below N live, row p the unit vector at p
--   hit N check s p              row p is live and fails the check
--   pivot N check s              the lowest row that is hit, N where there is none
--   stepped N check s            the state after one check: the pivot is dropped and put on every row that is hit, itself too
--   after N checks m             the state after checks 0 .. m - 1
--   chosen s c p                 c p where row p is live, and else 0
--   combined N s c e             bit e of the combination of the live rows p with c p = 1
--   mask side j i                1 where digit j of a reduced word depends on the word's digit at edge i
--   vertex_check side v j         the coefficients of digit j at vertex v of a side
--   side_check side i             check i of a side: digit i % d at vertex i / d
--   graph_check sides m           check m of a graph: the checks of the left side first and then those of the right
--   plan_checks plan              the checks of a plan
--   final_state plan              the state after all checks of a plan
--   position_bit plan message p   the message's bit for message position p
use Rattle.std.specs.Prelude.{ℕ, zero, suc, ◌+◌, ◌-◌, ◌*◌, ◌/◌, ◌%◌, ◌^◌, Bool, cond, not, ◌&&◌, List, ltb, eqb}
use Rattle.std.specs.Int.Bits.{bit_xor}
use Rattle.bits.specs.Bit.{digit, bit_at}
use Rattle.bits.specs.Sum.{sum, flag}
use Rattle.bits.specs.Search.{first_failing}
use Rattle.inner_code.specs.Reduction.{reduced}
use Rattle.wiring.specs.Plan.{Plan, Side, edge_count, left, right, side_of}
use Rattle.wiring.specs.declared.side.SideName.{SideName}
use Rattle.messages.specs.Position.{positions_before}

unfoldable pub parity : ℕ → (ℕ → ℕ) → (ℕ → ℕ) → ℕ
parity N a f = sum N (λ e. a e * f e) % 2

pub record State : Type 0 where
  pub live : ℕ → Bool
  pub row : ℕ → ℕ → ℕ

unfoldable pub start : ℕ → State
start N = record { live = λ p. ltb p N; row = λ p e. flag (eqb p e) }

unfoldable pub hit : ℕ → (ℕ → ℕ) → State → ℕ → Bool
hit N check s p = s.live p && eqb (parity N check (s.row p)) 1

unfoldable pub pivot : ℕ → (ℕ → ℕ) → State → ℕ
pivot N check s = first_failing N (λ p. not (hit N check s p))

unfoldable pub stepped : ℕ → (ℕ → ℕ) → State → State
stepped N check s =
    record {
      live = λ p. s.live p && not (eqb p (pivot N check s));
      row = λ p e. bit_xor (s.row p e) (flag (hit N check s p) * s.row (pivot N check s) e);
    }

unfoldable pub after : ℕ → (ℕ → ℕ → ℕ) → ℕ → State
after N checks zero = start N
after N checks (suc m) = stepped N (checks m) (after N checks m)

abbrev pub chosen : State → (ℕ → ℕ) → ℕ → ℕ
chosen s c p = flag (s.live p) * c p

unfoldable pub combined : ℕ → State → (ℕ → ℕ) → ℕ → ℕ
combined N s c e = parity N (chosen s c) (λ p. s.row p e)

unfoldable pub mask : Side → ℕ → ℕ → ℕ
mask side j i = digit (reduced side.row side.k (2 ^ (side.d - 1 - i))) j

unfoldable pub vertex_check : Side → ℕ → ℕ → ℕ → ℕ
vertex_check side v j e = sum side.d (λ i. flag (eqb (side.bit (v * side.d + i)) e) * mask side j i)

abbrev pub side_check : Side → ℕ → ℕ → ℕ
side_check side i = vertex_check side (i / side.d) (i % side.d)

unfoldable pub graph_check : (SideName → Side) → ℕ → ℕ → ℕ
graph_check sides m =
    cond (ltb m ((sides left).n * (sides left).d)) (side_check (sides left) m) (side_check (sides right) (m - (sides left).n * (sides left).d))

unfoldable pub plan_checks : Plan → ℕ → ℕ → ℕ
plan_checks plan = graph_check (side_of plan)

unfoldable pub final_state : Plan → State
final_state plan = after (edge_count plan) (plan_checks plan) (2 * edge_count plan)

abbrev pub position_bit : Plan → List ℕ → ℕ → ℕ
position_bit plan message p = bit_at message (positions_before plan p)
