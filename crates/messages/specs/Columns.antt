-- How the code keeps the rows of the elimination: none of this is needed to believe a contract of a service. A set of rows is eight words
-- of 64, row p being digit p % 64 of word p / 64. Column e, the words 8·e .. 8·e + 7 of a list, is the set of the rows that have a 1 at e.
--   row_bit columns p e              bit e of row p, for p below 512
--   no_columns, no_rows               512 columns of no row, and one
--   ColumnPut from a to b left      `left` is `to` with column a of `from` put on its column b
--   UnitResidues basis k d residues entry i is what the first k rows of the basis leave of the word whose one digit is at edge i
--   Uses d residues used            a digit that `used` does not have is in none of the first d residues
--   Stores N s columns              the columns hold the rows of the state s
--   check_of name wiring residues d m  check m of a side as the code holds it
--   Within check                    the check's digit and all its bits are within their ranges
--   check_value i check f            its value on the vector f, by the first i edges of the vertex
--   FailSet i check columns hits    column 0 of `hits` is the set of the rows on which that is 1
--   lowest_row hits N                the lowest row of column 0, N where it has none below N
--   Spread N p hits columns left    `left` is `columns` with row p put on every row of `hits`
-- Of the columns before and after some checks of a side, whatever checks were made before them:
--   CheckMade N check columns left  `left` holds the rows after one check more, which has this check's value on every vector
--   Eliminated plan name m columns left  `left` holds the rows after m checks more, those of a side of the plan in order
-- and of all checks:
--   Solved plan columns             the columns hold the final rows of the plan
--   StoredPlan plan N columns       the columns hold the final rows of an accepted plan of N edges, at most 512
--   live_before columns j            how many rows below j have a 1 at their own place: those that are left
--   Chosen N columns message chosen column 0 of `chosen` is the set of the rows left whose bit in the message is 1
--   column_parity chosen columns e   the bit e of the rows of a set put together
--   BitsPut N chosen columns l left `left` is the byte string l with those bits at its places 0 .. N - 1
--   bits_taken columns block j l     the byte string l with the block's bits at the rows left below j put at its front
use Rattle.std.specs.Prelude.{ℕ, zero, suc, ◌+◌, ◌-◌, ◌*◌, ◌/◌, ◌%◌, ◌^◌, ◌≤◌, ◌<◌, min, cond, not, List, [], ◌≡◌, eqb, length, get_or, replicate}
use Rattle.std.specs.Borrow.{Bor}
use Rattle.std.specs.Int.Bits.{bit_xor}
use Rattle.bits.specs.Window.{at}
use Rattle.bits.specs.Bit.{digit, bit_at, with_bit}
use Rattle.bits.specs.Sum.{sum}
use Rattle.bits.specs.Search.{first_failing}
use Rattle.inner_code.specs.Reply.{done}
use Rattle.inner_code.specs.Reduction.{reduced_by}
use Rattle.wiring.specs.Plan.{Plan, edge_count, side_bit, side_of}
use Rattle.wiring.specs.Wiring.{plan_check}
use Rattle.wiring.specs.declared.side.SideName.{SideName}
use Rattle.messages.specs.Position.{bits_put}
use Rattle.messages.specs.Elimination.{parity, State, after, side_check, final_state}
use Rattle.messages.specs.declared.solver.Check.{Check}

unfoldable pub row_bit : List ℕ → ℕ → ℕ → ℕ
unfolding digit
row_bit columns p e = digit (get_or columns (8 * e + p / 64) 0) (p % 64)

unfoldable pub no_columns : List ℕ
no_columns = replicate 4096 0

unfoldable pub no_rows : List ℕ
no_rows = replicate 8 0

pub record ColumnPut (from : List ℕ) (a : ℕ) (to : List ℕ) (b : ℕ) (left : List ℕ) : Type 0 where
  pub put : (p : ℕ) → p < 512 → row_bit left p b ≡ bit_xor (row_bit to p b) (row_bit from p a)
  pub others : (p e : ℕ) → p < 512 → (e ≡ b → ⊥) → row_bit left p e ≡ row_bit to p e

pub record UnitResidues (basis : List ℕ) (k d : ℕ) (residues : List ℕ) : Type 0 where
  pub each : (i : ℕ) → i < d → get_or residues i 0 ≡ reduced_by (at basis) (min k 11) (2 ^ (d - 1 - i))

pub record Uses (d : ℕ) (residues : List ℕ) (used : ℕ) : Type 0 where
  pub none : (i j : ℕ) → i < d → digit used j ≡ 0 → digit (get_or residues i 0) j ≡ 0

pub record Stores (N : ℕ) (s : State) (columns : List ℕ) : Type 0 where
  pub bits : (p e : ℕ) → p < 512 → e < N → row_bit columns p e ≡ s.row p e

abbrev pub check_of : SideName → Bor (List ℕ) → Bor (List ℕ) → ℕ → ℕ → Check
check_of name w r c m = record { side = name; wiring = w; residues = r; d = c; base = m / c * c; digit = m % c }

pub record Within (check : Check) : Type 0 where
  pub narrow : check.d ≤ 16
  pub digit_lt : check.digit < 16
  pub sized : 2 * (check.base + check.d) ≤ length check.wiring.now
  pub bit-lt : (i : ℕ) → i < check.d → side_bit check.side check.wiring.now (check.base + i) < 512

abbrev pub check_value : ℕ → Check → (ℕ → ℕ) → ℕ
check_value i check f =
    parity i (λ x. digit (get_or check.residues.now x 0) check.digit) (λ x. f (side_bit check.side check.wiring.now (check.base + x)))

pub record FailSet (i : ℕ) (check : Check) (columns hits : List ℕ) : Type 0 where
  pub bits : (p : ℕ) → p < 512 → row_bit hits p 0 ≡ check_value i check (row_bit columns p)

unfoldable pub lowest_row : List ℕ → ℕ → ℕ
unfolding first_failing row_bit
lowest_row hits N = first_failing N (λ p. not (eqb (row_bit hits p 0) 1))

pub record Spread (N p : ℕ) (hits columns left : List ℕ) : Type 0 where
  pub bits : (q e : ℕ) → q < 512 → e < N → row_bit left q e ≡ bit_xor (row_bit columns q e) (row_bit hits q 0 * row_bit columns p e)

pub record CheckMade (N : ℕ) (check : Check) (columns left : List ℕ) : Type 0 where
  pub rows : (checks : ℕ → ℕ → ℕ) (m : ℕ) → ((f : ℕ → ℕ) → check_value check.d check f ≡ parity N (checks m) f)
      → Stores N (after N checks m) columns → Stores N (after N checks (m + 1)) left

pub record Eliminated (plan : Plan) (name : SideName) (m : ℕ) (columns left : List ℕ) : Type 0 where
  pub rows : (checks : ℕ → ℕ → ℕ) (first : ℕ) → ((i : ℕ) → i < m → checks (first + i) ≡ side_check (side_of plan name) i)
      → Stores (edge_count plan) (after (edge_count plan) checks first) columns
      → Stores (edge_count plan) (after (edge_count plan) checks (first + m)) left

abbrev pub Solved : Plan → List ℕ → Type 0
Solved plan columns = Stores (edge_count plan) (final_state plan) columns

pub record StoredPlan (plan : Plan) (N : ℕ) (columns : List ℕ) : Type 0 where
  pub accepted : plan_check plan ≡ done []
  pub edges : N ≡ edge_count plan
  pub short : N ≤ 512
  pub stored : Stores N (final_state plan) columns

unfoldable pub live_before : List ℕ → ℕ → ℕ
unfolding sum row_bit
live_before columns j = sum j (λ i. row_bit columns i i)

pub record Chosen (N : ℕ) (columns message chosen : List ℕ) : Type 0 where
  pub inside : (p : ℕ) → p < N → row_bit chosen p 0 ≡ row_bit columns p p * bit_at message (live_before columns p)
  pub past : (p : ℕ) → N ≤ p → p < 512 → row_bit chosen p 0 ≡ 0

unfoldable pub column_parity : List ℕ → List ℕ → ℕ → ℕ
unfolding parity row_bit
column_parity chosen columns e = parity 512 (λ p. row_bit chosen p 0) (λ p. row_bit columns p e)

pub record BitsPut (N : ℕ) (chosen columns l left : List ℕ) : Type 0 where
  pub is : (x : ℕ) → ((e : ℕ) → e < N → digit x e ≡ column_parity chosen columns e) → left ≡ bits_put x N l

unfoldable pub bits_taken : List ℕ → List ℕ → ℕ → List ℕ → List ℕ
unfolding row_bit live_before with_bit bit_at
bits_taken columns block zero l = l
bits_taken columns block (suc j) l =
    cond (eqb (row_bit columns j j) 1) (with_bit (bits_taken columns block j l) (live_before columns j) (bit_at block j)) (bits_taken columns block j l)
