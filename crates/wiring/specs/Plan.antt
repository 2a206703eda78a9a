-- Plans and their sides.
--   Plan               a plan: for each side its inner sheet and its number of vertices, and the wiring
--   plan_of left_sheet right_sheet nl nr wiring  the plan of these parts
--   plan_at left right nl nr wiring  the plan that a function is called with, by its parameters: the parts as they are at the call
--   sheet_of plan name, count_of plan name  the sheet and the number of vertices of a side
--   edge_count plan     the paper's N: the number of edges, and of a block's bits
--   edge_of wiring i    entry i of a wiring: the edge that stands there
--   left, right        the names of the sides
--   other name         the other side
--   Side               a side: n vertices that read d bits each, of which the k generator rows `row` make the inner codewords. `bit i` is the
--                      bit of the block at entry i of the side; vertex v has the entries v·d .. v·d + d - 1
--   side_bit name wiring i  the bit at entry i of a side of a wiring: on the left bit i itself, on the right the wiring's entry i
--   side_by sheet n wiring name  the side of this name whose n vertices read words of the sheet's code
--   side_of plan name   the side of a plan that is named. What is about both sides takes them as such a function of the name.
use Rattle.std.specs.Prelude.{ℕ, ◌*◌, List}
use Rattle.std.specs.Borrow.{Bor}
use denote.Triple.Both.{Both}
use Rattle.bits.specs.Bit.{pair_at}
use Rattle.inner_code.specs.Sheet.{degree, row_count, row_of}
use Rattle.wiring.specs.declared.side.SideName.{SideName}

pub record Plan : Type 0 where
  pub left_sheet : List ℕ
  pub right_sheet : List ℕ
  pub nl : ℕ
  pub nr : ℕ
  pub wiring : List ℕ

abbrev pub plan_of : List ℕ → List ℕ → ℕ → ℕ → List ℕ → Plan
plan_of l r m n w = record { left_sheet = l; right_sheet = r; nl = m; nr = n; wiring = w }

abbrev pub plan_at : {X Y Z : Type 0} → Both (Bor (List ℕ)) X → Both (Bor (List ℕ)) Y → ℕ → ℕ → Both (Bor (List ℕ)) Z → Plan
plan_at l r m n w = plan_of l.entry.now r.entry.now m n w.entry.now

abbrev pub sheet_of : Plan → SideName → List ℕ
sheet_of plan SideName.Left = plan.left_sheet
sheet_of plan SideName.Right = plan.right_sheet

abbrev pub count_of : Plan → SideName → ℕ
count_of plan SideName.Left = plan.nl
count_of plan SideName.Right = plan.nr

abbrev pub edge_count : Plan → ℕ
edge_count plan = plan.nl * degree plan.left_sheet

unfoldable pub edge_of : List ℕ → ℕ → ℕ
unfolding pair_at
edge_of wiring i = pair_at wiring (2 * i)

abbrev pub left : SideName
left = SideName.Left

abbrev pub right : SideName
right = SideName.Right

unfoldable pub other : SideName → SideName
other SideName.Left = SideName.Right
other SideName.Right = SideName.Left

pub record Side : Type 0 where
  pub n : ℕ
  pub d : ℕ
  pub k : ℕ
  pub row : ℕ → ℕ
  pub bit : ℕ → ℕ

unfoldable pub side_bit : SideName → List ℕ → ℕ → ℕ
unfolding edge_of
side_bit SideName.Left wiring i = i
side_bit SideName.Right wiring i = edge_of wiring i

abbrev pub side_by : List ℕ → ℕ → List ℕ → SideName → Side
side_by sheet vertices wiring name =
    record { n = vertices; d = degree sheet; k = row_count sheet; row = row_of sheet; bit = side_bit name wiring }

abbrev pub side_of : Plan → SideName → Side
side_of plan name = side_by (sheet_of plan name) (count_of plan name) plan.wiring name
