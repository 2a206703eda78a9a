-- How the code reads and tests the word of one vertex, and marks the edges it has seen: none of this is needed to believe a contract of a
-- service.
--   word_from bit block base d             the word of d digits at the entries from `base` on
--   read_word side wiring d block v        the word that vertex v of a side of degree d reads
--   Readable side wiring d block v        what reading it asks: d and v are in their ranges, and its entries in the wiring and its bits in the block
--   AllReadable codes wiring block        the same of every vertex of both sides
--   both_codes left right name             the sides as the code holds them, by name
--   sheet_for name left right              the sheet of a side
--   count_for name nl nr                   the number of its vertices
--   satisfied_by code side wiring block v  the code's test of vertex v: the first k rows of the basis leave nothing of its word
--   unsatisfied_by code side wiring m block  the first of m vertices of a side that fails it, m where all pass
--   located_by codes wiring block          no value, or the side (0 left, 1 right) and the first vertex that fails it
--   none_seen                              one bit for each edge, none set
--   seen_after edge i seen                 the bits with those set whose edges stand among entries 0 .. i - 1
--   none_marked n                          n bytes, all 0
--   marked_after mask edge i marks         the bytes with 1 for each edge that stands among entries 0 .. i - 1, at the number that those of
--                                         its binary digits make that the mask has too
use Rattle.std.specs.Prelude.{ℕ, zero, suc, ◌+◌, ◌*◌, ◌≤◌, ◌<◌, min, List, [], ◌∷◌, Bool, cond, length, replicate, set, ltb, eqb}
use Rattle.std.specs.Int.Bits.{bit_and}
use Rattle.bits.specs.Window.{at}
use Rattle.bits.specs.Bit.{word, bit_at, with_bit}
use Rattle.bits.specs.Search.{first_failing}
use Rattle.inner_code.specs.Reduction.{reduced_by}
use Rattle.wiring.specs.Plan.{left, right, side_bit}
use Rattle.wiring.specs.declared.side.SideCode.{SideCode}
use Rattle.wiring.specs.declared.side.SideName.{SideName}

unfoldable pub word_from : (ℕ → ℕ) → List ℕ → ℕ → ℕ → ℕ
unfolding word bit_at
word_from bit block base d = word d (λ j. bit_at block (bit (base + j)))

unfoldable pub read_word : SideName → List ℕ → ℕ → List ℕ → ℕ → ℕ
unfolding word_from side_bit
read_word side wiring d block v = word_from (side_bit side wiring) block (v * d) d

pub record Readable (side : SideName) (wiring : List ℕ) (d : ℕ) (block : List ℕ) (v : ℕ) : Type 0 where
  pub narrow : d ≤ 16
  pub few : v < 2048
  pub fits : 2 * (v * d + d) ≤ length wiring
  pub held : (j : ℕ) → j < d → side_bit side wiring (v * d + j) < length block * 8

pub record AllReadable (codes : SideName → SideCode) (wiring block : List ℕ) : Type 0 where
  pub each : (name : SideName) (v : ℕ) → v < (codes name).n → Readable name wiring (codes name).d block v

abbrev pub both_codes : SideCode → SideCode → SideName → SideCode
both_codes l r SideName.Left = l
both_codes l r SideName.Right = r

unfoldable pub sheet_for : SideName → List ℕ → List ℕ → List ℕ
sheet_for SideName.Left l r = l
sheet_for SideName.Right l r = r

unfoldable pub count_for : SideName → ℕ → ℕ → ℕ
count_for SideName.Left nl nr = nl
count_for SideName.Right nl nr = nr

unfoldable pub satisfied_by : SideCode → SideName → List ℕ → List ℕ → ℕ → Bool
unfolding at reduced_by read_word
satisfied_by code side wiring block v = eqb (reduced_by (at code.basis) (min code.k 11) (read_word side wiring code.d block v)) 0

unfoldable pub unsatisfied_by : SideCode → SideName → List ℕ → ℕ → List ℕ → ℕ
unfolding first_failing satisfied_by
unsatisfied_by code side wiring m block = first_failing m (λ v. satisfied_by code side wiring block v)

unfoldable pub located_by : (SideName → SideCode) → List ℕ → List ℕ → List ℕ
unfolding unsatisfied_by
located_by codes wiring block =
    let found : SideName → ℕ = λ name. unsatisfied_by (codes name) name wiring (codes name).n block in
    cond (ltb (found left) (codes left).n) (0 ∷ found left ∷ [])
    (cond (ltb (found right) (codes right).n) (1 ∷ found right ∷ []) [])

unfoldable pub none_seen : List ℕ
none_seen = replicate 4096 0

unfoldable pub seen_after : (ℕ → ℕ) → ℕ → List ℕ → List ℕ
unfolding with_bit
seen_after edge zero seen = seen
seen_after edge (suc i) seen = with_bit (seen_after edge i seen) (edge i) 1

unfoldable pub none_marked : ℕ → List ℕ
none_marked n = replicate n 0

unfoldable pub marked_after : ℕ → (ℕ → ℕ) → ℕ → List ℕ → List ℕ
marked_after mask edge zero marks = marks
marked_after mask edge (suc i) marks = set (marked_after mask edge i marks) (bit_and (edge i) mask) 1
