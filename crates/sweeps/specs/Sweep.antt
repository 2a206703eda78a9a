-- Sweeps.
--   visited map side m block     the block after vertices 0 .. m - 1 of a side are visited in turn; `map` is what a visit makes of a vertex's word
--   sweep side block             the block after the nearest word is put at every vertex of a side: a left or a right sweep
--   turn i                       the side of sweep i + 1: left first, then in turn
--   after_sweeps sides i block    the block after i sweeps
use Rattle.std.specs.Prelude.{ℕ, zero, suc, List}
use Rattle.inner_code.specs.Code.{nearest_word}
use Rattle.wiring.specs.Plan.{Side, left, other}
use Rattle.wiring.specs.Block.{vertex_word, with_word}
use Rattle.wiring.specs.declared.side.SideName.{SideName}

unfoldable pub visited : (ℕ → ℕ) → Side → ℕ → List ℕ → List ℕ
unfolding vertex_word
visited map side zero block = block
visited map side (suc v) block = with_word side v (map (vertex_word side (visited map side v block) v)) (visited map side v block)

unfoldable pub sweep : Side → List ℕ → List ℕ
unfolding visited
sweep side block = visited (nearest_word side.row side.k side.d) side side.n block

unfoldable pub turn : ℕ → SideName
unfolding other
turn zero = left
turn (suc i) = other (turn i)

unfoldable pub after_sweeps : (SideName → Side) → ℕ → List ℕ → List ℕ
unfolding sweep turn
after_sweeps sides zero block = block
after_sweeps sides (suc i) block = sweep (sides (turn i)) (after_sweeps sides i block)
