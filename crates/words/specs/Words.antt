-- How the code keeps the words of the right side, and puts patterns on the bits of a vertex: none of this is needed to believe a contract of a
-- service.
--   pattern_put bit d base p h block  the block with the h lowest digits of the pattern p put on the bits of a vertex: its d entries begin at
--                               `base`, and digit j of p turns the bit at entry base + (d - 1 - j) where it is 1
--   WordsRead side block words  the list begins with the words that the vertices of a side read, and the block holds the side's bits
use Rattle.std.specs.Prelude.{ℕ, zero, suc, ◌+◌, ◌-◌, ◌*◌, ◌≤◌, ◌<◌, List, ◌≡◌, length}
use Rattle.bits.specs.Bit.{digit}
use Rattle.bits.specs.Window.{at, turned}
use Rattle.wiring.specs.Plan.{Side}
use Rattle.wiring.specs.Block.{vertex_word}

unfoldable pub pattern_put : (ℕ → ℕ) → ℕ → ℕ → ℕ → ℕ → List ℕ → List ℕ
unfolding digit turned
pattern_put bit d base p zero block = block
pattern_put bit d base p (suc h) block = pattern_put bit d base p h (turned block (bit (base + (d - 1 - h))) (digit p h))

pub record WordsRead (side : Side) (block words : List ℕ) : Type 0 where
  pub sized : length words ≡ 2304
  pub room : side.n * side.d ≤ length block * 8
  pub each : (v : ℕ) → v < side.n → at words v ≡ vertex_word side block v
