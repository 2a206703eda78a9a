-- What flipping does to a block of 64 bits: none of this is needed to believe a contract of a service.
--   Flipped sent before after most   the block is at most `most` bits further from the sent one, and bytes stay bytes
use Rattle.std.specs.Prelude.{ℕ, ◌+◌, ◌≤◌, ◌<◌, List, get_or}
use Rattle.bits.specs.Bit.{flips}

pub record Flipped (sent before after : List ℕ) (most : ℕ) : Type 0 where
  pub few : flips 64 sent after ≤ flips 64 sent before + most
  pub bytes : ((k : ℕ) → get_or before k 0 < 256) → (k : ℕ) → get_or after k 0 < 256
