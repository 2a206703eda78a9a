-- What is sent on the square plan, and what is received of it: none of this is needed to believe a contract of a service.
--   sent_block           the codeword that is sent
--   Received received   a block of eight bytes that differs from it in at most three bits
use Rattle.std.specs.Prelude.{ℕ, ◌≤◌, ◌<◌, ◌≡◌, List, [], ◌∷◌, length, get_or}
use Rattle.bits.specs.Bit.{flips}

unfoldable pub sent_block : List ℕ
sent_block = 0 ∷ 0 ∷ 15 ∷ 15 ∷ 0 ∷ 0 ∷ 15 ∷ 15 ∷ []

pub record Received (received : List ℕ) : Type 0 where
  pub sized : length received ≡ 8
  pub bytes : (k : ℕ) → get_or received k 0 < 256
  pub few : flips 64 sent_block received ≤ 3
