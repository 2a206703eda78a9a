-- Message positions. A block of N bits is searched for as a number below 2^N whose digit i is the block's bit i, so a block's last 1 is
-- its number's highest digit.
--   bits_put x m block      the block with digits 0 .. m - 1 of x put at its bits
--   block_of N x            the block of N bits whose bit i is digit i of x
--   codeword_number plan x  the block of that number is a codeword
--   is_position plan j      some codeword has its last 1 at j: bit j is a message position
--   positions_before plan j the number of message positions below j
--   message_bits plan       the paper's K, the number of message positions
use Rattle.std.specs.Prelude.{ℕ, zero, suc, ◌^◌, List, Bool, ◌&&◌, replicate, leb, ltb}
use Rattle.bits.specs.Bit.{digit, with_bit}
use Rattle.bits.specs.Sum.{sum, flag}
use Rattle.bits.specs.Search.{some_below}
use Rattle.wiring.specs.Plan.{Plan, edge_count, side_of}
use Rattle.wiring.specs.Block.{block_bytes, is_codeword_block}

unfoldable pub bits_put : ℕ → ℕ → List ℕ → List ℕ
unfolding with_bit digit
bits_put x zero block = block
bits_put x (suc i) block = with_bit (bits_put x i block) i (digit x i)

unfoldable pub block_of : ℕ → ℕ → List ℕ
unfolding bits_put block_bytes
block_of N x = bits_put x N (replicate (block_bytes N) 0)

unfoldable pub codeword_number : Plan → ℕ → Bool
unfolding is_codeword_block block_of
codeword_number plan x = is_codeword_block (side_of plan) (block_of (edge_count plan) x)

unfoldable pub is_position : Plan → ℕ → Bool
unfolding some_below codeword_number
is_position plan j = some_below (2 ^ edge_count plan) (λ x. codeword_number plan x && (leb (2 ^ j) x && ltb x (2 ^ suc j)))

unfoldable pub positions_before : Plan → ℕ → ℕ
unfolding sum flag is_position
positions_before plan j = sum j (λ i. flag (is_position plan i))

unfoldable pub message_bits : Plan → ℕ
unfolding positions_before
message_bits plan = positions_before plan (edge_count plan)
