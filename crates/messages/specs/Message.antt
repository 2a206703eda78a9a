-- Encoding and reading.
--   carries plan message x       the block of number x has the message's bits at the message positions, in rising order
--   encoded_number plan message   the codeword that does, by search
--   encoded_block plan message    its block
--   read_before plan block j      the bits at a block's message positions below j, as a message of K bits
--   read_message plan block       those at all message positions
--   message_check K message       20 and 21, or done with no value
--   ValidMessage plan message    a message of this plan
--   OneToOne plan                messages and codewords match one to one, encoding and reading undoing each other
use Rattle.std.specs.Prelude.{ℕ, zero, suc, ◌^◌, ◌<◌, List, [], Bool, cond, not, ◌&&◌, ◌||◌, ◌≡◌, get_or, replicate, eqb}
use Rattle.bits.specs.Bit.{digit, bit_at, with_bit}
use Rattle.bits.specs.Search.{first_failing}
use Rattle.inner_code.specs.Reply.{Reply, done}
use Rattle.wiring.specs.Plan.{Plan, edge_count}
use Rattle.wiring.specs.Block.{block_bytes, bits_check, Codeword}
use Rattle.messages.specs.Position.{block_of, codeword_number, is_position, positions_before, message_bits}

unfoldable pub carries : Plan → List ℕ → ℕ → Bool
unfolding first_failing is_position positions_before digit bit_at
carries plan message x =
    let fits : ℕ → Bool = λ j. not (is_position plan j) || eqb (digit x j) (bit_at message (positions_before plan j)) in
    eqb (first_failing (edge_count plan) fits) (edge_count plan)

unfoldable pub encoded_number : Plan → List ℕ → ℕ
unfolding first_failing codeword_number carries
encoded_number plan message = first_failing (2 ^ edge_count plan) (λ x. not (codeword_number plan x && carries plan message x))

unfoldable pub encoded_block : Plan → List ℕ → List ℕ
unfolding block_of encoded_number
encoded_block plan message = block_of (edge_count plan) (encoded_number plan message)

unfoldable pub read_before : Plan → List ℕ → ℕ → List ℕ
unfolding with_bit bit_at is_position positions_before message_bits block_bytes
read_before plan block zero = replicate (block_bytes (message_bits plan)) 0
read_before plan block (suc j) =
    cond (is_position plan j) (with_bit (read_before plan block j) (positions_before plan j) (bit_at block j)) (read_before plan block j)

unfoldable pub read_message : Plan → List ℕ → List ℕ
unfolding read_before
read_message plan block = read_before plan block (edge_count plan)

abbrev pub message_check : ℕ → List ℕ → Reply
message_check K message = bits_check 20 21 K message

pub record ValidMessage (plan : Plan) (message : List ℕ) : Type 0 where
  pub bytes : (k : ℕ) → get_or message k 0 < 256
  pub checked : message_check (message_bits plan) message ≡ done []

pub record OneToOne (plan : Plan) : Type 0 where
  pub encodes : (message : List ℕ) → ValidMessage plan message → Codeword plan (encoded_block plan message)
  pub reads : (block : List ℕ) → Codeword plan block → ValidMessage plan (read_message plan block)
  pub reads-encoded : (message : List ℕ) → ValidMessage plan message → read_message plan (encoded_block plan message) ≡ message
  pub encodes-read : (block : List ℕ) → Codeword plan block → encoded_block plan (read_message plan block) ≡ block
