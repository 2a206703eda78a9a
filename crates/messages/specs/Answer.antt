-- What the services of this layer answer, and what they leave in the lent output.
--   encode_answer, encode_output   the encoder: 1 to 10, 23, 19, 20, 21, 13, or no value; its output at exit
--   read_answer, read_output       the reader: 1 to 10, 23, 19, 11, 12, 22, 13, or no value; its output at exit
--   encode_reply, taken_reply      the paper's number, place and values for each case of an answer in the code
use Rattle.std.specs.Prelude.{ℕ, List, [], not, length, ltb, Result}
use Rattle.bits.specs.Bit.{written}
use Rattle.inner_code.specs.Reply.{Reply, done, refuse_if, and_then, if_done}
use Rattle.inner_code.specs.Refusal.{check_reply}
use Rattle.inner_code.specs.declared.refusal.Refusal.{Refusal}
use Rattle.wiring.specs.Plan.{Plan, edge_count, side_of}
use Rattle.wiring.specs.Wiring.{plan_check}
use Rattle.wiring.specs.Block.{block_bytes, block_check, is_codeword_block}
use Rattle.messages.specs.Position.{message_bits}
use Rattle.messages.specs.Message.{message_check, encoded_block, read_message}

unfoldable pub encode_answer : Plan → List ℕ → List ℕ → Reply
unfolding and_then refuse_if plan_check message_bits block_bytes
encode_answer plan message output =
    and_then (plan_check plan)
    (refuse_if (ltb 512 (edge_count plan)) 19 0
    (and_then (message_check (message_bits plan) message)
    (refuse_if (ltb (length output) (block_bytes (edge_count plan))) 13 0 (done []))))

unfoldable pub encode_output : Plan → List ℕ → List ℕ → List ℕ
unfolding if_done written encode_answer encoded_block
encode_output plan message output = if_done (encode_answer plan message output) (written (encoded_block plan message) output) output

unfoldable pub read_answer : Plan → List ℕ → List ℕ → Reply
unfolding and_then refuse_if plan_check is_codeword_block message_bits block_bytes
read_answer plan block output =
    and_then (plan_check plan)
    (refuse_if (ltb 512 (edge_count plan)) 19 0
    (and_then (block_check (edge_count plan) block)
    (refuse_if (not (is_codeword_block (side_of plan) block)) 22 0
    (refuse_if (ltb (length output) (block_bytes (message_bits plan))) 13 0 (done [])))))

unfoldable pub read_output : Plan → List ℕ → List ℕ → List ℕ
unfolding if_done written read_answer read_message
read_output plan block output = if_done (read_answer plan block output) (written (read_message plan block) output) output

abbrev pub encode_reply : Result Unit Refusal → Reply
encode_reply = check_reply

abbrev pub taken_reply : Result Unit Refusal → Reply
taken_reply = check_reply
