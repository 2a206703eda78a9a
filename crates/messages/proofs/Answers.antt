-- What the encoder and the reader answer and leave in their output, outcome by outcome in the order of the table.
--   encode_answer, encode_output   what the encoder answers, and its output at exit (specs Answer)
--   read_answer, read_output       what the reader answers, and its output at exit (specs Answer)
--   written front l              the list l with `front` at its beginning (bits specs Bit)
--   Encoded plan message output reply left  the encoder answers `reply` and leaves `left`
--   Read plan block output reply left       the reader answers `reply` and leaves `left`
-- Laws are named by the service, then by the outcome: -plan (1 to 10, 23), -long (19), -message (20, 21) or -block (11, 12), -stranger (22),
-- -output (13), -done. Each takes the places before its own as passed.
use Rattle.std.proofs.Common.{ℕ, ◌≤◌, ◌<◌, true, false, not, List, [], ◌≡◌, refl, ap, ◌∙◌, ltb, length, lt-ltb, le-ltb}
use Rattle.bits.specs.Bit.{written}
use Rattle.inner_code.specs.Reply.{Reply, done, refused, refuse_if, and_then, if_done}
use Rattle.inner_code.proofs.Replies.{refuse-taken, refuse-passed, and_then-passed, and_then-refused, if_done-done, if_done-refused}
use Rattle.wiring.specs.Plan.{Plan, edge_count, side_of}
use Rattle.wiring.specs.Wiring.{plan_check}
use Rattle.wiring.specs.Block.{block_bytes, block_check, is_codeword_block}
use Rattle.messages.specs.Position.{message_bits}
use Rattle.messages.specs.Message.{encoded_block, read_message, message_check}
use Rattle.messages.specs.Answer.{encode_answer, encode_output, read_answer, read_output}

-- ---- the encoder

pub record Encoded (plan : Plan) (message output : List ℕ) (reply : Reply) (left : List ℕ) : Type 0 where
  pub answer : encode_answer plan message output ≡ reply
  pub leaves : encode_output plan message output ≡ left

module _ (plan : Plan) (message output : List ℕ) where
  encode-tests : encode_answer plan message output
      ≡ and_then (plan_check plan)
      (refuse_if (ltb 512 (edge_count plan)) 19 0
      (and_then (message_check (message_bits plan) message)
      (refuse_if (ltb (length output) (block_bytes (edge_count plan))) 13 0 (done []))))
  unfolding encode_answer
  encode-tests = refl

  encode-output-is : encode_output plan message output
      ≡ if_done (encode_answer plan message output) (written (encoded_block plan message) output) output
  unfolding encode_output
  encode-output-is = refl

  -- a refusal changes no byte
  encode-refused : (number place : ℕ) → encode_answer plan message output ≡ refused number place
      → Encoded plan message output (refused number place) output
  encode-refused number place e = record { answer = e; leaves = encode-output-is ∙ if_done-refused _ _ _ number place e }

  pub encode-plan : (number place : ℕ) → plan_check plan ≡ refused number place → Encoded plan message output (refused number place) output
  encode-plan number place e = encode-refused number place (encode-tests ∙ and_then-refused _ _ number place e)

  module _ (accepted : plan_check plan ≡ done []) where
    pub encode-long : 512 < edge_count plan → Encoded plan message output (refused 19 0) output
    encode-long l = encode-refused 19 0 (encode-tests ∙ and_then-passed _ _ [] accepted ∙ refuse-taken _ 19 0 _ (lt-ltb _ _ l))

    module _ (short : edge_count plan ≤ 512) where
      past-plan : encode_answer plan message output
          ≡ and_then (message_check (message_bits plan) message) (refuse_if (ltb (length output) (block_bytes (edge_count plan))) 13 0 (done []))
      past-plan = encode-tests ∙ and_then-passed _ _ [] accepted ∙ refuse-passed _ 19 0 _ (le-ltb _ _ short)

      pub encode-message : (number place : ℕ) → message_check (message_bits plan) message ≡ refused number place
          → Encoded plan message output (refused number place) output
      encode-message number place e = encode-refused number place (past-plan ∙ and_then-refused _ _ number place e)

      module _ (passes : message_check (message_bits plan) message ≡ done []) where
        pub encode-output : length output < block_bytes (edge_count plan) → Encoded plan message output (refused 13 0) output
        encode-output l = encode-refused 13 0 (past-plan ∙ and_then-passed _ _ [] passes ∙ refuse-taken _ 13 0 _ (lt-ltb _ _ l))

        pub encode-done : block_bytes (edge_count plan) ≤ length output
            → Encoded plan message output (done []) (written (encoded_block plan message) output)
        encode-done l =
            let answers = past-plan ∙ and_then-passed _ _ [] passes ∙ refuse-passed _ 13 0 _ (le-ltb _ _ l) in
            record { answer = answers; leaves = encode-output-is ∙ if_done-done _ _ _ [] answers }

-- ---- the reader

pub record Read (plan : Plan) (block output : List ℕ) (reply : Reply) (left : List ℕ) : Type 0 where
  pub answer : read_answer plan block output ≡ reply
  pub leaves : read_output plan block output ≡ left

module _ (plan : Plan) (block output : List ℕ) where
  read-tests : read_answer plan block output
      ≡ and_then (plan_check plan)
      (refuse_if (ltb 512 (edge_count plan)) 19 0
      (and_then (block_check (edge_count plan) block)
      (refuse_if (not (is_codeword_block (side_of plan) block)) 22 0
      (refuse_if (ltb (length output) (block_bytes (message_bits plan))) 13 0 (done [])))))
  unfolding read_answer
  read-tests = refl

  read-output-is : read_output plan block output ≡ if_done (read_answer plan block output) (written (read_message plan block) output) output
  unfolding read_output
  read-output-is = refl

  -- a refusal changes no byte
  read-refused : (number place : ℕ) → read_answer plan block output ≡ refused number place
      → Read plan block output (refused number place) output
  read-refused number place e = record { answer = e; leaves = read-output-is ∙ if_done-refused _ _ _ number place e }

  pub read-plan : (number place : ℕ) → plan_check plan ≡ refused number place → Read plan block output (refused number place) output
  read-plan number place e = read-refused number place (read-tests ∙ and_then-refused _ _ number place e)

  module _ (accepted : plan_check plan ≡ done []) where
    pub read-long : 512 < edge_count plan → Read plan block output (refused 19 0) output
    read-long l = read-refused 19 0 (read-tests ∙ and_then-passed _ _ [] accepted ∙ refuse-taken _ 19 0 _ (lt-ltb _ _ l))

    module _ (short : edge_count plan ≤ 512) where
      pub read-block : (number place : ℕ) → block_check (edge_count plan) block ≡ refused number place
          → Read plan block output (refused number place) output
      read-block number place e =
          read-refused number place
          (read-tests ∙ and_then-passed _ _ [] accepted ∙ refuse-passed _ 19 0 _ (le-ltb _ _ short) ∙ and_then-refused _ _ number place e)

      module _ (passes : block_check (edge_count plan) block ≡ done []) where
        past-block : read_answer plan block output
            ≡ refuse_if (not (is_codeword_block (side_of plan) block)) 22 0
            (refuse_if (ltb (length output) (block_bytes (message_bits plan))) 13 0 (done []))
        past-block = read-tests ∙ and_then-passed _ _ [] accepted ∙ refuse-passed _ 19 0 _ (le-ltb _ _ short) ∙ and_then-passed _ _ [] passes

        pub read-stranger : is_codeword_block (side_of plan) block ≡ false
            → Read plan block output (refused 22 0) output
        read-stranger e = read-refused 22 0 (past-block ∙ refuse-taken _ 22 0 _ (ap not e))

        module _ (codeword : is_codeword_block (side_of plan) block ≡ true) where
          pub read-output : length output < block_bytes (message_bits plan) → Read plan block output (refused 13 0) output
          read-output l = read-refused 13 0 (past-block ∙ refuse-passed _ 22 0 _ (ap not codeword) ∙ refuse-taken _ 13 0 _ (lt-ltb _ _ l))

          pub read_done : block_bytes (message_bits plan) ≤ length output
              → Read plan block output (done []) (written (read_message plan block) output)
          read_done l =
              let answers = past-block ∙ refuse-passed _ 22 0 _ (ap not codeword) ∙ refuse-passed _ 13 0 _ (le-ltb _ _ l) in
              record { answer = answers; leaves = read-output-is ∙ if_done-done _ _ _ [] answers }
