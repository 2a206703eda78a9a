-- Reading a message from a block, and that messages and codewords match one to one.
--   read_before plan block j     the message with the bits of the message positions below j read (specs Message)
--   read_message plan block      the message with the bits of all message positions (specs Message)
--   positions_before plan p      the number of message positions below p: the place of p's bit in the message (specs Position)
--   ValidMessage plan message   a message of the plan (specs Message)
--   OneToOne plan               messages and codewords match one to one (specs Message)
--   Codeword plan block         a block of the plan that is a codeword (wiring specs Block)
-- Laws are named by their subject, then by the fact: `place-` is about the place of a position's bit, `read-` and `before-` about what is
-- read, `encoded-` about the codeword of a message. At the end of a name, `-lt`, `-mono` and `-inside` are orders, `-onto` says that every
-- place has a position, `-byte` that every byte is below 256, `-bit` and `-past` what a bit is. The two directions are `encode-read` and
-- `read-encode`.
use Rattle.std.proofs.Common.{ℕ, zero, suc, ◌*◌, ◌≤◌, ◌<◌, Bool, true, false, cond, List, [], ⊎_elim, ◌≡◌, refl, sym, ap, ◌∙◌, lt-suc_self}
use Rattle.std.proofs.Common.{le_trans, le_refl, le_of_lt, lt_of_lt_of_le, le_of_suc-le-suc, eq-or-lt_of_le, not-suc-le-zero, ne_of_lt}
use Rattle.std.proofs.Common.{arith, length, get_or, replicate}
use mathlib.Core.Path.{subst⁻¹}
use lib.ListN.{length-replicate}
use Rattle.bits.specs.Bit.{bit_at, with_bit}
use Rattle.bits.proofs.Bytes.{bit_at_lt, bit_at-same, bit_at-other, length-with_bit, with_bit-byte}
use Rattle.inner_code.specs.Reply.{done}
use Rattle.wiring.specs.Plan.{Plan, edge_count, side_of}
use Rattle.wiring.specs.Wiring.{plan_check}
use Rattle.wiring.specs.Block.{block_bytes, is_codeword_block, Block, Codeword}
use Rattle.wiring.proofs.Blocks.{bits-sized, bits-clear, bits_back, block_back, block-ext, bytes-hold}
use Rattle.messages.specs.Position.{block_of, is_position, positions_before, message_bits}
use Rattle.messages.specs.Message.{encoded_block, read_before, read_message, ValidMessage, OneToOne}
use Rattle.messages.proofs.Elimination.{Bits}
use Rattle.messages.proofs.Numbers.{number_of, number_lt, number-digit, block_of-bit, block_of-block, block-number, zeros-bit}
use Rattle.bits.proofs.Lists.{zeros-at}
use Rattle.messages.proofs.Ranks.{rank_mono, rank_lt, rank-onto}
use Rattle.messages.proofs.Positions.{codeword-number-is, positions-rank, message-bits-rank}
use Rattle.messages.proofs.Encoding.{Carrier, encoded-block-is, encoded-carries, encoded-at}

-- ---- the places of the message

module _ (plan : Plan) where
  pub place_mono : (p q : ℕ) → p ≤ q → positions_before plan p ≤ positions_before plan q
  place_mono p q l = rw (positions-rank plan p, positions-rank plan q) (rank_mono (is_position plan) p q l)

  -- later positions have later places
  pub place-lt : (p q : ℕ) → is_position plan p ≡ true → p < q → positions_before plan p < positions_before plan q
  place-lt p q e l = rw (positions-rank plan p, positions-rank plan q) (rank_lt (is_position plan) p q e l)

  pub place_inside : (p : ℕ) → p < edge_count plan → is_position plan p ≡ true → positions_before plan p < message_bits plan
  place_inside p l e = rw (positions-rank, message-bits-rank) (rank_lt (is_position plan) p (edge_count plan) e l)

  -- every place of the message has a position
  pub place-onto : (i : ℕ) → i < message_bits plan
      → (p : ℕ) × (p < edge_count plan) × (is_position plan p ≡ true) × (positions_before plan p ≡ i)
  place-onto i l =
      let (p, k, e, at) = rank-onto (is_position plan) (edge_count plan) i (rw message-bits-rank at l) in
      (p, k, e, positions-rank plan p ∙ at)

-- ---- bits that are read so far

module _ (plan : Plan) (block : List ℕ) where
  pub read_none : read_before plan block 0 ≡ replicate (block_bytes (message_bits plan)) 0
  unfolding read_before
  read_none = refl

  pub read-position : (j : ℕ) → is_position plan j ≡ true
      → read_before plan block (suc j) ≡ with_bit (read_before plan block j) (positions_before plan j) (bit_at block j)
  unfolding read_before
  read-position j e =
      ap (λ (t : Bool). cond t (with_bit (read_before plan block j) (positions_before plan j) (bit_at block j)) (read_before plan block j)) e

  pub read-other : (j : ℕ) → is_position plan j ≡ false → read_before plan block (suc j) ≡ read_before plan block j
  unfolding read_before
  read-other j e =
      ap (λ (t : Bool). cond t (with_bit (read_before plan block j) (positions_before plan j) (bit_at block j)) (read_before plan block j)) e

  -- what holds after a bit that is read and after one that is passed over holds after bit j
  read-cases : (P : List ℕ → Type 0) (j : ℕ)
      → (is_position plan j ≡ true → P (with_bit (read_before plan block j) (positions_before plan j) (bit_at block j)))
      → (is_position plan j ≡ false → P (read_before plan block j)) → P (read_before plan block (suc j))
  read-cases P j read other = go (is_position plan j) refl
    where
      go : (t : Bool) → is_position plan j ≡ t → P (read_before plan block (suc j))
      go true e = subst⁻¹ P (read-position j e) (read e)
      go false e = subst⁻¹ P (read-other j e) (other e)

  length_before : (j : ℕ) → length (read_before plan block j) ≡ block_bytes (message_bits plan)
  length_before zero = ap length read_none ∙ length-replicate _ 0
  length_before (suc j) =
      read-cases (λ l. length l ≡ block_bytes (message_bits plan)) j (λ e. length-with_bit _ _ _ ∙ length_before j) (λ e. length_before j)

  before-byte : (j : ℕ) → (k : ℕ) → get_or (read_before plan block j) k 0 < 256
  before-byte zero = λ k. rw read_none (omega (arith, zeros-at (block_bytes (message_bits plan)) k))
  before-byte (suc j) =
      read-cases (λ l. (k : ℕ) → get_or l k 0 < 256) j (λ e. with_bit-byte _ _ _ (bit_at_lt block j) (before-byte j)) (λ e. before-byte j)

  before-past : (j i : ℕ) → positions_before plan j ≤ i → bit_at (read_before plan block j) i ≡ 0
  before-past zero i l = rw read_none (zeros-bit (block_bytes (message_bits plan)) i)
  before-past (suc j) i l =
      let within : positions_before plan j ≤ i = le_trans (place_mono plan j (suc j) (le_of_lt (lt-suc_self j))) l in
      let earlier = before-past j i within in
      read-cases (λ r. bit_at r i ≡ 0) j
      (λ e. bit_at-other _ _ i _ (ne_of_lt (lt_of_lt_of_le (place-lt plan j (suc j) e (lt-suc_self j)) l)) (bit_at_lt block j) ∙ earlier)
      (λ e. earlier)

  place-covered : (j : ℕ) → j < edge_count plan → is_position plan j ≡ true
      → positions_before plan j < length (read_before plan block j) * 8
  place-covered j l e = rw length_before (lt_of_lt_of_le (place_inside plan j l e) (bytes-hold (message_bits plan)))

  before-bit : (j : ℕ) → j ≤ edge_count plan → (p : ℕ) → p < j → is_position plan p ≡ true
      → bit_at (read_before plan block j) (positions_before plan p) ≡ bit_at block p
  before-bit zero h p l e = absurd (not-suc-le-zero l)
  before-bit (suc j) h p l e =
      ⊎_elim
      (λ (q : p ≡ j).
      let now : is_position plan j ≡ true = rw q at e in
      rw (q, read-position j now) (bit_at-same _ _ _ (place-covered j h now) (bit_at_lt block j)))
      (λ (k : p < j).
      let earlier = before-bit j (le_of_lt h) p k e in
      read-cases (λ r. bit_at r (positions_before plan p) ≡ bit_at block p) j
      (λ _. bit_at-other _ _ _ _ (λ q. ne_of_lt (place-lt plan p j e k) (sym q)) (bit_at_lt block j) ∙ earlier)
      (λ _. earlier))
      (eq-or-lt_of_le (le_of_suc-le-suc l))

  -- ---- the whole message

  read_is : read_message plan block ≡ read_before plan block (edge_count plan)
  unfolding read_message
  read_is = refl

  pub length-read : length (read_message plan block) ≡ block_bytes (message_bits plan)
  length-read = ap length read_is ∙ length_before (edge_count plan)

  pub read_byte : (k : ℕ) → get_or (read_message plan block) k 0 < 256
  read_byte = rw read_is (before-byte (edge_count plan))

  pub read-bit : (p : ℕ) → p < edge_count plan → is_position plan p ≡ true
      → bit_at (read_message plan block) (positions_before plan p) ≡ bit_at block p
  read-bit p l e = rw read_is (before-bit (edge_count plan) (le_refl _) p l e)

  pub read_past : (i : ℕ) → message_bits plan ≤ i → bit_at (read_message plan block) i ≡ 0
  read_past i l = rw read_is (before-past (edge_count plan) i (rw (positions-rank, ← message-bits-rank) l))

-- ---- messages and codewords

-- a message of K bits is a block of K bits
message-block : (plan : Plan) (message : List ℕ) → ValidMessage plan message → Block (message_bits plan) message
message-block plan message v =
    record {
      bytes = v.bytes;
      checked = block_back _ message (bits-sized 20 21 _ message v.checked) (bits-clear 20 21 _ message v.checked);
    }

pub read-message : (plan : Plan) (block : List ℕ) → ValidMessage plan (read_message plan block)
read-message plan block =
    record {
      bytes = read_byte plan block;
      checked = bits_back 20 21 _ _ (length-read plan block) (read_past plan block);
    }

module _ (plan : Plan) (accepted : plan_check plan ≡ done []) where
  pub encoded-codeword : (message : List ℕ) → Codeword plan (encoded_block plan message)
  encoded-codeword message =
      rw encoded-block-is
      (record {
        block-of = block_of-block (edge_count plan) _;
        satisfied-all = sym (codeword-number-is plan _) ∙ (encoded-carries plan accepted message).codeword;
      })

  -- the message's bits stand at the positions of its codeword
  pub encoded-carried : (message : List ℕ) (p : ℕ) → p < edge_count plan → is_position plan p ≡ true
      → bit_at (encoded_block plan message) p ≡ bit_at message (positions_before plan p)
  encoded-carried message p l e =
      rw encoded-block-is (block_of-bit (edge_count plan) _ p l ∙ (encoded-carries plan accepted message).carried p l e)

  -- exactly one codeword carries a message
  pub encoded-only : (message block : List ℕ) → Codeword plan block
      → ((p : ℕ) → p < edge_count plan → is_position plan p ≡ true → bit_at block p ≡ bit_at message (positions_before plan p))
      → encoded_block plan message ≡ block
  encoded-only message block c carried =
      encoded-block-is plan message ∙ ap (block_of N) (encoded-at plan accepted message x carrier) ∙ whole
    where
      N : ℕ
      N = edge_count plan

      x : ℕ
      x = number_of N (bit_at block)

      whole : block_of N x ≡ block
      whole = block-number N block c.block-of

      bits : Bits N (bit_at block)
      bits e _ = bit_at_lt block e

      carrier : Carrier plan message x
      carrier =
          record {
            below = number_lt N (bit_at block) bits;
            codeword =
                codeword-number-is plan x
                ∙ ap (is_codeword_block (side_of plan)) whole ∙ c.satisfied-all;
            carried = λ p l e. number-digit N (bit_at block) bits p l ∙ carried p l e;
          }

  -- reading undoes encoding, and encoding undoes reading
  pub encode-read : (message : List ℕ) → ValidMessage plan message → read_message plan (encoded_block plan message) ≡ message
  encode-read message v =
      block-ext (message_bits plan) (read_message plan block) message
      (message-block plan _ (read-message plan block)) (message-block plan message v) same
    where
      block : List ℕ
      block = encoded_block plan message

      same : (i : ℕ) → i < message_bits plan → bit_at (read_message plan block) i ≡ bit_at message i
      same i l =
          let (p, k, e, at) = place-onto plan i l in
          rw (← at) (read-bit plan block p k e ∙ encoded-carried message p k e)

  pub read-encode : (block : List ℕ) → Codeword plan block → encoded_block plan (read_message plan block) ≡ block
  read-encode block c = encoded-only (read_message plan block) block c (λ p l e. sym (read-bit plan block p l e))

pub one-to-one : (plan : Plan) → plan_check plan ≡ done [] → OneToOne plan
one-to-one plan accepted =
    record {
      encodes = λ message _. encoded-codeword plan accepted message;
      reads = λ block _. read-message plan block;
      reads-encoded = encode-read plan accepted;
      encodes-read = read-encode plan accepted;
    }
