-- What is promised of tables, of messages, of the spread and of the first sum, each once more in the papers' words and from the theorem alone: a theorem that says
-- less, or asks for more, is refused here. tests/weaker has such theorems.
--   build_output, look_up_answer    the output after a table is built in it, and what a look-up answers (tables specs Answer)
--   nearest_word, bits_changed     the nearest word by search, and in how many bits it differs (inner_code specs Code)
--   encode_answer, encode_output, read_answer, read_output  encoder and reader (messages specs Answer)
--   message_bits plan             K, the bits of a message (messages specs Position)
--   spread_answer plan            what the spread answers (meetings specs Answer)
--   decode_sums, decode_output     the sums that the decoder tells, and its output (decoder specs Answer)
--   report_answer, report_list     what the report answers, and its list (report specs Answer)
--   edges_between sides u v       how many edges are between a left and a right vertex (wiring specs Wiring)
use Rattle.std.proofs.Common.{ℕ, ◌+◌, ◌*◌, ◌^◌, ◌≤◌, ◌<◌, Bool, List, [], ◌∷◌, ◌++◌, ◌≡◌, sym, ap, ◌∙◌, length, get_or, take}
use Rattle.bits.specs.Bit.{pair_at, written, flips}
use Rattle.bits.specs.Sum.{sum, gap, flag}
use Rattle.bits.proofs.Fronts.{written-part}
use Rattle.inner_code.specs.Reply.{done}
use Rattle.inner_code.specs.Code.{nearest_word, bits_changed}
use Rattle.inner_code.specs.Sheet.{degree, row_count, row_of, sheet_check}
use Rattle.inner_code.specs.Answer.{nearest_answer}
use Rattle.inner_code.proofs.NearestWord.{nearest-answer-word}
use Rattle.inner_code.proofs.Replies.{and_then-done}
use Rattle.tables.specs.Answer.{table_bytes, table_of, build_output, look_up_answer}
use Rattle.tables.proofs.LookUps.{build-done, looked-up, looked-up-built}
use Rattle.wiring.specs.Plan.{Plan, edge_count, side_of}
use Rattle.wiring.specs.Wiring.{plan_check, edges_between}
use Rattle.wiring.specs.Block.{block_bytes, Codeword}
use Rattle.wiring.proofs.Plans.{plan-done}
use Rattle.wiring.proofs.Blocks.{bits-sized, block-sized}
use Rattle.sweeps.proofs.Sweeping.{length-after}
use Rattle.decoder.specs.Decode.{swept_block}
use Rattle.decoder.specs.Answer.{decode_answer, decode_sums, decode_output}
use Rattle.decoder.proofs.Settling.{decode-settled, decode-means}
use Rattle.report.specs.Answer.{report_answer, report_list}
use Rattle.messages.specs.Position.{message_bits}
use Rattle.messages.specs.Message.{encoded_block, read_message, message_check, ValidMessage, OneToOne}
use Rattle.messages.specs.Answer.{encode_answer, encode_output, read_answer, read_output}
use Rattle.messages.proofs.Answers.{encode-done, read_done}
use Rattle.messages.proofs.Reading.{one-to-one}
use Rattle.meetings.specs.Spread.{spread, size, edges_inside}
use Rattle.meetings.specs.Answer.{spread_answer}
use Rattle.meetings.proofs.Graph.{pair-bound-plan}
use Rattle.known_answers.proofs.FirstSum.{first-sum, first-sum-reported}

-- ---- a word looked up in the table that was built for its sheet

-- in the sheet's table, whatever stands behind it, and of a refused sheet too
pub table-agrees : (sheet : List ℕ) (w : ℕ) (rest : List ℕ) → look_up_answer sheet w (table_of sheet ++ rest) ≡ nearest_answer sheet w
table-agrees = looked-up

-- the same answer as the search gives, refused words too
pub built-same : (sheet output : List ℕ) (w : ℕ) → sheet_check sheet ≡ done [] → table_bytes sheet ≤ length output
    → look_up_answer sheet w (build_output sheet output) ≡ nearest_answer sheet w
built-same sheet output w accepted room = looked-up-built sheet output w (sym (build-done sheet output accepted room))

-- a word of d bits: its nearest word, and the bits changed
pub built-agrees : (sheet output : List ℕ) (w : ℕ) → sheet_check sheet ≡ done [] → table_bytes sheet ≤ length output → w < 2 ^ degree sheet
    → look_up_answer sheet w (build_output sheet output)
    ≡ done (nearest_word (row_of sheet) (row_count sheet) (degree sheet) w ∷ bits_changed (row_of sheet) (row_count sheet) (degree sheet) w ∷ [])
built-agrees sheet output w accepted room low =
    built-same sheet output w accepted room ∙ nearest-answer-word sheet w accepted low

-- ---- the spread that is answered bounds the edges between any s left and t right vertices

spread-means : (plan : Plan) (R : ℕ) → spread_answer plan ≡ done (R ∷ []) → (plan_check plan ≡ done []) × (spread (side_of plan) ≡ R)
unfolding spread_answer
spread-means plan R e =
    let ((values, accepted), rest) = and_then-done (plan_check plan) (done (spread (side_of plan) ∷ [])) (R ∷ []) e in
    let same : spread (side_of plan) ≡ R = cc rest in
    (plan-done plan accepted, same)

pub spread-bounds : (plan : Plan) (R : ℕ) → spread_answer plan ≡ done (R ∷ []) → (S T : ℕ → Bool)
    → let dl : ℕ = degree plan.left_sheet in
    let s : ℕ = sum plan.nl (λ u. flag (S u)) in
    let t : ℕ = sum plan.nr (λ v. flag (T v)) in
    let e : ℕ = sum plan.nl (λ u. sum plan.nr (λ v. flag (S u) * (flag (T v) * edges_between (side_of plan) u v))) in
    gap (plan.nr * e) (dl * s * t) * gap (plan.nr * e) (dl * s * t) ≤ plan.nr * R * s * t
unfolding size edges_inside
spread-bounds plan R e S T =
    let (accepted, same) = spread-means plan R e in
    rw same at (pair-bound-plan plan accepted S T)

-- ---- encoding and reading undo each other

module _ {plan : Plan} (one : OneToOne plan) where
  one-encodes : (message : List ℕ) → ValidMessage plan message → Codeword plan (encoded_block plan message)
  one-encodes message valid = one.encodes message valid

  one-reads : (block : List ℕ) → Codeword plan block → ValidMessage plan (read_message plan block)
  one-reads block code = one.reads block code

  one-message : (message : List ℕ) → ValidMessage plan message → read_message plan (encoded_block plan message) ≡ message
  one-message message valid = one.reads-encoded message valid

  one-codeword : (block : List ℕ) → Codeword plan block → encoded_block plan (read_message plan block) ≡ block
  one-codeword block code = one.encodes-read block code

module _ (plan : Plan) (output room : List ℕ) (accepted : plan_check plan ≡ done []) (short : edge_count plan ≤ 512) where
  matched : OneToOne plan
  matched = one-to-one plan accepted

  message-valid : (message : List ℕ) → ((k : ℕ) → get_or message k 0 < 256) → message_check (message_bits plan) message ≡ done []
      → ValidMessage plan message
  message-valid message bytes checked = record { bytes = bytes; checked = checked }

  -- a message that is encoded, and the block at the front of the output read
  pub message-returns : (message : List ℕ) → ((k : ℕ) → get_or message k 0 < 256)
      → message_check (message_bits plan) message ≡ done []
      → block_bytes (edge_count plan) ≤ length output
      → block_bytes (message_bits plan) ≤ length room
      → let block : List ℕ = take (block_bytes (edge_count plan)) (encode_output plan message output) in
      (encode_answer plan message output ≡ done []) × (read_answer plan block room ≡ done []) × (read_output plan block room ≡ written message room)
  message-returns message bytes checked fits holds =
      let valid = message-valid message bytes checked in
      let code = one-encodes matched message valid in
      let encoded = encode-done plan message output accepted short valid.checked fits in
      let front : take (block_bytes (edge_count plan)) (encode_output plan message output) ≡ encoded_block plan message =
      ap (take (block_bytes (edge_count plan))) encoded.leaves
      ∙ written-part _ output _ (sym (block-sized (edge_count plan) _ code.block-of.checked)) in
      let read = read_done plan (encoded_block plan message) room accepted short code.block-of.checked code.satisfied-all holds in
      let back = read.leaves ∙ ap (λ (m : List ℕ). written m room) (one-message matched message valid) in
      (encoded.answer, rw front read.answer, rw front back)

  -- a codeword that is read, and the message at the front of the output encoded
  pub codeword-returns : (block : List ℕ) → Codeword plan block
      → block_bytes (message_bits plan) ≤ length output
      → block_bytes (edge_count plan) ≤ length room
      → let message : List ℕ = take (block_bytes (message_bits plan)) (read_output plan block output) in
      (read_answer plan block output ≡ done []) × (encode_answer plan message room ≡ done []) × (encode_output plan message room ≡ written block room)
  codeword-returns block code fits holds =
      let valid = one-reads matched block code in
      let read = read_done plan block output accepted short code.block-of.checked code.satisfied-all fits in
      let front : take (block_bytes (message_bits plan)) (read_output plan block output) ≡ read_message plan block =
      ap (take (block_bytes (message_bits plan))) read.leaves
      ∙ written-part _ output _ (sym (bits-sized 20 21 (message_bits plan) _ valid.checked)) in
      let encoded = encode-done plan (read_message plan block) room accepted short valid.checked holds in
      let back = encoded.leaves ∙ ap (λ (b : List ℕ). written b room) (one-codeword matched block code) in
      (read.answer, rw front encoded.answer, rw front back)

-- ---- of a block that settles after one sweep, the first sum is the bits mended, which the report of the decoder's own output adds up to

pub meter-agrees : (plan : Plan) (received output list : List ℕ) (H pairs : ℕ) → decode_answer plan received [] output H ≡ done (1 ∷ [])
    → let settled : List ℕ = take (length received) (decode_output plan received [] output H) in
    let first : ℕ = get_or (decode_sums plan received [] output H) 0 0 in
    report_answer plan received settled list ≡ done (pairs ∷ [])
    → (first ≡ flips (edge_count plan) received settled)
    × (sum pairs (λ p. pair_at (report_list plan received settled list) (4 * p + 2)) ≡ first)
meter-agrees plan received output list H pairs once reported =
    let (at, within, (values, pass)) = decode-means plan received output H 1 once in
    let swept : List ℕ = swept_block plan 1 received in
    let kept : length swept ≡ length received = length-after (side_of plan) 1 received in
    let leaves = (decode-settled plan received output H pass 1 at within).leaves in
    let front : take (length received) (decode_output plan received [] output H) ≡ swept =
    ap (take (length received)) leaves ∙ written-part swept output (length received) (sym kept) in (
      rw front (first-sum plan received output H once swept kept leaves),
      rw front (first-sum-reported plan received output H once swept kept leaves list pairs (rw front at reported)),
    )
