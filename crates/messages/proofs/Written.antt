-- Bits that are written to the front of an output: those of the encoded block, and those of the message that is read.
--   written front l                 the list l with `front` at its beginning (bits specs Bit)
--   bits_put x m l                   the byte string l with its bits 0 .. m - 1 made the digits of x (specs Position)
--   BitsPut N chosen columns l left `left` is l with the bits of the chosen rows put together at its places 0 .. N - 1 (specs Columns)
--   bits_taken columns block j l     the byte string l with the block's bits at the rows left below j put at its front (specs Columns)
--   live_before columns j            how many rows below j have a 1 at their own place (specs Columns)
--   StoredPlan plan N columns       the columns hold the final rows of an accepted plan of N edges (specs Columns)
-- Laws are named by their subject, then by the fact: `put-` is about the encoded bits, `taken-` about the bits that are read. At the end
-- of a name, `-none` is the beginning of a loop, `-one-more` and `-kept` a turn that writes and one that does not, `-written` says that
-- only the front is written, `-encoded` and `-read` what stands there at the end.
use Rattle.std.proofs.Common.{ℕ, zero, suc, ◌+◌, ◌*◌, ◌%◌, ◌≤◌, ◌<◌, Bool, cond, List, ◌≡◌, refl, sym, ap, ap₂, ◌∙◌, le_of_lt, mod-eq_of_lt}
use Rattle.std.proofs.Common.{add-zero, add-one, arith, eqb, length, replicate, eq-eqb, ne_eqb}
use mathlib.Core.Logic.{◌≢◌}
use native.Mathlib.Decide.{ℕ_discrete}
use lib.ListN.{length-replicate}
use Rattle.bits.specs.Bit.{digit, bit_at, with_bit, written}
use Rattle.bits.proofs.Bytes.{bit_at_lt, length-with_bit}
use Rattle.bits.proofs.Fronts.{written-with_bit}
use Rattle.wiring.specs.Plan.{Plan}
use Rattle.wiring.specs.Block.{block_bytes}
use Rattle.messages.specs.Position.{bits_put, block_of, is_position, message_bits}
use Rattle.messages.specs.Message.{encoded_number, encoded_block, read_before, read_message}
use Rattle.messages.specs.Elimination.{final_state}
use Rattle.messages.specs.Columns.{row_bit, StoredPlan, live_before, Chosen, column_parity, BitsPut, bits_taken}
use Rattle.messages.proofs.Elimination.{parity-lt}
use Rattle.messages.proofs.Numbers.{bits_put-none, bits_put-one-more, length-bits_put, block_of-is}
use Rattle.wiring.proofs.Blocks.{bytes-hold}
use Rattle.messages.proofs.Positions.{position-live}
use Rattle.messages.proofs.Encoding.{encoded-block-is}
use Rattle.messages.proofs.Reading.{read_none, read-position, read-other}
use Rattle.messages.proofs.StoredRows.{row_bit-lt}
use Rattle.messages.proofs.Pivots.{flag-test}
use Rattle.messages.proofs.LiveRows.{live-one-more, stored-live, stored-count, stored-bits, stored-digit}

-- ---- the encoded bits

parity-bit : (chosen columns : List ℕ) (e : ℕ) → column_parity chosen columns e < 2
unfolding column_parity
parity-bit chosen columns e = parity-lt 512 _ _

module _ (chosen columns l : List ℕ) where
  pub put-none : BitsPut 0 chosen columns l l
  put-none = record { is = λ x same. sym (bits_put-none x l) }

  -- b is the bit that is written
  pub put-one-more : (e b : ℕ) (output next : List ℕ) → BitsPut e chosen columns l output → b ≡ column_parity chosen columns e
      → next ≡ with_bit output e (b % 2) → BitsPut (e + 1) chosen columns l next
  put-one-more e b output next so_far is_b wrote =
      record {
        is = λ x same.
            let bit : b % 2 ≡ digit x e = ap (λ (y : ℕ). y % 2) is_b ∙ mod-eq_of_lt (parity-bit chosen columns e) ∙ sym (same e (omega arith)) in
            wrote ∙ ap₂ (λ (r : List ℕ) (y : ℕ). with_bit r e y) (so_far.is x (λ i k. same i (omega arith))) bit ∙ sym (bits_put-one-more x e l);
      }

put_written : (x m : ℕ) (front l : List ℕ) → m ≤ length front * 8 → bits_put x m (written front l) ≡ written (bits_put x m front) l
unfolding bits_put
put_written x zero front l fits = refl
put_written x (suc m) front l fits =
    ap (λ (r : List ℕ). with_bit r m (digit x m)) (put_written x m front l (le_of_lt fits))
    ∙ written-with_bit (bits_put x m front) l m (digit x m) (rw length-bits_put fits)

-- the whole encoded block
pub put-encoded : {plan : Plan} {N : ℕ} {columns : List ℕ} (s : StoredPlan plan N columns)
    (message chosen output left : List ℕ) → Chosen N columns message chosen
    → BitsPut N chosen columns (written (replicate (block_bytes N) 0) output) left → left ≡ written (encoded_block plan message) output
put-encoded {plan} {N} {columns} s message chosen output left c put =
    put.is x (stored-digit s message chosen c)
    ∙ put_written x N (replicate (block_bytes N) 0) output (rw length-replicate (bytes-hold N))
    ∙ ap (λ (front : List ℕ). written front output)
    (sym (block_of-is N x) ∙ ap (λ (M : ℕ). block_of M x) s.edges ∙ sym (encoded-block-is plan message))
  where
    x : ℕ
    x = encoded_number plan message

-- ---- the bits that are read

module _ (columns block : List ℕ) where
  pub taken_none : (l : List ℕ) → bits_taken columns block 0 l ≡ l
  unfolding bits_taken
  taken_none l = refl

  put-position : (j : ℕ) (l : List ℕ) → row_bit columns j j ≡ 1
      → bits_taken columns block (suc j) l ≡ with_bit (bits_taken columns block j l) (live_before columns j) (bit_at block j)
  unfolding bits_taken
  put-position j l one =
      ap (λ (t : Bool). cond t (with_bit (bits_taken columns block j l) (live_before columns j) (bit_at block j)) (bits_taken columns block j l))
      (eq-eqb _ 1 one)

  pass-other : (j : ℕ) (l : List ℕ) → row_bit columns j j ≢ 1 → bits_taken columns block (suc j) l ≡ bits_taken columns block j l
  unfolding bits_taken
  pass-other j l other =
      ap (λ (t : Bool). cond t (with_bit (bits_taken columns block j l) (live_before columns j) (bit_at block j)) (bits_taken columns block j l))
      (ne_eqb _ 1 other)

  -- one turn: `read` is the row's bit at its own place, b the block's bit
  module _ (p rank read : ℕ) (l output : List ℕ) (counted : rank ≡ live_before columns p) (so_far : output ≡ bits_taken columns block p l)
      (is_read : read ≡ row_bit columns p p) where
    pub taken-one-more : (b : ℕ) (next : List ℕ) → read ≡ 1 → b ≡ bit_at block p → next ≡ with_bit output rank (b % 2)
        → (rank + 1 ≡ live_before columns (p + 1)) × (next ≡ bits_taken columns block (p + 1) l)
    taken-one-more b next one is_b wrote =
        let bit : b % 2 ≡ bit_at block p = ap (λ (y : ℕ). y % 2) is_b ∙ mod-eq_of_lt (bit_at_lt block p) in (
          live-one-more columns p rank 1 counted (sym one ∙ is_read),
          rw add-one
              (wrote
              ∙ ap (λ (r : List ℕ). with_bit r rank (b % 2)) so_far
              ∙ ap₂ (λ (i y : ℕ). with_bit (bits_taken columns block p l) i y) counted bit
              ∙ sym (put-position p l (sym is_read ∙ one))),
        )

    pub taken-kept : read ≢ 1 → (rank ≡ live_before columns (p + 1)) × (output ≡ bits_taken columns block (p + 1) l)
    taken-kept other =
        let none : row_bit columns p p ≡ 0 = omega (arith, row_bit-lt columns p p) in (
          sym (add-zero rank) ∙ live-one-more columns p rank 0 counted (sym none),
          rw add-one (so_far ∙ sym (pass-other p l (λ one. other (is_read ∙ one)))),
        )

  length_taken : (j : ℕ) (l : List ℕ) → length (bits_taken columns block j l) ≡ length l
  length_taken zero l = ap length (taken_none l)
  length_taken (suc j) l = go (length_taken j l) (ℕ_discrete (row_bit columns j j) 1)
    where
      go : length (bits_taken columns block j l) ≡ length l → Dec (row_bit columns j j ≡ 1) → length (bits_taken columns block (suc j) l) ≡ length l
      go e (yes one) = ap length (put-position j l one) ∙ length-with_bit _ _ _ ∙ e
      go e (no other) = ap length (pass-other j l other) ∙ e

  live-suc : (j : ℕ) → live_before columns (suc j) ≡ live_before columns j + row_bit columns j j
  live-suc j = rw (← add-one j) (sym (live-one-more columns j _ _ refl refl))

  taken-written : (j : ℕ) (front l : List ℕ) → live_before columns j ≤ length front * 8
      → bits_taken columns block j (written front l) ≡ written (bits_taken columns block j front) l
  taken-written zero front l fits = taken_none (written front l) ∙ ap (λ (r : List ℕ). written r l) (sym (taken_none front))
  taken-written (suc j) front l fits =
      go (taken-written j front l (omega (arith, live-suc j))) (ℕ_discrete (row_bit columns j j) 1)
    where
      go : bits_taken columns block j (written front l) ≡ written (bits_taken columns block j front) l → Dec (row_bit columns j j ≡ 1)
          → bits_taken columns block (suc j) (written front l) ≡ written (bits_taken columns block (suc j) front) l
      go e (yes one) =
          put-position j (written front l) one
          ∙ ap (λ (r : List ℕ). with_bit r (live_before columns j) (bit_at block j)) e
          ∙ written-with_bit _ l (live_before columns j) (bit_at block j) (omega (arith, live-suc j, length_taken j front))
          ∙ ap (λ (r : List ℕ). written r l) (sym (put-position j front one))
      go e (no other) = pass-other j (written front l) other ∙ e ∙ ap (λ (r : List ℕ). written r l) (sym (pass-other j front other))

module _ {plan : Plan} {N : ℕ} {columns : List ℕ} (s : StoredPlan plan N columns) (block : List ℕ) where
  position-test : (j : ℕ) → j < N → is_position plan j ≡ eqb (row_bit columns j j) 1
  position-test j l =
      position-live plan s.accepted j ∙ sym (ap (λ (x : ℕ). eqb x 1) (stored-live s j l) ∙ flag-test ((final_state plan).live j))

  -- on zeros the bits taken are the message read so far
  taken-before : (j : ℕ) → j ≤ N → bits_taken columns block j (replicate (block_bytes (message_bits plan)) 0) ≡ read_before plan block j
  taken-before zero h = taken_none columns block _ ∙ sym (read_none plan block)
  taken-before (suc j) h = go (taken-before j (le_of_lt h)) (ℕ_discrete (row_bit columns j j) 1)
    where
      zeros : List ℕ
      zeros = replicate (block_bytes (message_bits plan)) 0

      go : bits_taken columns block j zeros ≡ read_before plan block j → Dec (row_bit columns j j ≡ 1)
          → bits_taken columns block (suc j) zeros ≡ read_before plan block (suc j)
      go e (yes one) =
          put-position columns block j zeros one
          ∙ ap₂ (λ (r : List ℕ) (i : ℕ). with_bit r i (bit_at block j)) e (stored-count s j (le_of_lt h))
          ∙ sym (read-position plan block j (position-test j h ∙ eq-eqb _ 1 one))
      go e (no other) =
          pass-other columns block j zeros other ∙ e ∙ sym (read-other plan block j (position-test j h ∙ ne_eqb _ 1 other))

  -- the whole message
  pub taken-read : (output left : List ℕ)
      → left ≡ bits_taken columns block N (written (replicate (block_bytes (message_bits plan)) 0) output)
      → left ≡ written (read_message plan block) output
  unfolding read_message
  taken-read output left taken =
      taken
      ∙ taken-written columns block N _ output (rw (stored-bits s, length-replicate) (bytes-hold (message_bits plan)))
      ∙ ap (λ (front : List ℕ). written front output) (taken-before N (omega arith) ∙ ap (read_before plan block) s.edges)
