-- Strings of N bits, blocks among them: what their two refusals leave.
--   block_bytes N               the length of a block of N bits (specs Block)
--   bits_check a b N bytes      refused a for another length, b for a bit after N - 1 that is set, or done with no value (specs Block)
--   block_check N block         the same with 11 and 12 (specs Block)
--   bit_at bytes i              bit i, 0 past the end (bits specs Bit)
--   stray_bit N bytes           some bit of the bytes at N or after is 1: the test of the second refusal
-- Laws are named by their subject, then by the fact: `bits-` is about the outcome of the check and a string that passes it, `block-` about
-- a block, `bytes-` about the number of bytes, `stray-` about the second test as the code makes it, on the last byte alone. At the end of
-- a name, `-back` leads from the facts to the check, `-ext` is equality from the bits.
use Rattle.std.proofs.Common.{ℕ, ◌+◌, ◌-◌, ◌*◌, ◌/◌, ◌%◌, ◌^◌, ◌≤◌, ◌<◌, Bool, true, false, not, ◌&&◌, List, [], ◌⊎◌, inl, inr, ◌≡◌, refl}
use Rattle.std.proofs.Common.{sym, ap, ◌∙◌, mod-lt, arith, leb, eqb, length, get_or, pow_pos, le-leb, eqb-true, eq-eqb, ne_eqb}
use mathlib.Core.Bool.{and-false}
use mathlib.Core.Logic.{◌≢◌}
use native.Mathlib.Decide.{dec_le}
use borrow.Author.Tests.{lt-leb, eqb-false, not-false}
use Rattle.bits.specs.Bit.{digit, bit_at}
use Rattle.bits.proofs.Xor.{digit-ext, digit-zero}
use Rattle.bits.proofs.Windows.{digit_low}
use Rattle.bits.proofs.Bytes.{bit_at_lt, bit_at-past, bit_at-byte, bit_at-ext}
use Rattle.inner_code.specs.Reply.{done, refused, refuse_if}
use Rattle.bits.specs.Search.{some_below}
use Rattle.inner_code.proofs.Replies.{refuse-taken, refuse-passed, refuse-done}
use Rattle.wiring.specs.Block.{block_bytes, bits_check, block_check, Block}
use Rattle.bits.proofs.Searches.{none_below, none-below-each}

abbrev pub stray_bit : ℕ → List ℕ → Bool
stray_bit N bytes = some_below (length bytes * 8) (λ i. leb N i && eqb (bit_at bytes i) 1)

pub bytes-hold : (N : ℕ) → N ≤ block_bytes N * 8
unfolding block_bytes
bytes-hold N = omega arith

-- ---- the second test

-- the test of 12 fails exactly if every bit at N or after is 0
stray-clear : (N : ℕ) (block : List ℕ) → stray_bit N block ≡ false → (i : ℕ) → N ≤ i → bit_at block i ≡ 0
stray-clear N block e i h =
    elim (dec_le (length block * 8) i) [
      | yes past ↦ bit_at-past block i past
      | no inside ↦
          let clear : eqb (bit_at block i) 1 ≡ false = rw (le-leb N i h) at (none-below-each _ _ e i (omega arith)) in
          omega (arith, bit_at_lt block i, eqb-false (bit_at block i) 1 clear)
    ]

clear-stray : (N : ℕ) (block : List ℕ) → ((i : ℕ) → N ≤ i → i < length block * 8 → bit_at block i ≡ 0) → stray_bit N block ≡ false
clear-stray N block clear =
    none_below _ _ (λ i l. elim (dec_le N i) [ yes h ↦ rw (clear i h l) (and-false (leb N i)) | no h ↦ rw (lt-leb N i (omega arith)) ])

-- ---- the test of 12 on the last byte

pub stray-none : (N : ℕ) (block : List ℕ) → length block ≡ block_bytes N
    → (N % 8 ≡ 0) ⊎ (get_or block (N / 8) 0 % 2 ^ (8 - N % 8) ≡ 0) → stray_bit N block ≡ false
unfolding block_bytes bit_at
stray-none N block fits (inl whole) = clear-stray N block (λ i h l. absurd (omega arith))
stray-none N block fits (inr low) =
    clear-stray N block (λ i h l.
    ap (λ (q : ℕ). digit (get_or block q 0) (7 - i % 8)) (omega arith)
    ∙ sym (digit_low _ (8 - N % 8) (7 - i % 8) (omega arith)) ∙ ap (λ (x : ℕ). digit x (7 - i % 8)) low ∙ digit-zero (7 - i % 8))

-- whatever the length: a digit of byte N/8 that is 1 lies inside the block
pub stray-some : (N : ℕ) (block : List ℕ) → get_or block (N / 8) 0 % 2 ^ (8 - N % 8) ≢ 0 → stray_bit N block ≡ true
stray-some N block low = go (stray_bit N block) refl
  where
    go : (b : Bool) → stray_bit N block ≡ b → stray_bit N block ≡ true
    go true e = e
    go false e =
        absurd (low (digit-ext (8 - N % 8) _ 0 (mod-lt _ (pow_pos (8 - N % 8))) (pow_pos (8 - N % 8))
        (λ j l. digit_low _ (8 - N % 8) j l ∙ sym (bit_at-byte block (N / 8) j (omega arith))
        ∙ stray-clear N block e (N / 8 * 8 + (7 - j)) (omega arith) ∙ sym (digit-zero j))))

-- ---- the check

module _ (a b N : ℕ) (bytes : List ℕ) where
  bits-tests : bits_check a b N bytes ≡ refuse_if (not (eqb (length bytes) (block_bytes N))) a 0 (refuse_if (stray_bit N bytes) b 0 (done []))
  unfolding bits_check
  bits-tests = refl

  bits-passed : {values : List ℕ} → bits_check a b N bytes ≡ done values → (length bytes ≡ block_bytes N) × (stray_bit N bytes ≡ false)
  bits-passed {values} e =
      let (fits, rest) = refuse-done _ a 0 _ values (sym bits-tests ∙ e) in
      (eqb-true _ _ (not-false _ fits), (refuse-done _ b 0 _ values rest).0)

  pub bits-sized : {values : List ℕ} → bits_check a b N bytes ≡ done values → length bytes ≡ block_bytes N
  bits-sized e = (bits-passed e).0

  pub bits-clear : {values : List ℕ} → bits_check a b N bytes ≡ done values → (i : ℕ) → N ≤ i → bit_at bytes i ≡ 0
  bits-clear e = stray-clear N bytes (bits-passed e).1

  pub bits-unsized : length bytes ≢ block_bytes N → bits_check a b N bytes ≡ refused a 0
  bits-unsized other = bits-tests ∙ refuse-taken _ a 0 _ (ap not (ne_eqb _ _ other))

  -- a string of the right length is refused or passes by the second test
  past-length : length bytes ≡ block_bytes N → bits_check a b N bytes ≡ refuse_if (stray_bit N bytes) b 0 (done [])
  past-length fits = bits-tests ∙ refuse-passed _ a 0 _ (ap not (eq-eqb _ _ fits))

  bits-stray : length bytes ≡ block_bytes N → stray_bit N bytes ≡ true → bits_check a b N bytes ≡ refused b 0
  bits-stray fits some = past-length fits ∙ refuse-taken _ b 0 _ some

  bits-plain : length bytes ≡ block_bytes N → stray_bit N bytes ≡ false → bits_check a b N bytes ≡ done []
  bits-plain fits none = past-length fits ∙ refuse-passed _ b 0 _ none

  pub bits_back : length bytes ≡ block_bytes N → ((i : ℕ) → N ≤ i → bit_at bytes i ≡ 0) → bits_check a b N bytes ≡ done []
  bits_back fits clear = bits-plain fits (clear-stray N bytes (λ i h l. clear i h))

  -- ---- the outcome by the last byte, of which `spare` is the weight of bit N - 1: what lies below it comes after that bit

  module _ (fits : length bytes ≡ block_bytes N) where
    pub bits-whole : N % 8 ≡ 0 → bits_check a b N bytes ≡ done []
    bits-whole whole = bits-plain fits (stray-none N bytes fits (inl whole))

    pub bits-low-clear : (spare : ℕ) → spare ≡ 2 ^ (8 - N % 8) → get_or bytes (N / 8) 0 % spare ≡ 0 → bits_check a b N bytes ≡ done []
    bits-low-clear spare s low =
        bits-plain fits (stray-none N bytes fits (inr (ap (λ (m : ℕ). get_or bytes (N / 8) 0 % m) (sym s) ∙ low)))

    pub bits-low-set : (spare : ℕ) → spare ≡ 2 ^ (8 - N % 8) → get_or bytes (N / 8) 0 % spare ≢ 0 → bits_check a b N bytes ≡ refused b 0
    bits-low-set spare s low = bits-stray fits (stray-some N bytes (λ z. low (ap (λ (m : ℕ). get_or bytes (N / 8) 0 % m) s ∙ z)))

-- a refusal of the check is one of its two
pub bits-number : (a b N : ℕ) (bytes : List ℕ) {number place : ℕ} → bits_check a b N bytes ≡ refused number place → (number ≡ a) ⊎ (number ≡ b)
unfolding bits_check refuse_if
bits-number a b N bytes = go (not (eqb (length bytes) (block_bytes N))) (stray_bit N bytes)
  where
    go : (s t : Bool) {number place : ℕ} → refuse_if s a 0 (refuse_if t b 0 (done [])) ≡ refused number place → (number ≡ a) ⊎ (number ≡ b)
    go true t e = inl (cc)
    go false true e = inr (cc)
    go false false e = let z : ◌≡◌ {A = ℕ} 0 1 = cc in absurd (omega arith)

-- ---- blocks

module _ (N : ℕ) (block : List ℕ) where
  pub block-sized : {values : List ℕ} → block_check N block ≡ done values → length block ≡ block_bytes N
  block-sized = bits-sized 11 12 N block

  -- it has room for every bit
  pub block_room : {values : List ℕ} → block_check N block ≡ done values → N ≤ length block * 8
  block_room pass = rw (block-sized pass) (bytes-hold N)

  pub block-clear : {values : List ℕ} → block_check N block ≡ done values → (i : ℕ) → N ≤ i → bit_at block i ≡ 0
  block-clear = bits-clear 11 12 N block

  pub block_back : length block ≡ block_bytes N → ((i : ℕ) → N ≤ i → bit_at block i ≡ 0) → block_check N block ≡ done []
  block_back = bits_back 11 12 N block

pub block-ext : (N : ℕ) (a b : List ℕ) → Block N a → Block N b → ((i : ℕ) → i < N → bit_at a i ≡ bit_at b i) → a ≡ b
block-ext N a b r s same =
    bit_at-ext a b (block-sized N a r.checked ∙ sym (block-sized N b s.checked)) r.bytes s.bytes
    (λ i l. elim (dec_le N i) [ yes h ↦ block-clear N a r.checked i h ∙ sym (block-clear N b s.checked i h) | no h ↦ same i (omega arith) ])
