-- Numbers of blocks: a block of N bits is the number below 2^N whose digit i is the block's bit i, and a block's last 1 is its number's
-- highest digit.
--   block_of N x     the block of N bits whose bit i is digit i of x (specs Position)
--   bits_put x m l   the byte string l with its bits 0 .. m - 1 made the digits of x (specs Position)
--   number_of N f    the number of N digits whose digit i is f i
--   LastOne N f j   the last 1 among the bits f 0 .. f (N - 1) is at j (Elimination)
-- Laws are named by their subject, then by the fact: `number-` is about a number made from digits, `block_of-` about a block made
-- from a number, `block-number` leads from a block back to its number. At the end of a name, `-lt` is a bound, `-byte` says that every
-- byte is below 256, `-bit` and `-past` what a bit is, `-last` where the last 1 stands.
use Rattle.std.proofs.Common.{ℕ, zero, suc, ◌+◌, ◌-◌, ◌*◌, ◌/◌, ◌%◌, ◌^◌, ◌≤◌, ◌<◌, List, ⊎_elim, ◌≡◌, refl, sym, ap, ◌∙◌, le_of_lt}
use Rattle.std.proofs.Common.{lt_of_lt_of_le, le_refl, not-suc-le-zero, eq-or-lt_of_le, le_of_suc-le-suc, pow-suc, ne_of_lt, add-one, arith}
use Rattle.std.proofs.Common.{pow_mono, length, get_or, replicate}
use native.Mathlib.Nat.{div-eq_of_lt-le}
use native.Mathlib.Decide.{dec_le}
use lib.ListN.{length-replicate}
use Rattle.wiring.proofs.Blocks.{bytes-hold, block_back, block-ext}
use Rattle.bits.specs.Bit.{digit, word, bit_at, with_bit}
use Rattle.bits.proofs.Lists.{zeros-at}
use Rattle.bits.proofs.Xor.{digit_lt, digit-zero, digit-high, digit-ext}
use Rattle.bits.proofs.Words.{word_lt, word-digit}
use Rattle.bits.proofs.Bytes.{bit_at_lt, bit_at-same, bit_at-other, length-with_bit, with_bit-byte}
use Rattle.wiring.specs.Block.{block_bytes, Block}
use Rattle.messages.specs.Position.{bits_put, block_of}
use Rattle.messages.proofs.Elimination.{Bits, LastOne}

-- ---- a number from its digits

unfoldable pub number_of : ℕ → (ℕ → ℕ) → ℕ
number_of N f = word N (λ j. f (N - 1 - j))

pub number_lt : (N : ℕ) (f : ℕ → ℕ) → Bits N f → number_of N f < 2 ^ N
unfolding number_of
number_lt N f bits = word_lt N _ (λ j l. bits (N - 1 - j) (omega arith))

pub number-digit : (N : ℕ) (f : ℕ → ℕ) → Bits N f → (i : ℕ) → i < N → digit (number_of N f) i ≡ f i
unfolding number_of
number-digit N f bits i l =
    let back : N - 1 - (N - 1 - i) ≡ i = omega arith in
    rw back at (word-digit N (λ j. f (N - 1 - j)) (λ j k. bits (N - 1 - j) (omega arith)) (N - 1 - i) (omega arith))

-- ---- the last 1: it is at j exactly if the number is at least 2^j and below 2^(j + 1)

pub digit-last : (N x j : ℕ) → 2 ^ j ≤ x → x < 2 ^ suc j → LastOne N (digit x) j
unfolding digit
digit-last N x j low high =
    record {
      one_at = ap (λ (y : ℕ). y % 2) (div-eq_of_lt-le {k = 1} (2 ^ j) (omega arith) (omega (arith, pow-suc 2 j)));
      none_after = λ e l _. digit-high (suc j) x e high l;
    }

pub number-last : (N : ℕ) (f : ℕ → ℕ) (j : ℕ) → Bits N f → j < N → LastOne N f j → LastOne N (digit (number_of N f)) j
number-last N f j bits l last =
    record {
      one_at = number-digit N f bits j l ∙ last.one_at;
      none_after = λ e b k. number-digit N f bits e k ∙ last.none_after e b k;
    }

pub last-low : (N x j : ℕ) → LastOne N (digit x) j → 2 ^ j ≤ x
last-low N x j last =
    elim (dec_le (2 ^ j) x) [
      | yes h ↦ h
      | no h ↦ absurd (omega (arith, last.one_at, digit-high j x j (omega arith) (le_refl j)))
    ]

pub last-high : (N x j : ℕ) → x < 2 ^ N → j < N → LastOne N (digit x) j → x < 2 ^ suc j
last-high N x j h l last = rw same low-digits-lt
  where
    low-digits : ℕ
    low-digits = number_of (suc j) (digit x)

    low-digits-lt : low-digits < 2 ^ suc j
    low-digits-lt = number_lt (suc j) (digit x) (λ e _. digit_lt x e)

    digits : (e : ℕ) → e < N → digit x e ≡ digit low-digits e
    digits e k =
        elim (dec_le e j) [
          | yes b ↦ sym (number-digit (suc j) (digit x) (λ i _. digit_lt x i) e (omega arith))
          | no b ↦ last.none_after e (omega arith) k ∙ sym (digit-high (suc j) low-digits e low-digits-lt (omega arith))
        ]

    same : x ≡ low-digits
    same = digit-ext N x low-digits h (lt_of_lt_of_le low-digits-lt (pow_mono l)) digits

-- ---- a block from its number

pub bits_put-none : (x : ℕ) (block : List ℕ) → bits_put x 0 block ≡ block
unfolding bits_put
bits_put-none x block = refl

pub bits_put-one-more : (x m : ℕ) (block : List ℕ) → bits_put x (m + 1) block ≡ with_bit (bits_put x m block) m (digit x m)
unfolding bits_put
bits_put-one-more x m block = rw add-one

pub length-bits_put : (x m : ℕ) (block : List ℕ) → length (bits_put x m block) ≡ length block
unfolding bits_put
length-bits_put x zero block = refl
length-bits_put x (suc m) block = length-with_bit (bits_put x m block) m (digit x m) ∙ length-bits_put x m block

bits_put-byte : (x m : ℕ) (block : List ℕ) → ((k : ℕ) → get_or block k 0 < 256) → (k : ℕ) → get_or (bits_put x m block) k 0 < 256
unfolding bits_put
bits_put-byte x zero block small = small
bits_put-byte x (suc m) block small = with_bit-byte (bits_put x m block) m (digit x m) (digit_lt x m) (bits_put-byte x m block small)

bits_put-past : (x m : ℕ) (block : List ℕ) (i : ℕ) → m ≤ i → bit_at (bits_put x m block) i ≡ bit_at block i
unfolding bits_put
bits_put-past x zero block i l = refl
bits_put-past x (suc m) block i l =
    bit_at-other (bits_put x m block) m i (digit x m) (ne_of_lt l) (digit_lt x m) ∙ bits_put-past x m block i (le_of_lt l)

bits_put-bit : (x m : ℕ) (block : List ℕ) → m ≤ length block * 8 → (i : ℕ) → i < m → bit_at (bits_put x m block) i ≡ digit x i
unfolding bits_put
bits_put-bit x zero block fits i l = absurd (not-suc-le-zero l)
bits_put-bit x (suc m) block fits i l =
    ⊎_elim (λ (e : i ≡ m). rw e (bit_at-same (bits_put x m block) m (digit x m) (rw length-bits_put fits) (digit_lt x m)))
    (λ (b : i < m).
    bit_at-other (bits_put x m block) m i (digit x m) (λ q. ne_of_lt b (sym q)) (digit_lt x m) ∙ bits_put-bit x m block (le_of_lt fits) i b)
    (eq-or-lt_of_le (le_of_suc-le-suc l))

pub zeros-bit : (n i : ℕ) → bit_at (replicate n 0) i ≡ 0
unfolding bit_at
zeros-bit n i = ap (λ (x : ℕ). digit x (7 - i % 8)) (zeros-at n (i / 8)) ∙ digit-zero (7 - i % 8)

module _ (N x : ℕ) where
  pub block_of-is : block_of N x ≡ bits_put x N (replicate (block_bytes N) 0)
  unfolding block_of
  block_of-is = refl

  length-block_of : length (block_of N x) ≡ block_bytes N
  unfolding block_of
  length-block_of = length-bits_put x N _ ∙ length-replicate (block_bytes N) 0

  block_of-byte : (k : ℕ) → get_or (block_of N x) k 0 < 256
  unfolding block_of
  block_of-byte = bits_put-byte x N _ (λ k. omega (arith, zeros-at (block_bytes N) k))

  pub block_of-bit : (i : ℕ) → i < N → bit_at (block_of N x) i ≡ digit x i
  unfolding block_of
  block_of-bit = bits_put-bit x N _ (rw length-replicate (bytes-hold N))

  block_of-past : (i : ℕ) → N ≤ i → bit_at (block_of N x) i ≡ 0
  unfolding block_of
  block_of-past i l = bits_put-past x N _ i l ∙ zeros-bit (block_bytes N) i

  pub block_of-block : Block N (block_of N x)
  block_of-block = record { bytes = block_of-byte; checked = block_back N (block_of N x) length-block_of block_of-past }

-- ---- a block's number

pub block-number : (N : ℕ) (block : List ℕ) → Block N block → block_of N (number_of N (bit_at block)) ≡ block
block-number N block b =
    block-ext N _ block (block_of-block N _) b
    (λ i l. block_of-bit N _ i l ∙ number-digit N (bit_at block) (λ k _. bit_at_lt block k) i l)
