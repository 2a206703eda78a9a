-- Windows: a few bits in a row, read out of the three bytes that hold them.
--   word_at bytes i d   the number that the d bits from bit i on make, bit i of the highest weight (specs Window)
-- Laws are named by their subject, then by the fact: `digit-` is about one binary digit of a number that is cut or put together,
-- `shifted-` about a 1 that the code shifts.
use Rattle.std.proofs.Common.{◌≡◌, sym, ap, ap₂, ◌∙◌, ℕ, ◌+◌, ◌-◌, ◌*◌, ◌/◌, ◌%◌, ◌^◌, ◌≤◌, ◌<◌, List, mod-lt, arith, get_or, pow_pos}
use Rattle.std.proofs.Common.{shl_exact, shr-shr}
use native.Mathlib.Decide.{dec_le}
use lib.Pow.{shl-shr, field, mod-mod-pow, high, low}
use Rattle.bits.specs.Window.{word_at}
use Rattle.bits.specs.Bit.{digit, bit_at, pair_at}
use Rattle.bits.proofs.Words.{word-ext, word-digits}

-- ---- digits of a number that is cut or put together

pub digit_low : (x k j : ℕ) → j < k → digit (x % 2 ^ k) j ≡ digit x j
unfolding digit
digit_low x k j h =
    let above : k ≡ k - 1 - j + 1 + j = omega arith in
    ap (λ (m : ℕ). x % 2 ^ m / 2 ^ j % 2) above ∙ ap (λ (y : ℕ). y % 2) (field x (k - 1 - j + 1) j) ∙ mod-mod-pow (x / 2 ^ j) (k - 1 - j) 1

pub digit-shifted : (x k j : ℕ) → digit (x / 2 ^ k) j ≡ digit x (k + j)
unfolding digit
digit-shifted x k j = ap (λ (y : ℕ). y % 2) (shr-shr x k j)

-- the high part of a number, and its low part
digit-above : (a b k j : ℕ) → b < 2 ^ k → digit (a * 2 ^ k + b) (k + j) ≡ digit a j
digit-above a b k j h = sym (digit-shifted (a * 2 ^ k + b) k j) ∙ ap (λ (y : ℕ). digit y j) (high a k h)

digit-below : (a b k j : ℕ) → b < 2 ^ k → j < k → digit (a * 2 ^ k + b) j ≡ digit b j
digit-below a b k j h l = sym (digit_low (a * 2 ^ k + b) k j l) ∙ ap (λ (y : ℕ). digit y j) (low a k h)

-- a digit of a byte, moved to weight 128 in a number of w bits
pub digit-moved : (w x k : ℕ) → 15 ≤ w → x < 256 → k < 8 → (x * 2 ^ k) % 2 ^ w / 128 % 2 ≡ digit x (7 - k)
unfolding digit
digit-moved w x k wide small below =
    let seven : k + (7 - k) ≡ 7 = omega arith in
    ap (λ (y : ℕ). y / 128 % 2) (shl_exact {a = x} 8 k w small (omega arith))
    ∙ ap (λ (m : ℕ). x * 2 ^ k / 2 ^ m % 2) (sym seven)
    ∙ ap (λ (y : ℕ). y % 2) (sym (shr-shr (x * 2 ^ k) k (7 - k)) ∙ ap (λ (y : ℕ). y / 2 ^ (7 - k)) (shl-shr x k))

-- ---- a power of two, as the code makes it: a 1 that is shifted inside a number of w bits

pub shifted_one : (b w : ℕ) → b < w → (1 * 2 ^ b) % 2 ^ w ≡ 2 ^ b
shifted_one b w h = shl_exact {a = 1} 1 b w (omega arith) (omega arith) ∙ omega arith

-- ---- three bytes

module _ (bytes : List ℕ) (q : ℕ) (middle : get_or bytes (q + 1) 0 < 256) (last : get_or bytes (q + 2) 0 < 256) where
  abbrev window : ℕ
  window = get_or bytes q 0 * 65536 + get_or bytes (q + 1) 0 * 256 + get_or bytes (q + 2) 0

  -- bit i of the byte string from byte q on, where it stands in the byte q + m
  placed : (i m : ℕ) → m ≡ i / 8 → digit (get_or bytes (q + m) 0) (7 - i % 8) ≡ bit_at bytes (q * 8 + i)
  unfolding bit_at
  placed i m e =
      ap (λ (k : ℕ). digit (get_or bytes k 0) (7 - i % 8)) (omega arith) ∙ ap (digit (get_or bytes ((q * 8 + i) / 8) 0)) (omega arith)

  window-digit : (i : ℕ) → i < 24 → digit window (23 - i) ≡ bit_at bytes (q * 8 + i)
  window-digit i h =
      elim (dec_le 8 i) [
        | no early ↦
            ap (digit window) (omega arith)
            ∙ ap (λ (y : ℕ). digit y (16 + (7 - i))) (omega arith)
            ∙ digit-above (get_or bytes q 0) (get_or bytes (q + 1) 0 * 256 + get_or bytes (q + 2) 0) 16 (7 - i) (omega arith)
            ∙ ap₂ (λ (k j : ℕ). digit (get_or bytes k 0) j) (omega arith) (omega arith) ∙ placed i 0 (omega arith)
        | yes rest ↦
            elim (dec_le 16 i) [
              | no central ↦
                  ap (digit window) (omega arith)
                  ∙ ap (λ (y : ℕ). digit y (8 + (15 - i))) (omega arith)
                  ∙ digit-above (get_or bytes q 0 * 256 + get_or bytes (q + 1) 0) (get_or bytes (q + 2) 0) 8 (15 - i) (omega arith)
                  ∙ digit-below (get_or bytes q 0) (get_or bytes (q + 1) 0) 8 (15 - i) (omega arith) (omega arith)
                  ∙ ap (digit (get_or bytes (q + 1) 0)) (omega arith) ∙ placed i 1 (omega arith)
              | yes late ↦
                  ap (λ (y : ℕ). digit y (23 - i)) (omega arith)
                  ∙ digit-below (get_or bytes q 0 * 256 + get_or bytes (q + 1) 0) (get_or bytes (q + 2) 0) 8 (23 - i) (omega arith) (omega arith)
                  ∙ ap (digit (get_or bytes (q + 2) 0)) (omega arith) ∙ placed i 2 (omega arith)
            ]
      ]

-- the bits from bit i on, cut out of the three bytes from byte i / 8 on
pub word_at-window : (bytes : List ℕ) (i d : ℕ) → d ≤ 16 → get_or bytes (i / 8 + 1) 0 < 256 → get_or bytes (i / 8 + 2) 0 < 256
    → (get_or bytes (i / 8) 0 * 65536 + get_or bytes (i / 8 + 1) 0 * 256 + get_or bytes (i / 8 + 2) 0) / 2 ^ (24 - i % 8 - d) % 2 ^ d ≡ word_at bytes i d
unfolding word_at
word_at-window bytes i d narrow middle last =
    let x : ℕ = get_or bytes (i / 8) 0 * 65536 + get_or bytes (i / 8 + 1) 0 * 256 + get_or bytes (i / 8 + 2) 0 in
    let cut : ℕ = x / 2 ^ (24 - i % 8 - d) % 2 ^ d in
    sym (word-digits d cut (mod-lt _ (pow_pos d)))
    ∙ word-ext d (λ j. digit cut (d - 1 - j)) (λ j. bit_at bytes (i + j))
    (λ j l.
    digit_low (x / 2 ^ (24 - i % 8 - d)) d (d - 1 - j) (omega arith) ∙ digit-shifted x (24 - i % 8 - d) (d - 1 - j)
    ∙ ap (digit x) (omega arith) ∙ window-digit bytes (i / 8) middle last (i % 8 + j) (omega arith) ∙ ap (bit_at bytes) (omega arith))

-- whole bytes
module _ (bytes : List ℕ) (i : ℕ) (whole : i % 8 ≡ 0) (small : (k : ℕ) → get_or bytes k 0 < 256) where
  pub word_at-byte : word_at bytes i 8 ≡ get_or bytes (i / 8) 0
  word_at-byte =
      let from : 24 - i % 8 - 8 ≡ 16 = omega arith in
      sym (word_at-window bytes i 8 (omega arith) (small (i / 8 + 1)) (small (i / 8 + 2)))
      ∙ rw from (omega (arith, small (i / 8), small (i / 8 + 1), small (i / 8 + 2)))

  pub word_at-pair : word_at bytes i 16 ≡ pair_at bytes (i / 8)
  unfolding pair_at
  word_at-pair =
      let from : 24 - i % 8 - 16 ≡ 8 = omega arith in
      sym (word_at-window bytes i 16 (omega arith) (small (i / 8 + 1)) (small (i / 8 + 2)))
      ∙ rw from (omega (arith, small (i / 8), small (i / 8 + 1), small (i / 8 + 2)))
