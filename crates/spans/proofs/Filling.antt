-- Lost bits, and a block with all of them made 0 or 1, by one bit after the other and by one pair after the other.
--   is_lost lost i               bit i is in a span (specs Spans)
--   filled_below b lost m block  the block with every lost bit below bit m made b (specs Spans)
--   filled b lost block         the block with every lost bit made b (specs Spans)
--   made b from m block         the block with the m bits from bit `from` on made b (specs Walking)
--   pairs_made b lost m block    the block with the bits of the first m pairs made b (specs Walking)
--   covers lost i j             bit i is in pair j: the test of is_lost
--   Missed lost i j             bit i is before pair j or behind it
--   made_if t b i block          the block with bit i made b where the test t holds
-- Laws are named by their subject, then by the fact: `end-` is about the end of a pair, `cover-` about one pair and one bit, `lost-` and
-- `missed-` about is_lost, `if-` about made_if, `below-` about filled_below, `made-`, `pairs_made-` and `filled-` about the blocks of these names,
-- `stored-` about a block with one byte stored, `bytes-` about whole bytes made one after the other. At the end of a name, `-inside` and `-lost`
-- are the bits that are made b, `-outside` and `-kept` those that stay, `-other` all but the one that is written, `-past` what lies past the
-- end, `-bytes` says that bytes stay bytes.
use Rattle.std.proofs.Common.{ℕ, zero, suc, ◌+◌, ◌-◌, ◌*◌, ◌/◌, ◌%◌, ◌≤◌, ◌<◌, Bool, true, false, cond, ◌&&◌, true≢false, List, [], ◌⊎◌}
use Rattle.std.proofs.Common.{inl, inr, ⊎_elim, ◌≡◌, refl, sym, ap, ◌∙◌, lt-suc_self, not-suc-le-zero, eq-or-lt_of_le, le_of_suc-le-suc}
use Rattle.std.proofs.Common.{add-zero, add-suc, add-one, arith, ltb, leb, length, get_or, set, length-set, get_or-set_same}
use Rattle.std.proofs.Common.{get_or-set_other, leb-true, ltb-true, le-leb, lt-ltb, le-ltb}
use mathlib.Core.Bool.{and-false}
use mathlib.Core.Logic.{◌≢◌}
use native.Mathlib.Nat.{le_step}
use native.Mathlib.Decide.{dec_le, ℕ_discrete}
use borrow.Author.Tests.{lt-leb}
use Rattle.bits.specs.Bit.{digit, word, bit_at, with_bit}
use Rattle.bits.specs.Search.{some_below}
use Rattle.bits.proofs.Bytes.{bit_at-ext, bit_at-same, bit_at-other, length-with_bit, with_bit-byte, with_bit-past}
use Rattle.bits.proofs.Searches.{some-below, some-found, none_below}
use Rattle.bits.proofs.Tests.{and_both}
use Rattle.bits.proofs.Words.{word-digit}
use Rattle.spans.specs.Spans.{pair_count, start_of, length_of, end_of, is_lost, filled_below, filled}
use Rattle.spans.specs.Walking.{made, pairs_made}

-- ---- one pair and one bit

abbrev covers : List ℕ → ℕ → ℕ → Bool
covers lost i j = leb (start_of lost j) i && ltb i (end_of lost j)

abbrev pub Missed : List ℕ → ℕ → ℕ → Type 0
Missed lost i j = (i < start_of lost j) ⊎ (end_of lost j ≤ i)

pub end_is : (lost : List ℕ) (j : ℕ) → end_of lost j ≡ start_of lost j + length_of lost j
unfolding end_of
end_is lost j = refl

cover-in : (lost : List ℕ) (i j : ℕ) → start_of lost j ≤ i → i < end_of lost j → covers lost i j ≡ true
cover-in lost i j h l = rw (le-leb _ _ h, lt-ltb _ _ l)

cover-found : (lost : List ℕ) (i j : ℕ) → covers lost i j ≡ true → (start_of lost j ≤ i) × (i < end_of lost j)
cover-found lost i j e = let (s, t) = and_both _ _ e in (leb-true _ _ s, ltb-true _ _ t)

cover-missed : (lost : List ℕ) (i j : ℕ) → Missed lost i j → covers lost i j ≡ false
cover-missed lost i j (inl h) = rw (lt-leb _ _ h)
cover-missed lost i j (inr h) = rw (le-ltb _ _ h) (and-false (leb (start_of lost j) i))

cover-either : (lost : List ℕ) (i j : ℕ) → ((start_of lost j ≤ i) × (i < end_of lost j)) ⊎ Missed lost i j
cover-either lost i j =
    elim (dec_le (start_of lost j) i) [
      | no early ↦ inr (inl (omega arith))
      | yes h ↦ elim (dec_le (end_of lost j) i) [ yes late ↦ inr (inr late) | no l ↦ inl (h, omega arith) ]
    ]

-- ---- lost bits

module _ (lost : List ℕ) (i : ℕ) where
  lost-test : is_lost lost i ≡ some_below (pair_count lost) (covers lost i)
  unfolding is_lost
  lost-test = refl

  pub lost-in : (j : ℕ) → j < pair_count lost → start_of lost j ≤ i → i < end_of lost j → is_lost lost i ≡ true
  lost-in j b h l = lost-test ∙ some-below _ _ j b (cover-in lost i j h l)

  pub lost-found : is_lost lost i ≡ true → (j : ℕ) × (j < pair_count lost) × (start_of lost j ≤ i) × (i < end_of lost j)
  lost-found e =
      let (j, b, t) = some-found _ (covers lost i) (sym lost-test ∙ e) in
      let (h, l) = cover-found lost i j t in
      (j, b, h, l)

  pub lost-missed : ((j : ℕ) → j < pair_count lost → Missed lost i j) → is_lost lost i ≡ false
  lost-missed all = lost-test ∙ none_below _ _ (λ j b. cover-missed lost i j (all j b))

  missed-each : is_lost lost i ≡ false → (j : ℕ) → j < pair_count lost → Missed lost i j
  missed-each e j b =
      ⊎_elim (λ t. absurd (true≢false (sym (lost-in j b t.0 t.1) ∙ e))) (λ (m : Missed lost i j). m) (cover-either lost i j)

pub lost-none : (i : ℕ) → is_lost [] i ≡ false
unfolding is_lost
lost-none i = refl

-- ---- one bit

abbrev made_if : Bool → ℕ → ℕ → List ℕ → List ℕ
made_if t b i block = cond t (with_bit block i b) block

length-if : (t : Bool) (b i : ℕ) (block : List ℕ) → length (made_if t b i block) ≡ length block
length-if true b i block = length-with_bit block i b
length-if false b i block = refl

if-bytes : (t : Bool) (b i : ℕ) (block : List ℕ) → b < 2 → ((k : ℕ) → get_or block k 0 < 256) → (k : ℕ) → get_or (made_if t b i block) k 0 < 256
if-bytes true b i block h small = with_bit-byte block i b h small
if-bytes false b i block h small = small

if-other : (t : Bool) (b i : ℕ) (block : List ℕ) → b < 2 → (k : ℕ) → i ≢ k → bit_at (made_if t b i block) k ≡ bit_at block k
if-other true b i block h k ne = bit_at-other block i k b ne h
if-other false b i block h k ne = refl

if-passed : (t : Bool) (b i : ℕ) (block : List ℕ) → t ≡ false → made_if t b i block ≡ block
if-passed t b i block e = rw e

if-taken : (t : Bool) (b i : ℕ) (block : List ℕ) → t ≡ true → b < 2 → i < length block * 8 → bit_at (made_if t b i block) i ≡ b
if-taken t b i block e h l = rw e (bit_at-same block i b l h)

-- ---- bit after bit

module _ (b : ℕ) (lost block : List ℕ) where
  length-below : (m : ℕ) → length (filled_below b lost m block) ≡ length block
  unfolding filled_below
  length-below zero = refl
  length-below (suc m) = length-if (is_lost lost m) b m (filled_below b lost m block) ∙ length-below m

  pub length-filled : length (filled b lost block) ≡ length block
  unfolding filled
  length-filled = length-below (length block * 8)

  module _ (bit : b < 2) where
    below-bytes : ((k : ℕ) → get_or block k 0 < 256) → (m k : ℕ) → get_or (filled_below b lost m block) k 0 < 256
    unfolding filled_below
    below-bytes small zero = small
    below-bytes small (suc m) = if-bytes (is_lost lost m) b m (filled_below b lost m block) bit (below-bytes small m)

    pub filled-bytes : ((k : ℕ) → get_or block k 0 < 256) → (k : ℕ) → get_or (filled b lost block) k 0 < 256
    unfolding filled
    filled-bytes small = below-bytes small (length block * 8)

    below-kept : (m i : ℕ) → is_lost lost i ≡ false → bit_at (filled_below b lost m block) i ≡ bit_at block i
    unfolding filled_below
    below-kept zero i e = refl
    below-kept (suc m) i e =
        elim (ℕ_discrete m i) [
          | yes q ↦ ap (λ (l : List ℕ). bit_at l i) (if-passed (is_lost lost m) b m _ (rw q e)) ∙ below-kept m i e
          | no q ↦ if-other (is_lost lost m) b m _ bit i q ∙ below-kept m i e
        ]

    pub filled-kept : (i : ℕ) → is_lost lost i ≡ false → bit_at (filled b lost block) i ≡ bit_at block i
    unfolding filled
    filled-kept = below-kept (length block * 8)

    below-lost : (m i : ℕ) → i < m → i < length block * 8 → is_lost lost i ≡ true → bit_at (filled_below b lost m block) i ≡ b
    unfolding filled_below
    below-lost zero i l inside e = absurd (not-suc-le-zero l)
    below-lost (suc m) i l inside e =
        elim (eq-or-lt_of_le (le_of_suc-le-suc l)) [
          | inl q ↦ rw q (if-taken (is_lost lost m) b m (filled_below b lost m block) (rw q at e) bit (omega (arith, length-below m)))
          | inr k ↦ if-other (is_lost lost m) b m _ bit i (λ q. omega arith) ∙ below-lost m i k inside e
        ]

    pub filled-lost : (i : ℕ) → i < length block * 8 → is_lost lost i ≡ true → bit_at (filled b lost block) i ≡ b
    unfolding filled
    filled-lost i inside e = below-lost (length block * 8) i inside inside e

below_none : (b : ℕ) (block : List ℕ) (m : ℕ) → filled_below b [] m block ≡ block
unfolding filled_below
below_none b block zero = refl
below_none b block (suc m) = if-passed (is_lost [] m) b m _ (lost-none m) ∙ below_none b block m

pub filled_none : (b : ℕ) (block : List ℕ) → filled b [] block ≡ block
unfolding filled
filled_none b block = below_none b block (length block * 8)

-- ---- bits in a row

module _ (b from : ℕ) where
  pub made_none : (block : List ℕ) → made b from 0 block ≡ block
  unfolding made
  made_none block = refl

  pub made-one-more : (m : ℕ) (block : List ℕ) → made b from (m + 1) block ≡ with_bit (made b from m block) (from + m) b
  unfolding made
  made-one-more m block = rw add-one

  pub length-made : (m : ℕ) (block : List ℕ) → length (made b from m block) ≡ length block
  unfolding made
  length-made zero block = refl
  length-made (suc m) block = length-with_bit (made b from m block) (from + m) b ∙ length-made m block

  made-append : (m n : ℕ) (block : List ℕ) → made b from (m + n) block ≡ made b (from + m) n (made b from m block)
  unfolding made
  made-append m zero block = rw add-zero
  made-append m (suc n) block =
      rw (add-suc, made-append m n block) (ap (λ (i : ℕ). with_bit (made b (from + m) n (made b from m block)) i b) (omega arith))

  made-past : (m : ℕ) (block : List ℕ) → length block * 8 ≤ from → made b from m block ≡ block
  unfolding made
  made-past zero block h = refl
  made-past (suc m) block h = with_bit-past (made b from m block) (from + m) b (omega (arith, length-made m block)) ∙ made-past m block h

  module _ (bit : b < 2) where
    made_bytes : (m : ℕ) (block : List ℕ) → ((k : ℕ) → get_or block k 0 < 256) → (k : ℕ) → get_or (made b from m block) k 0 < 256
    unfolding made
    made_bytes zero block small = small
    made_bytes (suc m) block small = with_bit-byte (made b from m block) (from + m) b bit (made_bytes m block small)

    made-outside : (m : ℕ) (block : List ℕ) (i : ℕ) → (i < from) ⊎ (from + m ≤ i) → bit_at (made b from m block) i ≡ bit_at block i
    unfolding made
    made-outside zero block i out = refl
    made-outside (suc m) block i out =
        let (apart, rest) = ⊎_elim {C = (from + m ≢ i) × ((i < from) ⊎ (from + m ≤ i))}
        (λ h. ((λ q. omega arith), inl h)) (λ h. ((λ q. omega arith), inr (omega arith))) out in
        bit_at-other (made b from m block) (from + m) i b apart bit ∙ made-outside m block i rest

    made_inside : (m : ℕ) (block : List ℕ) (i : ℕ) → from ≤ i → i < from + m → i < length block * 8 → bit_at (made b from m block) i ≡ b
    unfolding made
    made_inside zero block i h l inside = absurd (omega arith)
    made_inside (suc m) block i h l inside =
        elim (ℕ_discrete (from + m) i) [
          | yes q ↦ rw (← q) (bit_at-same (made b from m block) (from + m) b (omega (arith, length-made m block)) bit)
          | no q ↦ bit_at-other (made b from m block) (from + m) i b q bit ∙ made_inside m block i h (omega arith) inside
        ]

-- ---- whole bytes, and bits before and behind them

-- made-append with the bits to stop before, as code has them
made-on : (b from middle to : ℕ) (block : List ℕ) → from ≤ middle → middle ≤ to
    → made b middle (to - middle) (made b from (middle - from) block) ≡ made b from (to - from) block
made-on b from middle to block low high =
    let all : to - from ≡ middle - from + (to - middle) = omega arith in
    let here : from + (middle - from) ≡ middle = omega arith in
    sym (rw (all, made-append b from (middle - from) (to - middle) block, here))

-- what `make` does in three steps
pub made-parts : (b from first last to : ℕ) (block : List ℕ) {one two three : List ℕ} → from ≤ 8 * first → first ≤ last → 8 * last ≤ to
    → one ≡ made b from (8 * first - from) block → two ≡ made b (8 * first) (8 * (last - first)) one
    → three ≡ made b (8 * last) (to - 8 * last) two → three ≡ made b from (to - from) block
made-parts b from first last to block {one} {two} {three} low middle high head bytes tail =
    let long : 8 * (last - first) ≡ 8 * last - 8 * first = omega arith in
    let both : two ≡ made b from (8 * last - from) block =
    bytes ∙ rw (long, head) (made-on b from (8 * first) (8 * last) block low (omega arith)) in
    tail ∙ ap (made b (8 * last) (to - 8 * last)) both ∙ made-on b from (8 * last) to block (omega arith) high

-- all digits of the byte that `make_bytes` stores
all_digits : (b j : ℕ) → b < 2 → j < 8 → digit (b * 255) (7 - j) ≡ b
unfolding word
all_digits b j h l = let all : word 8 (λ i. b) ≡ b * 255 = omega arith in rw all at (word-digit 8 (λ i. b) (λ i k. h) j l)

module _ (b i : ℕ) (block : List ℕ) (bit : b < 2) (inside : i < length block) where
  stored_bytes : ((k : ℕ) → get_or block k 0 < 256) → (k : ℕ) → get_or (set block i (b * 255)) k 0 < 256
  stored_bytes small k =
      elim (ℕ_discrete k i) [
        | yes q ↦ rw (q, get_or-set_same block i (b * 255) 0 inside) (omega arith)
        | no q ↦ rw (get_or-set_other block i k (b * 255) 0 q) (small k)
      ]

  stored_same : (e : ℕ) → e / 8 ≡ i → bit_at (set block i (b * 255)) e ≡ b
  unfolding bit_at
  stored_same e q =
      ap (λ (x : ℕ). digit x (7 - e % 8)) (rw q (get_or-set_same block i (b * 255) 0 inside)) ∙ all_digits b (e % 8) bit (omega arith)

  stored_other : (e : ℕ) → e / 8 ≢ i → bit_at (set block i (b * 255)) e ≡ bit_at block e
  unfolding bit_at
  stored_other e q = ap (λ (x : ℕ). digit x (7 - e % 8)) (get_or-set_other block i (e / 8) (b * 255) 0 q)

  apart : (e : ℕ) → e / 8 ≢ i → (e < 8 * i) ⊎ (8 * i + 8 ≤ e)
  apart e q = elim (dec_le (8 * i) e) [ yes h ↦ inr (omega arith) | no h ↦ inl (omega arith) ]

  -- a byte that is stored is its eight bits made b
  made-byte : ((k : ℕ) → get_or block k 0 < 256) → set block i (b * 255) ≡ made b (8 * i) 8 block
  made-byte small =
      bit_at-ext _ _ (length-set block i (b * 255) ∙ sym (length-made b (8 * i) 8 block)) (stored_bytes small)
      (made_bytes b (8 * i) bit 8 block small)
      (λ e l.
      elim (ℕ_discrete (e / 8) i) [
        | yes q ↦ stored_same e q ∙ sym (made_inside b (8 * i) bit 8 block e (omega arith) (omega arith) (rw length-set at l))
        | no q ↦ stored_other e q ∙ sym (made-outside b (8 * i) bit 8 block e (apart e q))
      ])

-- the next byte, where those from `first` to before i are made, and all up to `last` where the block ends
module _ (b first i : ℕ) (before block : List ℕ) (low : first ≤ i) (is : block ≡ made b (8 * first) (8 * (i - first)) before) where
  bytes_next : made b (8 * i) 8 block ≡ made b (8 * first) (8 * (i + 1 - first)) before
  bytes_next =
      let more : 8 * (i + 1 - first) ≡ 8 * (i - first) + 8 = omega arith in
      let here : 8 * first + 8 * (i - first) ≡ 8 * i = omega arith in
      ap (made b (8 * i) 8) is ∙ sym (rw (more, made-append b (8 * first) (8 * (i - first)) 8 before, here))

  pub bytes-stored : b < 2 → i < length block → ((k : ℕ) → get_or before k 0 < 256)
      → set block i (b * 255) ≡ made b (8 * first) (8 * (i + 1 - first)) before
  bytes-stored bit inside small =
      made-byte b i block bit inside (rw is (made_bytes b (8 * first) bit (8 * (i - first)) before small)) ∙ bytes_next

  pub bytes-end : (last : ℕ) → i ≤ last → (i < last → length block ≤ i) → block ≡ made b (8 * first) (8 * (last - first)) before
  bytes-end last high past =
      elim (dec_le last i) [
        | yes h ↦ let same : last ≡ i = omega arith in rw same is
        | no h ↦
            let split : 8 * (last - first) ≡ 8 * (i - first) + 8 * (last - i) = omega arith in
            let here : 8 * first + 8 * (i - first) ≡ 8 * i = omega arith in
            sym (rw (split, made-append b (8 * first) (8 * (i - first)) (8 * (last - i)) before, here, ← is)
            (made-past b (8 * i) (8 * (last - i)) block (omega (arith, past (omega arith)))))
      ]

-- ---- pair after pair

module _ (b : ℕ) (lost block : List ℕ) where
  pub pairs_made-zero : pairs_made b lost 0 block ≡ block
  unfolding pairs_made
  pairs_made-zero = refl

  pairs_made-one-more : (j : ℕ) → pairs_made b lost (j + 1) block ≡ made b (start_of lost j) (length_of lost j) (pairs_made b lost j block)
  unfolding pairs_made
  pairs_made-one-more j = ap (λ (m : ℕ). pairs_made b lost m block) (add-one j)

  -- the next pair, with the bit to stop before
  pub pairs_made-next : (j start size : ℕ) (now : List ℕ) → start ≡ start_of lost j → size ≡ length_of lost j → now ≡ pairs_made b lost j block
      → made b start (start + size - start) now ≡ pairs_made b lost (j + 1) block
  pairs_made-next j start size now s e is =
      let long : start + size - start ≡ length_of lost j = omega arith in sym (pairs_made-one-more j ∙ rw (long, s, is))

  pub length-pairs_made : (m : ℕ) → length (pairs_made b lost m block) ≡ length block
  unfolding pairs_made
  length-pairs_made zero = refl
  length-pairs_made (suc m) = length-made b (start_of lost m) (length_of lost m) (pairs_made b lost m block) ∙ length-pairs_made m

  module _ (bit : b < 2) where
    pairs_made-bytes : ((k : ℕ) → get_or block k 0 < 256) → (m k : ℕ) → get_or (pairs_made b lost m block) k 0 < 256
    unfolding pairs_made
    pairs_made-bytes small zero = small
    pairs_made-bytes small (suc m) = made_bytes b (start_of lost m) bit (length_of lost m) (pairs_made b lost m block) (pairs_made-bytes small m)

    pairs_made-outside : (m i : ℕ) → Missed lost i m → bit_at (pairs_made b lost (suc m) block) i ≡ bit_at (pairs_made b lost m block) i
    unfolding pairs_made
    pairs_made-outside m i missed = made-outside b (start_of lost m) bit (length_of lost m) (pairs_made b lost m block) i (rw end_is at missed)

    pairs_made-kept : (m i : ℕ) → ((j : ℕ) → j < m → Missed lost i j) → bit_at (pairs_made b lost m block) i ≡ bit_at block i
    pairs_made-kept zero i all = ap (λ (l : List ℕ). bit_at l i) pairs_made-zero
    pairs_made-kept (suc m) i all = pairs_made-outside m i (all m (lt-suc_self m)) ∙ pairs_made-kept m i (λ j l. all j (le_step l))

    pairs_made-inside : (m i : ℕ) → start_of lost m ≤ i → i < end_of lost m → i < length block * 8 → bit_at (pairs_made b lost (suc m) block) i ≡ b
    unfolding pairs_made
    pairs_made-inside m i h l inside =
        made_inside b (start_of lost m) bit (length_of lost m) (pairs_made b lost m block) i h (rw end_is at l) (rw (length-pairs_made m) inside)

    -- a pair behind pair j leaves bit i as it is, or makes it b again
    pairs_made-lost : (m i j : ℕ) → j < m → start_of lost j ≤ i → i < end_of lost j → i < length block * 8 → bit_at (pairs_made b lost m block) i ≡ b
    pairs_made-lost zero i j l h k inside = absurd (not-suc-le-zero l)
    pairs_made-lost (suc m) i j l h k inside =
        elim (cover-either lost i m) [
          | inl t ↦ pairs_made-inside m i t.0 t.1 inside
          | inr missed ↦ elim (eq-or-lt_of_le (le_of_suc-le-suc l)) [
            | inl q ↦ pairs_made-inside m i (rw q at h) (rw q at k) inside
            | inr before ↦ pairs_made-outside m i missed ∙ pairs_made-lost m i j before h k inside
          ]
        ]

    -- the pairs hold exactly the lost bits
    pub pairs_made-filled : ((k : ℕ) → get_or block k 0 < 256) → pairs_made b lost (pair_count lost) block ≡ filled b lost block
    pairs_made-filled small =
        bit_at-ext _ _ (length-pairs_made (pair_count lost) ∙ sym (length-filled b lost block)) (pairs_made-bytes small (pair_count lost))
        (filled-bytes b lost block bit small)
        (λ i l. each i (rw (length-pairs_made (pair_count lost)) at l) (is_lost lost i) refl)
      where
        each : (i : ℕ) → i < length block * 8 → (t : Bool) → is_lost lost i ≡ t
            → bit_at (pairs_made b lost (pair_count lost) block) i ≡ bit_at (filled b lost block) i
        each i inside true e =
            let (j, below, h, l) = lost-found lost i e in
            pairs_made-lost (pair_count lost) i j below h l inside ∙ sym (filled-lost b lost block bit i inside e)
        each i inside false e = pairs_made-kept (pair_count lost) i (missed-each lost i e) ∙ sym (filled-kept b lost block bit i e)
