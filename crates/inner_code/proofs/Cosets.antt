-- Cosets: the words that differ by a codeword share one nearest pattern.
--   reduced row k w      what is left of w after it is reduced by the echelon form of the rows (specs Reduction)
--   least_key, least_back  the least key of a pattern that leads w to one of the listed words, of either kind (specs Reduction)
--   nearest_pattern row k d w   the pattern below 2^d that leads w to its nearest word, 0 in a tie (specs Code)
-- Laws are named `coset-` and then by the fact, `single-` where they are about cosets that have patterns of a single one, and `ones-` and
-- `power-` about the numbers that have a single one.
use Rattle.std.proofs.Common.{◌≡◌, refl, sym, ap, ap₂, ◌∙◌, true, ⊎_elim, ℕ, suc, ◌+◌, ◌-◌, ◌*◌, ◌%◌, ◌/◌, ◌^◌, ◌≤◌, ◌<◌, le_antisymm}
use Rattle.std.proofs.Common.{pow-suc, eq-zero-or-pos, arith, bit_xor, pow_mono, pow_pos}
use native.Mathlib.Decide.{ℕ_discrete, dec_lt}
use lib.Arith.{bin_ind}
use lib.Bits.{xor_self, xor_comm}
use lib.Count.{ones, ones_in, ones_step, ones_cat}
use lib.Pow.{pow-lt}
use Rattle.bits.proofs.Xor.{xor_assoc, xor-cancel, xor-cancel-right, xor-zero-eq, ones-zero, ones_none, ones_pos}
use Rattle.inner_code.specs.Code.{combination, is_codeword, key, no_key, least_pattern, tied, nearest_pattern, nearest_word}
use Rattle.inner_code.specs.Reduction.{reduced, least_key, back_key, least_back, sole, searched}
use Rattle.bits.specs.Search.{least}
use Rattle.bits.proofs.Searches.{least-le, least-top, least-ge}
use Rattle.inner_code.proofs.Combinations.{codeword-xor, codeword-found, codeword-combination}
use Rattle.inner_code.proofs.EchelonForm.{reduced-xor, reduced-zero, reduced-codeword, codeword-reduced}
use Rattle.inner_code.proofs.NearestWord.{least-pattern-lt, least-pattern-first, least-codeword, tied_by, untied-by}
use Rattle.inner_code.proofs.NearestWord.{nearest-pattern-untied, nearest-pattern-tied, nearest-searched}

-- words of which the rows leave the same differ by a codeword
pub coset-residue : (row : ℕ → ℕ) (k v w : ℕ) → reduced row k v ≡ reduced row k w → is_codeword row k (bit_xor v w) ≡ true
coset-residue row k v w e =
    reduced-codeword row k (bit_xor v w) (reduced-xor row k v w ∙ ap (λ (x : ℕ). bit_xor x (reduced row k w)) e ∙ xor_self (reduced row k w))

-- and of words that differ by a codeword the rows leave the same
pub coset-same : (row : ℕ → ℕ) (k v w : ℕ) → is_codeword row k (bit_xor v w) ≡ true → reduced row k v ≡ reduced row k w
coset-same row k v w e = xor-zero-eq _ _ (sym (reduced-xor row k v w) ∙ codeword-reduced row k (bit_xor v w) e)

module _ (row : ℕ → ℕ) (k : ℕ) (words : ℕ → ℕ) (all : (m : ℕ) → m < 2 ^ k → words m ≡ combination row k m) (measure : ℕ → ℕ) where
  -- the least measure of a pattern that leads to a listed word
  abbrev least_to : ℕ → ℕ
  least_to w = least no_key (λ m. measure (bit_xor (words m) w)) (2 ^ k)

  coset-le : (v w : ℕ) → is_codeword row k (bit_xor v w) ≡ true → least_to v ≤ least_to w
  coset-le v w e =
      least-ge no_key (λ m. measure (bit_xor (words m) w)) (2 ^ k) _ (least-top no_key (λ m. measure (bit_xor (words m) v)) (2 ^ k))
      (λ m h.
      let (i, l, is) = codeword-found row k (bit_xor (combination row k m) (bit_xor w v))
      (codeword-xor row k _ _ (codeword-combination row k m h) (rw (xor_comm w v) e)) in
      let same : bit_xor (words i) v ≡ bit_xor (words m) w =
      ap (λ (x : ℕ). bit_xor x v) (all i l ∙ sym is) ∙ ap (λ (x : ℕ). bit_xor x v) (sym (xor_assoc (combination row k m) w v))
      ∙ xor-cancel-right (bit_xor (combination row k m) w) v ∙ ap (λ (x : ℕ). bit_xor x w) (sym (all m h)) in
      rw same at (least-le no_key (λ n. measure (bit_xor (words n) v)) (2 ^ k) i l))

  -- it is the same for words of one coset
  coset-least : (v w : ℕ) → is_codeword row k (bit_xor v w) ≡ true → least_to v ≡ least_to w
  coset-least v w e = le_antisymm (coset-le v w e) (coset-le w v (rw (xor_comm w v) e))

-- words below 2^d of which the rows leave the same have one nearest pattern
pub coset-pattern : (row : ℕ → ℕ) (k d : ℕ) → d ≤ 16 → ((i : ℕ) → i < k → row i < 2 ^ d) → (v w : ℕ) → v < 2 ^ d → w < 2 ^ d
    → reduced row k v ≡ reduced row k w → nearest_pattern row k d v ≡ nearest_pattern row k d w
unfolding least_key least_back nearest_word searched
coset-pattern row k d d-high rows-lt v w v-lt w-lt same =
    by-search v v-lt
    ∙ ap₂ (λ (x y : ℕ). sole (x % 65536) (65535 - y % 65536)) (least-same key) (least-same back_key)
    ∙ sym (by-search w w-lt)
  where
    least-same : (measure : ℕ → ℕ)
        → least_to row k (combination row k) (λ m l. refl) measure v ≡ least_to row k (combination row k) (λ m l. refl) measure w
    least-same measure = coset-least row k (combination row k) (λ m l. refl) measure v w (coset-residue row k v w same)

    by-search : (x : ℕ) → x < 2 ^ d
        → nearest_pattern row k d x ≡ sole (least_key (combination row k) (2 ^ k) x % 65536) (65535 - least_back (combination row k) (2 ^ k) x % 65536)
    by-search x l =
        sym (xor-cancel x (nearest_pattern row k d x))
        ∙ ap (bit_xor x) (sym (nearest-searched row k d d-high rows-lt (combination row k) (λ m h. refl) x l))
        ∙ xor-cancel x _

-- ---- numbers with a single one

ones-one : ones 1 ≡ 1
unfolding ones ones_in
ones-one = refl

pub ones-pow : (b : ℕ) → ones (2 ^ b) ≡ 1
ones-pow b =
    let power : 2 ^ b ≡ 1 * 2 ^ b + 0 = omega arith in
    ap ones power ∙ ones_cat b 1 0 (pow_pos b) ∙ omega (arith, ones-one, ones-zero)

ones-single : (p : ℕ) → ones p ≡ 1 → (b : ℕ) × (p ≡ 2 ^ b)
ones-single =
    bin_ind (λ (p : ℕ). ones p ≡ 1 → (b : ℕ) × (p ≡ 2 ^ b)) (λ e. absurd (omega (arith, ones-zero)))
    (λ p half e. elim (ℕ_discrete (p % 2) 1) [
      | yes odd ↦ (0, omega (arith, ones_none (p / 2) (omega (arith, ones_step p))))
      | no even ↦ let (b, is) = half (omega (arith, ones_step p)) in (suc b, omega (arith, is, pow-suc 2 b))
    ])

power-inj : (a b : ℕ) → 2 ^ a ≡ 2 ^ b → a ≡ b
power-inj a b e =
    elim (dec_lt a b) [
      | yes l ↦ absurd (omega (arith, e, pow-lt l))
      | no l ↦ elim (dec_lt b a) [ yes g ↦ absurd (omega (arith, e, pow-lt g)) | no g ↦ omega arith ]
    ]

-- ---- cosets of other words than codewords that have patterns of a single one

module _ (row : ℕ → ℕ) (k d : ℕ) (d-high : d ≤ 16) (rows-lt : (i : ℕ) → i < k → row i < 2 ^ d) (w : ℕ) (w-lt : w < 2 ^ d)
    (some : reduced row k w ≡ 0 → ⊥) where
  -- a pattern of a single one that leads to a codeword is a power of 2 of which the rows leave the same
  single-power : (p : ℕ) → p < 2 ^ d → ones p ≡ 1 → is_codeword row k (bit_xor w p) ≡ true
      → (b : ℕ) × (b < d) × (p ≡ 2 ^ b) × (reduced row k (2 ^ b) ≡ reduced row k w)
  single-power p p-lt one lead =
      let (b, is) = ones-single p one in (
        b,
        elim (dec_lt b d) [ yes l ↦ l | no l ↦ absurd (omega (arith, is, pow_mono {i = d} {j = b} (omega arith))) ],
        is,
        ap (reduced row k) (sym is) ∙ sym (coset-same row k w p lead),
      )

  single-leads : (b : ℕ) → reduced row k (2 ^ b) ≡ reduced row k w → is_codeword row k (bit_xor w (2 ^ b)) ≡ true
  single-leads b same = coset-residue row k w (2 ^ b) (sym same)

  -- the least pattern has no more ones, and it is not 0
  single-least : (b : ℕ) → b < d → reduced row k (2 ^ b) ≡ reduced row k w → ones (least_pattern row k d w) ≡ 1
  unfolding key
  single-least b b_lt same =
      let p = least_pattern row k d w in
      let p-lt = least-pattern-lt row k d d-high rows-lt w w-lt in
      let leads = least-codeword row k d d-high rows-lt w w-lt in
      let none : p ≡ 0 → ⊥ = λ e. some (coset-same row k w p leads ∙ ap (reduced row k) e ∙ reduced-zero row k) in
      let p-ones : 0 < ones p = ⊎_elim (λ (e : p ≡ 0). absurd (none e)) (ones_pos p) (eq-zero-or-pos p) in
      omega (
        arith,
        least-pattern-first row k d d-high rows-lt w (2 ^ b) w-lt (pow-lt b_lt) (single-leads b same),
        p-ones,
        ones-pow b,
        p-lt,
        pow-lt b_lt,
        pow_mono d-high,
      )

  -- one such pattern is the nearest one
  pub single-one : (b : ℕ) → b < d → reduced row k (2 ^ b) ≡ reduced row k w
      → ((a : ℕ) → a < d → reduced row k (2 ^ a) ≡ reduced row k w → a ≡ b) → nearest_pattern row k d w ≡ 2 ^ b
  single-one b b_lt same only =
      nearest-pattern-untied row k d d-high rows-lt w
      (untied-by row k d d-high rows-lt w (λ p l equal lead. to-b p l (equal ∙ one) lead ∙ sym is)) ∙ is
    where
      one : ones (least_pattern row k d w) ≡ 1
      one = single-least b b_lt same

      to-b : (p : ℕ) → p < 2 ^ d → ones p ≡ 1 → is_codeword row k (bit_xor w p) ≡ true → p ≡ 2 ^ b
      to-b p l e lead =
          let (a, a_lt, a-is, a-same) = single-power p l e lead in
          a-is ∙ ap (λ (x : ℕ). 2 ^ x) (only a a_lt a-same)

      is : least_pattern row k d w ≡ 2 ^ b
      is = to-b _ (least-pattern-lt row k d d-high rows-lt w w-lt) one (least-codeword row k d d-high rows-lt w w-lt)

  -- two of them are a tie
  pub single-many : (a b : ℕ) → a < d → b < d → (a ≡ b → ⊥) → reduced row k (2 ^ a) ≡ reduced row k w → reduced row k (2 ^ b) ≡ reduced row k w
      → nearest_pattern row k d w ≡ 0
  single-many a b a_lt b_lt apart a-same b-same =
      nearest-pattern-tied row k d d-high rows-lt w
      (elim (ℕ_discrete (2 ^ a) (least_pattern row k d w)) [
        | yes is ↦ rival b b_lt b-same (λ e. apart (power-inj a b (is ∙ sym e)))
        | no other ↦ rival a a_lt a-same other
      ])
    where
      rival : (c : ℕ) → c < d → reduced row k (2 ^ c) ≡ reduced row k w → (2 ^ c ≡ least_pattern row k d w → ⊥) → tied row k d w ≡ true
      rival c c_lt c-same other =
          tied_by row k d d-high rows-lt w (2 ^ c) (pow-lt c_lt) other (ones-pow c ∙ sym (single-least c c_lt c-same)) (single-leads c c-same)
