-- The numbers of classes, as the code reckons them, are those of the definition: the places of their smallest words among all smallest words.
--   reduced row k w       what an echelon form of the rows leaves of w (inner_code's specs Reduction)
--   smallest_of, is_smallest, class_of   the smallest word of a class, and the number of a class (specs Classes)
--   is_free, free_below, weight_of, squeezed, number_of   free digits, and the number that they make (specs Numbering)
--   top_digit, free_mask, squeezed_by    the same by a word whose ones are the free digits (specs Numbering)
-- Laws are named by their subject, then by the fact: `reduced-` is about what the rows leave, `smallest-` about the smallest words of classes,
-- `count-` about how many there are below a bound, `weight-` and `number-` about weights and numbers, `free-` about the free digits, `mask-`
-- about the word of them. They hold for any rows and any k; only `free-rank` and `mask-digit` ask that no row is made of those before it.
use Rattle.std.proofs.Common.{◌≡◌, refl, sym, ap, ap₂, ◌∙◌, ⊎_elim, Bool, true, false, cond, not, ◌&&◌, true≢false, ℕ, zero, suc, ◌+◌, ◌-◌}
use Rattle.std.proofs.Common.{◌*◌, ◌/◌, ◌^◌, ◌≤◌, ◌<◌, le_refl, le_antisymm, lt_of_le_of_lt, lt_of_lt_of_le, lt-suc_self, eq-zero-or-pos}
use Rattle.std.proofs.Common.{add-zero, mul-one, pow-suc, one-mul, zero-mul, add-one, arith, eq-eqb, ne_eqb, eqb-true, bit_xor, eqb}
use Rattle.std.proofs.Common.{pow_pos, pow_mono, pow-add}
use mathlib.Core.Bool.{and-true, and-false}
use native.Mathlib.Nat.{le_step}
use native.Mathlib.Decide.{dec_lt, ℕ_discrete, le_ind}
use borrow.Author.Tests.{eqb-false}
use lib.Bits.{xor_comm, xor_lt, xor_self, xor_shifted, xor_zero_r}
use lib.Count.{count_leading_zeros, leading_top}
use lib.Pow.{pow-lt}
use Rattle.bits.proofs.Xor.{digit-power, xor-cancel, xor-digit, digit_lt, digit-first, digit-suc}
use Rattle.bits.specs.Bit.{digit}
use Rattle.bits.specs.Search.{least}
use Rattle.bits.specs.Sum.{sum, flag}
use Rattle.bits.proofs.Searches.{least-le, least-top, least-ge}
use Rattle.bits.proofs.Sums.{sum-zero, sum-suc, sum-ext, sum_mono, sum-add, sum-scale, sum-const, sum-term, sum-append}
use Rattle.bits.proofs.Sums.{flag_true, flag-false, flag-equal, flag-apart, count-at}
use Rattle.inner_code.specs.Code.{combination, is_codeword}
use Rattle.inner_code.specs.Reduction.{reduce_by, reduced, echelon}
use Rattle.inner_code.proofs.Combinations.{combination-xor, combination-none, combination-lt, combination-lower, combination-upper}
use Rattle.inner_code.proofs.EchelonForm.{reduced-further, reduced-le, reduced-xor, reduced-zero, reduced-apart, reduced-codeword, reduce_by-digit, highest}
use Rattle.inner_code.proofs.Cosets.{coset-same}
use Rattle.tables.specs.Classes.{smallest_of, is_smallest, class_of}
use Rattle.tables.specs.Numbering.{is_free, free_below, weight_of, squeezed, number_of, top_digit, free_mask, weight_in, squeezed_by}

-- ---- what the rows leave is the smallest word of the class

-- what is left is of the same class, so of it the same is left
pub reduced-again : (row : ℕ → ℕ) (k w : ℕ) → reduced row k (reduced row k w) ≡ reduced row k w
reduced-again row k w = sym (coset-same row k w (reduced row k w) (reduced-apart row k w))

pub smallest-reduced : (row : ℕ → ℕ) (k w : ℕ) → smallest_of row k w ≡ reduced row k w
unfolding smallest_of
smallest-reduced row k w = le_antisymm below above
  where
    candidate : ℕ → ℕ
    candidate v = cond (is_codeword row k (bit_xor v w)) v w

    own : candidate (reduced row k w) ≡ reduced row k w
    own =
        ap (λ (t : Bool). cond t (reduced row k w) w)
        (ap (is_codeword row k) (xor_comm (reduced row k w) w) ∙ reduced-apart row k w)

    below : least w candidate w ≤ reduced row k w
    below =
        elim (dec_lt (reduced row k w) w) [
          | yes l ↦ rw own at (least-le w candidate w (reduced row k w) l)
          | no g ↦ omega (arith, least-top w candidate w)
        ]

    at_least : (v : ℕ) (t : Bool) → is_codeword row k (bit_xor v w) ≡ t → reduced row k w ≤ cond t v w
    at_least v true e = rw (coset-same row k v w e) at (reduced-le row k v)
    at_least v false e = reduced-le row k w

    above : reduced row k w ≤ least w candidate w
    above = least-ge w candidate w (reduced row k w) (reduced-le row k w) (λ v l. at_least v _ refl)

pub smallest-test : (row : ℕ → ℕ) (k w : ℕ) → is_smallest row k w ≡ eqb (reduced row k w) w
unfolding is_smallest
smallest-test row k w = ap (λ (x : ℕ). eqb x w) (smallest-reduced row k w)

-- ---- smallest words by their digits: 2^b + m with m below 2^b is one exactly if digit b is free and m is one

xor-upper : (b m : ℕ) → m < 2 ^ b → bit_xor (2 ^ b) m ≡ 2 ^ b + m
xor-upper b m h =
    ap (λ (x : ℕ). bit_xor x m) (sym (one-mul (2 ^ b))) ∙ xor_shifted 1 b m h ∙ ap (λ (x : ℕ). x + m) (one-mul (2 ^ b))

-- a flag that is set doubles the power
pow-flag : (n : ℕ) (t : Bool) → 2 ^ (n + flag t) ≡ 2 ^ n + flag t * 2 ^ n
pow-flag n true = rw flag_true (omega (arith, pow-add 2 n 1))
pow-flag n false = rw flag-false (omega (arith, pow-add 2 n 0))

module _ (row : ℕ → ℕ) (k : ℕ) where
  free-reduced : (b : ℕ) → is_free row k b ≡ true → reduced row k (2 ^ b) ≡ 2 ^ b
  unfolding is_free
  free-reduced b e = eqb-true _ _ e

  reduced-free : (b : ℕ) → reduced row k (2 ^ b) ≡ 2 ^ b → is_free row k b ≡ true
  unfolding is_free
  reduced-free b e = eq-eqb _ _ e

  pivot-reduced : (b : ℕ) → is_free row k b ≡ false → reduced row k (2 ^ b) ≡ 2 ^ b → ⊥
  unfolding is_free
  pivot-reduced b e = eqb-false _ _ e

  reduced-pivot : (b : ℕ) → (reduced row k (2 ^ b) ≡ 2 ^ b → ⊥) → is_free row k b ≡ false
  unfolding is_free
  reduced-pivot b h = ne_eqb _ _ h

  reduced-upper : (b m : ℕ) → m < 2 ^ b → reduced row k (2 ^ b + m) ≡ bit_xor (reduced row k (2 ^ b)) (reduced row k m)
  reduced-upper b m h = ap (reduced row k) (sym (xor-upper b m h)) ∙ reduced-xor row k (2 ^ b) m

  pub smallest-join : (b m : ℕ) → m < 2 ^ b → is_free row k b ≡ true → reduced row k m ≡ m → reduced row k (2 ^ b + m) ≡ 2 ^ b + m
  smallest-join b m h free small = reduced-upper b m h ∙ ap₂ bit_xor (free-reduced b free) small ∙ xor-upper b m h

  pub smallest-split : (b m : ℕ) → m < 2 ^ b → reduced row k (2 ^ b + m) ≡ 2 ^ b + m → (is_free row k b ≡ true) × (reduced row k m ≡ m)
  smallest-split b m h small =
      elim (dec_lt (reduced row k (2 ^ b)) (2 ^ b)) [
        | yes l ↦ absurd (omega (arith, xor_lt b _ _ l (lt_of_le_of_lt (reduced-le row k m) h), reduced-upper b m h, small))
        | no g ↦ let same : reduced row k (2 ^ b) ≡ 2 ^ b = omega (arith, reduced-le row k (2 ^ b)) in (reduced-free b same, rest same)
      ]
    where
      rest : reduced row k (2 ^ b) ≡ 2 ^ b → reduced row k m ≡ m
      rest same =
          sym (xor-cancel (2 ^ b) (reduced row k m))
          ∙ ap (bit_xor (2 ^ b))
          (ap (λ (x : ℕ). bit_xor x (reduced row k m)) (sym same) ∙ sym (reduced-upper b m h) ∙ small ∙ sym (xor-upper b m h))
          ∙ xor-cancel (2 ^ b) m

  -- ---- how many smallest words there are below a bound

  -- a sum of these counts
  abbrev small_flag : ℕ → ℕ
  small_flag v = flag (is_smallest row k v)

  smallest-flag : (v : ℕ) → reduced row k v ≡ v → small_flag v ≡ 1
  smallest-flag v e = ap flag (smallest-test row k v ∙ eq-eqb _ _ e) ∙ flag_true

  other-flag : (v : ℕ) → (reduced row k v ≡ v → ⊥) → small_flag v ≡ 0
  other-flag v e = ap flag (smallest-test row k v ∙ ne_eqb _ _ e) ∙ flag-false

  flag-upper : (b m : ℕ) → m < 2 ^ b → small_flag (2 ^ b + m) ≡ flag (is_free row k b) * small_flag m
  flag-upper b m h =
      elim (ℕ_discrete (reduced row k (2 ^ b + m)) (2 ^ b + m)) [
        | yes e ↦
            let (free, small) = smallest-split b m h e in
            smallest-flag _ e ∙ sym (ap₂ ◌*◌ (ap flag free ∙ flag_true) (smallest-flag m small))
        | no ne ↦ other-flag _ ne ∙ sym (none ne (is_free row k b) refl)
      ]
    where
      none : (reduced row k (2 ^ b + m) ≡ 2 ^ b + m → ⊥) → (t : Bool) → is_free row k b ≡ t → flag t * small_flag m ≡ 0
      none ne true free = rw (other-flag m (λ e. ne (smallest-join b m h free e)), flag_true)
      none ne false free = rw flag-false (zero-mul _)

  -- the words from 2^b on are counted as those from 0 on where digit b is free, and not at all where it is not
  count-upper : (b m : ℕ) → m ≤ 2 ^ b → sum (2 ^ b + m) small_flag ≡ sum (2 ^ b) small_flag + flag (is_free row k b) * sum m small_flag
  count-upper b m h =
      sum-append (2 ^ b) m small_flag
      ∙ ap (λ (x : ℕ). sum (2 ^ b) small_flag + x)
      (sum-ext m _ _ (λ i l. flag-upper b i (omega arith)) ∙ sum-scale m (flag (is_free row k b)) small_flag)

  free-below-zero : free_below row k 0 ≡ 0
  unfolding free_below
  free-below-zero = sum-zero (λ b. flag (is_free row k b))

  free-below-suc : (b : ℕ) → free_below row k (suc b) ≡ free_below row k b + flag (is_free row k b)
  unfolding free_below
  free-below-suc b = sum-suc b _

  -- each free digit doubles the count
  pub count-power : (b : ℕ) → sum (2 ^ b) (λ v. flag (is_smallest row k v)) ≡ 2 ^ free_below row k b
  count-power zero =
      sum-suc 0 small_flag
      ∙ ap₂ ◌+◌ (sum-zero small_flag) (smallest-flag 0 (reduced-zero row k))
      ∙ ap (λ (n : ℕ). 2 ^ n) (sym free-below-zero)
  count-power (suc b) =
      let twice : 2 ^ suc b ≡ 2 ^ b + 2 ^ b = omega (arith, pow-suc 2 b) in
      ap (λ (n : ℕ). sum n small_flag) twice
      ∙ count-upper b (2 ^ b) (le_refl _)
      ∙ ap (λ (x : ℕ). x + flag (is_free row k b) * x) (count-power b)
      ∙ sym (ap (λ (n : ℕ). 2 ^ n) (free-below-suc b) ∙ pow-flag (free_below row k b) (is_free row k b))

  -- ---- weights: each is below the power of 2 that the free digits up to its own make

  free-below-le : (i n : ℕ) → i ≤ n → free_below row k i ≤ free_below row k n
  unfolding free_below
  free-below-le i n h =
      let rest : i + (n - i) ≡ n = omega arith in
      omega (arith, ap (λ (m : ℕ). sum m (λ j. flag (is_free row k j))) (sym rest) ∙ sum-append i (n - i) _)

  weight-free : (b : ℕ) → is_free row k b ≡ true → weight_of row k b ≡ 2 ^ free_below row k b
  unfolding weight_of
  weight-free b e = ap (λ (x : ℕ). x * 2 ^ free_below row k b) (ap flag e ∙ flag_true) ∙ one-mul _

  weight-lt : (n i : ℕ) → i < n → weight_of row k i < 2 ^ free_below row k n
  unfolding weight_of
  weight-lt n i h =
      omega (
        arith,
        pow_pos (free_below row k i),
        pow-flag (free_below row k i) (is_free row k i),
        ap (λ (m : ℕ). 2 ^ m) (free-below-suc i),
        pow_mono (free-below-le (suc i) n h),
      )

  squeezed-lt : (n s : ℕ) → combination (weight_of row k) n s < 2 ^ free_below row k n
  squeezed-lt n s = combination-lt (weight_of row k) (free_below row k n) n s (weight-lt n)

  -- the highest digit counts all smallest words below its power of 2
  count-top : (n m : ℕ) → m < 2 ^ n → is_free row k n ≡ true → sum m small_flag ≡ combination (weight_of row k) n m
      → sum (2 ^ n + m) small_flag ≡ combination (weight_of row k) (suc n) (2 ^ n + m)
  count-top n m l free below =
      let number : ℕ = combination (weight_of row k) n m in
      count-upper n m (omega arith)
      ∙ ap₂ ◌+◌ (count-power n) (ap₂ ◌*◌ (ap flag free ∙ flag_true) below ∙ one-mul number)
      ∙ sym (combination-upper (weight_of row k) n m l ∙ ap (bit_xor number) (weight-free n free)
      ∙ xor_comm number (2 ^ free_below row k n) ∙ xor-upper (free_below row k n) number (squeezed-lt n m))

  -- how many smallest words are below a smallest word: the number that its free digits make
  pub count-smallest : (n s : ℕ) → s < 2 ^ n → reduced row k s ≡ s
      → sum s (λ v. flag (is_smallest row k v)) ≡ combination (weight_of row k) n s
  unfolding combination
  count-smallest zero s h small = let none : s ≡ 0 = omega arith in ap (λ (n : ℕ). sum n small_flag) none ∙ sum-zero small_flag
  count-smallest (suc n) s h small =
      elim (dec_lt s (2 ^ n)) [
        | yes l ↦ count-smallest n s l small ∙ sym (combination-lower (weight_of row k) n s l)
        | no g ↦
            let m : ℕ = s - 2 ^ n in
            let top : s ≡ 2 ^ n + m = omega arith in
            let l : m < 2 ^ n = omega (arith, pow-suc 2 n) in
            let (free, below) = smallest-split n m l (sym (ap (reduced row k) top) ∙ small ∙ top) in
            ap (λ (x : ℕ). sum x small_flag) top ∙ count-top n m l free (count-smallest n m l below)
            ∙ ap (combination (weight_of row k) (suc n)) (sym top)
      ]

  -- ---- the number of a class

  pub class-number : (w : ℕ) → w < 2 ^ 16 → class_of row k w ≡ number_of row k w
  unfolding class_of number_of squeezed
  class-number w h =
      ap (λ (n : ℕ). sum n small_flag) (smallest-reduced row k w)
      ∙ count-smallest 16 (reduced row k w) (lt_of_le_of_lt (reduced-le row k w) h) (reduced-again row k w)

  pub number-xor : (v w : ℕ) → number_of row k (bit_xor v w) ≡ bit_xor (number_of row k v) (number_of row k w)
  unfolding number_of squeezed
  number-xor v w =
      ap (combination (weight_of row k) 16) (reduced-xor row k v w)
      ∙ sym (combination-xor (weight_of row k) 16 (reduced row k v) (reduced row k w))

  pub number-zero : number_of row k 0 ≡ 0
  unfolding number_of squeezed
  number-zero = ap (combination (weight_of row k) 16) (reduced-zero row k) ∙ combination-none (weight_of row k) 16

  -- digits above the word's count nothing
  squeezed-short : (b n s : ℕ) → b ≤ n → s < 2 ^ b → combination (weight_of row k) n s ≡ combination (weight_of row k) b s
  squeezed-short b n s h l =
      le_ind (λ (m : ℕ). combination (weight_of row k) m s ≡ combination (weight_of row k) b s) refl
      (λ m g e. combination-lower (weight_of row k) m s (lt_of_lt_of_le l (pow_mono g)) ∙ e) n h

  pub number_lt : (b w : ℕ) → b ≤ 16 → w < 2 ^ b → number_of row k w < 2 ^ free_below row k b
  unfolding number_of squeezed
  number_lt b w h l =
      rw (squeezed-short b 16 (reduced row k w) h (lt_of_le_of_lt (reduced-le row k w) l)) (squeezed-lt b (reduced row k w))

  pub number-free : (b : ℕ) → b < 16 → is_free row k b ≡ true → number_of row k (2 ^ b) ≡ 2 ^ free_below row k b
  unfolding number_of squeezed
  number-free b h free =
      let weights : ℕ → ℕ = weight_of row k in
      let alone : 2 ^ b ≡ 2 ^ b + 0 = omega arith in
      ap (combination weights 16) (free-reduced b free)
      ∙ squeezed-short (suc b) 16 (2 ^ b) h (pow-lt (lt-suc_self b))
      ∙ ap (combination weights (suc b)) alone
      ∙ combination-upper weights b 0 (pow_pos b)
      ∙ ap₂ bit_xor (combination-none weights b) (weight-free b free)

  -- words of one number are of one class: of their difference 0 is left, as any other would have the smallest word 0 below it
  pub number-codeword : (v w : ℕ) → v < 2 ^ 16 → w < 2 ^ 16 → number_of row k v ≡ number_of row k w → is_codeword row k (bit_xor v w) ≡ true
  unfolding number_of squeezed
  number-codeword v w hv hw same =
      let left : ℕ = reduced row k (bit_xor v w) in
      let none : sum left small_flag ≡ 0 =
      count-smallest 16 left (lt_of_le_of_lt (reduced-le row k (bit_xor v w)) (xor_lt 16 v w hv hw)) (reduced-again row k (bit_xor v w))
      ∙ number-xor v w ∙ ap (λ (x : ℕ). bit_xor x (number_of row k w)) same ∙ xor_self (number_of row k w) in
      reduced-codeword row k (bit_xor v w)
      (⊎_elim (λ (e : left ≡ 0). e)
      (λ (l : 0 < left). absurd (omega (arith, sum-term left small_flag 0 l, smallest-flag 0 (reduced-zero row k), none)))
      (eq-zero-or-pos left))

  pub number-coset : (v w : ℕ) → is_codeword row k (bit_xor v w) ≡ true → number_of row k v ≡ number_of row k w
  unfolding number_of
  number-coset v w e = ap (squeezed row k) (coset-same row k v w e)

-- ---- the free digits, row by row: each new row takes the highest digit of its echelon form away

-- the highest digit of what is left of a row is free: what is left is a smallest word
pub free-top : (row : ℕ → ℕ) (k t : ℕ) → 2 ^ t ≤ echelon row k → echelon row k < 2 ^ suc t → is_free row k t ≡ true
unfolding echelon
free-top row k t low high =
    let m : ℕ = echelon row k - 2 ^ t in
    let top : echelon row k ≡ 2 ^ t + m = omega arith in
    (smallest-split row k t m (omega (arith, pow-suc 2 t)) (sym (ap (reduced row k) top) ∙ reduced-again row k (row k) ∙ top)).0

module _ (row : ℕ → ℕ) (k t : ℕ) (low : 2 ^ t ≤ echelon row k) (high : echelon row k < 2 ^ suc t) where
  -- on a power of 2 that the rows before leave as it is, the new row is put where that power is its highest digit
  reduced-power : (b : ℕ) → is_free row k b ≡ true → reduced row (suc k) (2 ^ b) ≡ bit_xor (2 ^ b) (flag (eqb t b) * echelon row k)
  unfolding reduced echelon
  reduced-power b free =
      ap (reduce_by (echelon row k)) (free-reduced row k b free)
      ∙ reduce_by-digit (echelon row k) t (2 ^ b) low high
      ∙ ap (λ (x : ℕ). bit_xor (2 ^ b) (x * echelon row k)) (digit-power b t)

  free-taken : is_free row (suc k) t ≡ false
  free-taken = reduced-pivot row (suc k) t (λ e. omega (arith, row_zero e, pow_pos t))
    where
      row_zero : reduced row (suc k) (2 ^ t) ≡ 2 ^ t → echelon row k ≡ 0
      row_zero e =
          sym (ap (λ (x : ℕ). x * echelon row k) (flag-equal t t refl) ∙ one-mul (echelon row k))
          ∙ sym (xor-cancel (2 ^ t) (flag (eqb t t) * echelon row k))
          ∙ ap (bit_xor (2 ^ t)) (sym (reduced-power t (free-top row k t low high)) ∙ e)
          ∙ xor_self (2 ^ t)

  free-kept : (b : ℕ) → (b ≡ t → ⊥) → is_free row (suc k) b ≡ is_free row k b
  free-kept b other = go (is_free row k b) refl
    where
      go : (f : Bool) → is_free row k b ≡ f → is_free row (suc k) b ≡ is_free row k b
      go true free =
          reduced-free row (suc k) b
          (reduced-power b free ∙ ap (λ (x : ℕ). bit_xor (2 ^ b) (x * echelon row k)) (flag-apart t b (λ e. other (sym e)))
          ∙ ap (bit_xor (2 ^ b)) (zero-mul (echelon row k)) ∙ xor_zero_r (2 ^ b)) ∙ sym free
      go false pivot =
          reduced-pivot row (suc k) b
          (λ e. pivot-reduced row k b pivot (omega (arith, e, reduced-further row k (2 ^ b), reduced-le row k (2 ^ b)))) ∙ sym pivot

pub free-suc : (row : ℕ → ℕ) (k t b : ℕ) → 2 ^ t ≤ echelon row k → echelon row k < 2 ^ suc t
    → is_free row (suc k) b ≡ (is_free row k b && not (eqb b t))
free-suc row k t b low high =
    elim (ℕ_discrete b t) [
      | yes same ↦ rw (same, eq-eqb t t refl, free-taken row k t low high) (sym (and-false (is_free row k t)))
      | no other ↦ rw (ne_eqb b t other, free-kept row k t low high b other) (sym (and-true (is_free row k b)))
    ]

free_all : (row : ℕ → ℕ) (b : ℕ) → is_free row 0 b ≡ true
unfolding reduced
free_all row b = reduced-free row 0 b refl

-- a digit that is taken was free: what that says of flags
flag-rest : (f e : Bool) → (e ≡ true → f ≡ true) → flag (f && not e) + flag e ≡ flag f
unfolding flag
flag-rest true true h = refl
flag-rest true false h = refl
flag-rest false true h = absurd (true≢false (sym (h refl)))
flag-rest false false h = refl

flag-xor : (f e : Bool) → (e ≡ true → f ≡ true) → bit_xor (flag f) (flag e) ≡ flag (f && not e)
unfolding flag
flag-xor true true h = refl
flag-xor true false h = refl
flag-xor false true h = absurd (true≢false (sym (h refl)))
flag-xor false false h = refl

free-at-top : (row : ℕ → ℕ) (k t b : ℕ) → 2 ^ t ≤ echelon row k → echelon row k < 2 ^ suc t → eqb b t ≡ true → is_free row k b ≡ true
free-at-top row k t b low high e = ap (is_free row k) (eqb-true b t e) ∙ free-top row k t low high

-- of a row that is not made of those before it more than 0 is left
echelon-pos : (row : ℕ → ℕ) (k : ℕ) → is_codeword row k (row k) ≡ false → 0 < echelon row k
unfolding echelon
echelon-pos row k new =
    ⊎_elim (λ (e : reduced row k (row k) ≡ 0). absurd (true≢false (sym (reduced-codeword row k (row k) e) ∙ new)))
    (λ (l : 0 < reduced row k (row k)). l) (eq-zero-or-pos (reduced row k (row k)))

echelon-lt : (row : ℕ → ℕ) (k d : ℕ) → row k < 2 ^ d → echelon row k < 2 ^ d
unfolding echelon
echelon-lt row k d h = lt_of_le_of_lt (reduced-le row k (row k)) h

free-one-less : (row : ℕ → ℕ) (k d t : ℕ) → 2 ^ t ≤ echelon row k → echelon row k < 2 ^ suc t → t < d
    → free_below row (suc k) d + 1 ≡ free_below row k d
unfolding free_below
free-one-less row k d t low high l =
    ap (λ (x : ℕ). sum d (λ b. flag (is_free row (suc k) b)) + x) (sym (count-at d t l))
    ∙ sym (sum-add d (λ b. flag (is_free row (suc k) b)) (λ b. flag (eqb b t)))
    ∙ sum-ext d _ _
    (λ b h. ap (λ (f : Bool). flag f + flag (eqb b t)) (free-suc row k t b low high)
    ∙ flag-rest (is_free row k b) (eqb b t) (free-at-top row k t b low high))

-- k rows, none of them made of those before it, take k digits of d
pub free-rank : (row : ℕ → ℕ) (k d : ℕ) → ((i : ℕ) → i < k → row i < 2 ^ d) → ((i : ℕ) → i < k → is_codeword row i (row i) ≡ false)
    → free_below row k d + k ≡ d
unfolding free_below
free-rank row zero d rows new =
    add-zero _ ∙ sum-ext d _ (λ b. 1) (λ b h. ap flag (free_all row b) ∙ flag_true) ∙ sum-const d 1 ∙ mul-one d
free-rank row (suc k) d rows new =
    let (t, low, high) = highest (echelon row k) (echelon-pos row k (new k (lt-suc_self k))) in
    let t-lt : t < d =
    elim (dec_lt t d) [
      | yes l ↦ l
      | no g ↦ absurd (omega (arith, low, echelon-lt row k d (rows k (lt-suc_self k)), pow_mono {i = d} {j = t} (omega arith)))
    ] in
    omega (arith, free-one-less row k d t low high t-lt, free-rank row k d (λ i l. rows i (le_step l)) (λ i l. new i (le_step l)))

-- ---- the free digits as a word

digit_ones : (n b : ℕ) → b < n → digit (2 ^ n - 1) b ≡ 1
digit_ones zero b h = absurd (omega arith)
digit_ones (suc n) zero h = digit-first (2 ^ suc n - 1) ∙ omega (arith, pow-suc 2 n, pow_pos n)
digit_ones (suc n) (suc b) h =
    let half : (2 ^ suc n - 1) / 2 ≡ 2 ^ n - 1 = omega (arith, pow-suc 2 n, pow_pos n) in
    digit-suc (2 ^ suc n - 1) b ∙ ap (λ (x : ℕ). digit x b) half ∙ digit_ones n b (omega arith)

-- the highest digit of a nonzero word of 16 digits
highest-digit : (w : ℕ) → 0 < w → w < 2 ^ 16 → (t : ℕ) × (top_digit w ≡ 2 ^ t) × (2 ^ t ≤ w) × (w < 2 ^ suc t)
unfolding top_digit
highest-digit w pos h =
    let (t, places, low, high) = leading_top 16 w pos h in
    let place : 15 - count_leading_zeros 16 w ≡ t = omega arith in
    (t, rw (ne_eqb w 0 (λ e. omega arith), place), low, high)

pub top-none : (w : ℕ) → w ≡ 0 → top_digit w ≡ 0
unfolding top_digit
top-none w e = rw (eq-eqb w 0 e)

pub top-some : (w : ℕ) → (w ≡ 0 → ⊥) → top_digit w ≡ 2 ^ (15 - count_leading_zeros 16 w)
unfolding top_digit
top-some w e = rw (ne_eqb w 0 e)

pub mask-one-more : (basis : ℕ → ℕ) (i : ℕ) → free_mask basis (i + 1) ≡ bit_xor (free_mask basis i) (top_digit (basis i))
unfolding free_mask
mask-one-more basis i = rw add-one

pub squeezed-one-more : (mask b w : ℕ) → squeezed_by mask (b + 1) w ≡ bit_xor (squeezed_by mask b w) (digit w b * (digit mask b * 2 ^ sum b (digit mask)))
unfolding squeezed_by weight_in combination
squeezed-one-more mask b w = rw add-one

-- no more digits are free than there are
pub free-few : (mask b : ℕ) → sum b (digit mask) ≤ b
free-few mask b = omega (arith, sum-const b 1, sum_mono b (digit mask) (λ i. 1) (λ i h. omega (arith, digit_lt mask i)))

-- each row clears one digit that is set: the one that it takes
pub mask-digit : (row basis : ℕ → ℕ) (k b : ℕ) → ((i : ℕ) → i < k → row i < 2 ^ 16) → ((i : ℕ) → i < k → is_codeword row i (row i) ≡ false)
    → ((i : ℕ) → i < k → basis i ≡ echelon row i) → b < 16 → digit (free_mask basis k) b ≡ flag (is_free row k b)
unfolding free_mask
mask-digit row basis zero b rows new same h = digit_ones 16 b h ∙ sym (ap flag (free_all row b) ∙ flag_true)
mask-digit row basis (suc k) b rows new same h =
    let last : k < suc k = lt-suc_self k in
    let (t, top, low, high) = highest-digit (echelon row k) (echelon-pos row k (new k last)) (echelon-lt row k 16 (rows k last)) in
    xor-digit (free_mask basis k) (top_digit (basis k)) b
    ∙ ap₂ bit_xor (mask-digit row basis k b (λ i l. rows i (le_step l)) (λ i l. new i (le_step l)) (λ i l. same i (le_step l)) h)
    (ap (λ (x : ℕ). digit x b) (ap top_digit (same k last) ∙ top) ∙ digit-power t b)
    ∙ flag-xor (is_free row k b) (eqb b t) (free-at-top row k t b low high)
    ∙ ap flag (sym (free-suc row k t b low high))

pub combination-rows : (f g : ℕ → ℕ) (n w : ℕ) → ((i : ℕ) → i < n → f i ≡ g i) → combination f n w ≡ combination g n w
unfolding combination
combination-rows f g zero w h = refl
combination-rows f g (suc n) w h =
    ap₂ (λ (x y : ℕ). bit_xor x (digit w n * y)) (combination-rows f g n w (λ i l. h i (le_step l))) (h n (lt-suc_self n))

-- squeezing by that word
pub squeezed-mask : (row : ℕ → ℕ) (k mask w : ℕ) → ((b : ℕ) → b < 16 → digit mask b ≡ flag (is_free row k b))
    → squeezed_by mask 16 w ≡ squeezed row k w
unfolding squeezed_by squeezed weight_in weight_of free_below
squeezed-mask row k mask w h =
    combination-rows _ _ 16 w
    (λ b l. ap₂ (λ (x n : ℕ). x * 2 ^ n) (h b l) (sum-ext b (digit mask) (λ j. flag (is_free row k j)) (λ j g. h j (omega arith))))
