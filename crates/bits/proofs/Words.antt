-- Words: numbers put together from single binary digits, and the count of set digits as a sum.
--   word d f      the number whose d binary digits are f 0 .. f (d - 1), f 0 of the highest weight (specs Bit)
--   digit x j     the binary digit of weight 2^j of the number x (specs Bit)
--   sum n f       f 0 + .. + f (n - 1) (specs Sum)
--   ones x        how many binary digits of x are set (lib.Count)
--   bit_xor a b    the number whose digits are set where those of a and b differ (lib.Bits)
-- A law is named by its subject, then by the fact: `word-` is about a word made from digits, `ones-` about the count of
-- set digits, `more-` about a number x with one more digit b below it, x * 2 + b. At the end of a name, `-lt` is a bound,
-- `-ext` equality from the digits.
-- Where f must give digits, 0 or 1, a law asks for `(j : ℕ) → j < d → f j < 2`.
use Rattle.std.proofs.Common.{◌≡◌, refl, sym, ap, ap₂, ◌∙◌, ⊎_elim, ℕ, zero, suc, ◌+◌, ◌-◌, ◌*◌, ◌/◌, ◌^◌, ◌<◌, pow-suc, eq-or-lt_of_le}
use Rattle.std.proofs.Common.{add-one, arith, bit_xor}
use lib.Arith.{lt-one}
use lib.Bits.{xor_block}
use lib.Count.{ones, ones_step}
use Rattle.bits.specs.Bit.{digit, word}
use Rattle.bits.specs.Sum.{sum}
use Rattle.bits.proofs.Sums.{sum-ext, sum_first}
use Rattle.bits.proofs.Xor.{digit_lt, digit-first, digit-suc, digit-ext, ones-zero}

-- ---- the set digits, counted one by one

pub ones-sum : (d x : ℕ) → x < 2 ^ d → ones x ≡ sum d (λ j. digit x j)
unfolding sum
ones-sum zero x h = ap ones (lt-one h) ∙ ones-zero
ones-sum (suc d) x h =
    ones_step x
    ∙ ap₂ ◌+◌ (sym (digit-first x)) (ones-sum d (x / 2) (omega (arith, pow-suc 2 d)) ∙ sum-ext d _ _ (λ j l. sym (digit-suc x j)))
    ∙ sym (sum_first d (λ j. digit x j))

-- ---- one more digit

more-first : (x b : ℕ) → b < 2 → digit (x * 2 + b) 0 ≡ b
more-first x b h = digit-first (x * 2 + b) ∙ omega arith

more-suc : (x b j : ℕ) → b < 2 → digit (x * 2 + b) (suc j) ≡ digit x j
more-suc x b j h = digit-suc (x * 2 + b) j ∙ ap (λ (y : ℕ). digit y j) (omega arith)

more-ones : (x b : ℕ) → b < 2 → ones (x * 2 + b) ≡ ones x + b
more-ones x b h = let half : (x * 2 + b) / 2 ≡ x = omega arith in omega (arith, ones_step (x * 2 + b), ap ones half)

-- ---- a word and its digits

pub word-one-more : (d : ℕ) (f : ℕ → ℕ) → word (d + 1) f ≡ word d f * 2 + f d
unfolding word
word-one-more d f = rw add-one

pub word_lt : (d : ℕ) (f : ℕ → ℕ) → ((j : ℕ) → j < d → f j < 2) → word d f < 2 ^ d
unfolding word
word_lt zero f bits = omega arith
word_lt (suc d) f bits = omega (arith, pow-suc 2 d, word_lt d f (λ j h. bits j (omega arith)), bits d (omega arith))

pub word-ext : (d : ℕ) (f g : ℕ → ℕ) → ((j : ℕ) → j < d → f j ≡ g j) → word d f ≡ word d g
unfolding word
word-ext zero f g same = refl
word-ext (suc d) f g same = ap₂ (λ (x y : ℕ). x * 2 + y) (word-ext d f g (λ j h. same j (omega arith))) (same d (omega arith))

pub word-zero : (d : ℕ) (f : ℕ → ℕ) → ((j : ℕ) → j < d → f j ≡ 0) → word d f ≡ 0
unfolding word
word-zero zero f none = refl
word-zero (suc d) f none = omega (arith, word-zero d f (λ j h. none j (omega arith)), none d (omega arith))

pub word-digit : (d : ℕ) (f : ℕ → ℕ) → ((j : ℕ) → j < d → f j < 2) → (j : ℕ) → j < d → digit (word d f) (d - 1 - j) ≡ f j
unfolding word
word-digit zero f bits j h = absurd (omega arith)
word-digit (suc d) f bits j h =
    let last : f d < 2 = bits d (omega arith) in
    ⊎_elim
    (λ (e : j ≡ d). ap (digit (word d f * 2 + f d)) (omega arith) ∙ more-first (word d f) (f d) last ∙ ap f (sym e))
    (λ (l : j < d). ap (digit (word d f * 2 + f d)) (omega arith) ∙ more-suc (word d f) (f d) (d - 1 - j) last
    ∙ word-digit d f (λ i k. bits i (omega arith)) j l)
    (eq-or-lt_of_le (omega arith))

pub word-digits : (d x : ℕ) → x < 2 ^ d → word d (λ j. digit x (d - 1 - j)) ≡ x
word-digits d x h =
    digit-ext d _ x (word_lt d _ (λ j l. digit_lt x (d - 1 - j))) h
    (λ j l. let back : d - 1 - (d - 1 - j) ≡ j = omega arith in
    rw back at (word-digit d (λ i. digit x (d - 1 - i)) (λ i k. digit_lt x (d - 1 - i)) (d - 1 - j) (omega arith)))

pub word-xor : (d : ℕ) (f g : ℕ → ℕ) → ((j : ℕ) → j < d → f j < 2) → ((j : ℕ) → j < d → g j < 2)
    → bit_xor (word d f) (word d g) ≡ word d (λ j. bit_xor (f j) (g j))
unfolding word
word-xor zero f g bits-f bits-g = refl
word-xor (suc d) f g bits-f bits-g =
    xor_block 1 (word d f) (word d g) (f d) (g d) (bits-f d (omega arith)) (bits-g d (omega arith))
    ∙ ap (λ (x : ℕ). x * 2 + bit_xor (f d) (g d)) (word-xor d f g (λ j h. bits-f j (omega arith)) (λ j h. bits-g j (omega arith)))

pub ones-word : (d : ℕ) (f : ℕ → ℕ) → ((j : ℕ) → j < d → f j < 2) → ones (word d f) ≡ sum d f
unfolding word sum
ones-word zero f bits = ones-zero
ones-word (suc d) f bits =
    more-ones (word d f) (f d) (bits d (omega arith)) ∙ ap (λ (x : ℕ). x + f d) (ones-word d f (λ j h. bits j (omega arith)))
