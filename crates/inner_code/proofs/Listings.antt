-- The codewords as the code lists them, by doubling: behind the words of the first i rows come the same words with row i put on.
--   doubled n r m l   the list l with r put on its words 0 .. m - 1, at the places n .. n + m - 1
--   listed row k l    the list l with the codewords of k rows at its places 0 .. 2^k - 1
--   Lists row k l r m the list m is l with the codewords of k rows listed, of 11 at most, and r is how many they are, where l has room
-- Laws are named by their subject, then by the fact; `lists-` is about what the code has listed, `front-` about the part of it that holds
-- the codewords.
use Rattle.std.proofs.Common.{◌≡◌, refl, sym, ap, ◌∙◌, ◌⊎◌, inl, inr, ⊎_elim, List, ℕ, zero, suc, ◌+◌, ◌^◌, ◌≤◌, ◌<◌, min, pow-suc}
use Rattle.std.proofs.Common.{le_of_lt, add-one, arith, length, get_or, set, take, length-set, get_or-set_same, get_or-set_other, set-set}
use Rattle.std.proofs.Common.{get_or-take, length-take-le, bit_xor, pow_mono}
use native.Mathlib.Nat.{le_dest, min-le_right}
use native.Mathlib.Decide.{dec_lt}
use Rattle.inner_code.specs.Code.{combination}
use Rattle.bits.specs.Window.{at}
use Rattle.inner_code.specs.Reduction.{doubled, listed, searched, Lists}
use Rattle.inner_code.proofs.Combinations.{combination-lower, combination-upper}
use Rattle.inner_code.proofs.NearestWord.{searched-ext}

pub doubled-one-more : (count row m : ℕ) (l : List ℕ)
    → doubled count row (m + 1) l ≡ set (doubled count row m l) (count + m) (bit_xor (get_or (doubled count row m l) m 0) row)
unfolding doubled
doubled-one-more count row m l = rw add-one

pub length-doubled : (count row m : ℕ) (l : List ℕ) → length (doubled count row m l) ≡ length l
unfolding doubled
length-doubled count row zero l = refl
length-doubled count row (suc m) l = length-set (doubled count row m l) (count + m) _ ∙ length-doubled count row m l

-- words before and behind the new ones stay
doubled-other : (count row m : ℕ) (l : List ℕ) (j : ℕ) → (j < count) ⊎ (count + m ≤ j) → get_or (doubled count row m l) j 0 ≡ get_or l j 0
unfolding doubled
doubled-other count row zero l j o = refl
doubled-other count row (suc m) l j o =
    get_or-set_other (doubled count row m l) (count + m) j _ 0
    (λ e. ⊎_elim (λ (a : j < count). omega arith) (λ (a : count + suc m ≤ j). omega arith) o)
    ∙ doubled-other count row m l j (⊎_elim (λ (a : j < count). inl a) (λ (a : count + suc m ≤ j). inr (omega arith)) o)

doubled-new : (count row m : ℕ) (l : List ℕ) (j : ℕ) → j < m → m ≤ count → count + m ≤ length l
    → get_or (doubled count row m l) (count + j) 0 ≡ bit_xor (get_or l j 0) row
unfolding doubled
doubled-new count row zero l j h b f = absurd (omega arith)
doubled-new count row (suc m) l j h b f =
    elim (dec_lt j m) [
      | yes s ↦
          get_or-set_other (doubled count row m l) (count + m) (count + j) _ 0 (λ e. omega arith)
          ∙ doubled-new count row m l j s (le_of_lt b) (omega arith)
      | no s ↦
          let e : j ≡ m = omega arith in
          rw e (get_or-set_same (doubled count row m l) (count + m) _ 0 (omega (arith, length-doubled count row m l))
          ∙ ap (λ (x : ℕ). bit_xor x row) (doubled-other count row m l m (inl b)))
    ]

pub listed-one-more : (row : ℕ → ℕ) (i : ℕ) (l : List ℕ) → listed row (i + 1) l ≡ doubled (2 ^ i) (row i) (2 ^ i) (listed row i l)
unfolding listed
listed-one-more row i l = rw add-one

pub length-listed : (row : ℕ → ℕ) (k : ℕ) (l : List ℕ) → length (listed row k l) ≡ length l
unfolding listed
length-listed row zero l = length-set l 0 0
length-listed row (suc i) l = length-doubled (2 ^ i) (row i) (2 ^ i) (listed row i l) ∙ length-listed row i l

pub listed-word : (row : ℕ → ℕ) (k : ℕ) (l : List ℕ) → 2 ^ k ≤ length l → (m : ℕ) → m < 2 ^ k → get_or (listed row k l) m 0 ≡ combination row k m
unfolding listed combination
listed-word row zero l f m h = let e : m ≡ 0 = omega arith in rw e (get_or-set_same l 0 0 0 (omega arith))
listed-word row (suc i) l f m h = go (listed-word row i l (omega (arith, pow-suc 2 i, f)))
  where
    lower : ((j : ℕ) → j < 2 ^ i → get_or (listed row i l) j 0 ≡ combination row i j) → m < 2 ^ i
        → get_or (doubled (2 ^ i) (row i) (2 ^ i) (listed row i l)) m 0 ≡ combination row (suc i) m
    lower before s = doubled-other (2 ^ i) (row i) (2 ^ i) (listed row i l) m (inl s) ∙ before m s ∙ sym (combination-lower row i m s)

    upper : ((j : ℕ) → j < 2 ^ i → get_or (listed row i l) j 0 ≡ combination row i j) → (j : ℕ) × (2 ^ i + j ≡ m)
        → get_or (doubled (2 ^ i) (row i) (2 ^ i) (listed row i l)) m 0 ≡ combination row (suc i) m
    upper before t =
        let b : t.0 < 2 ^ i = omega (arith, pow-suc 2 i, t.1, h) in
        rw (← t.1) (doubled-new (2 ^ i) (row i) (2 ^ i) (listed row i l) t.0 b (omega arith)
        (omega (arith, length-listed row i l, pow-suc 2 i, f))
        ∙ ap (λ (x : ℕ). bit_xor x (row i)) (before t.0 b)
        ∙ sym (combination-upper row i t.0 b))

    go : ((j : ℕ) → j < 2 ^ i → get_or (listed row i l) j 0 ≡ combination row i j)
        → get_or (doubled (2 ^ i) (row i) (2 ^ i) (listed row i l)) m 0 ≡ combination row (suc i) m
    go before = elim (dec_lt m (2 ^ i)) [ yes s ↦ lower before s | no s ↦ upper before (le_dest (omega arith)) ]

-- what stood at place 0 before does not matter
pub listed-again : (row : ℕ → ℕ) (k : ℕ) (l : List ℕ) → listed row k (set l 0 0) ≡ listed row k l
unfolding listed
listed-again row zero l = set-set l 0 0 0
listed-again row (suc i) l = ap (doubled (2 ^ i) (row i) (2 ^ i)) (listed-again row i l)

-- no code has more words than eleven rows make
pub words-most : (k : ℕ) → 2 ^ min k 11 ≤ 2048
words-most k = pow_mono {j = 11} (min-le_right k 11)

-- ---- what the code has listed, where there is room

module _ (row : ℕ → ℕ) (k : ℕ) {before words : List ℕ} {count : ℕ} (lists : Lists row k before count words)
    (room : 2 ^ min k 11 ≤ length before) where
  pub lists-few : count ≤ 2048
  lists-few = omega (arith, (lists.room room).0, words-most k)

  pub lists-fits : count ≤ length words
  lists-fits = omega (arith, (lists.room room).0, ap length (lists.room room).1, length-listed row (min k 11) before)

  pub lists-word : (m : ℕ) → m < 2 ^ min k 11 → get_or words m 0 ≡ combination row (min k 11) m
  lists-word m h = ap (λ (l : List ℕ). get_or l m 0) (lists.room room).1 ∙ listed-word row (min k 11) before room m h

  -- the words as a part that is lent on

  pub front_length : length (take count words) ≡ 2 ^ min k 11
  front_length = length-take-le count words lists-fits ∙ (lists.room room).0

  pub front-word : (m : ℕ) → m < 2 ^ min k 11 → at (take count words) m ≡ combination row (min k 11) m
  unfolding at
  front-word m h = get_or-take count words m 0 (omega (arith, (lists.room room).0)) ∙ lists-word m h

  -- a search over that part is a search over the codewords
  pub front-searched : (w : ℕ)
      → searched (at (take count words)) (length (take count words)) w ≡ searched (combination row (min k 11)) (2 ^ min k 11) w
  front-searched w =
      ap (λ (n : ℕ). searched (at (take count words)) n w) front_length
      ∙ searched-ext (at (take count words)) (combination row (min k 11)) (2 ^ min k 11) w front-word
