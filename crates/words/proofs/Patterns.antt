-- A pattern that is put on the bits of one vertex, one after another: it makes the vertex's word the exclusive-or of what it was and the pattern.
--   pattern_put bit d base p h block   the block with the h lowest digits of the pattern p put on the bits of a vertex (specs Words)
--   turned block e b                  the block with its bit e turned where b is 1 (bits specs Window)
--   with_word side v w block           the block with the word w put at vertex v (wiring specs Block)
--   scattered bit d at w m block      the block with the first m of the d digits of w put at the entries from `at` on (wiring specs Block)
--   Rest .., Fresh ..                 what a loop that puts the highest one first still has to put, and that the bits it has to turn are as they were
-- Laws are named `pattern-`, `rest-` or `fresh-` and then by the fact.
use Rattle.std.proofs.Common.{ℕ, zero, suc, ◌+◌, ◌-◌, ◌*◌, ◌^◌, ◌≤◌, ◌<◌, List, ◌≡◌, refl, sym, ap, ap₂, ◌∙◌, lt-suc_self, add-zero}
use Rattle.std.proofs.Common.{add-suc, ne_of_lt, pow-suc, add-one, arith, bit_xor, length, pow_mono}
use native.Mathlib.Nat.{le_step}
use native.Mathlib.Decide.{dec_le}
use Rattle.bits.specs.Bit.{digit, bit_at, with_bit}
use Rattle.bits.specs.Window.{turned}
use Rattle.bits.proofs.Turning.{turned_none, length-turned, bit_at-turned-other}
use Rattle.bits.proofs.Xor.{xor-digit, digit-high, digit-upper, digit-pow-same, digit-pow-other}
use Rattle.wiring.specs.Plan.{Side}
use Rattle.wiring.specs.Block.{vertex_word, scattered, with_word}
use Rattle.wiring.proofs.Permutation.{Whole, entry_lt}
use Rattle.wiring.proofs.VertexWords.{vertex-digit, scattered-one-more, scattered-other}
use Rattle.words.specs.Words.{pattern_put}

module _ (bit : ℕ → ℕ) (d base : ℕ) where
  -- the entry at which digit h stands
  abbrev entry_of : ℕ → ℕ
  entry_of h = bit (base + (d - 1 - h))

  pub length-pattern : (p h : ℕ) (block : List ℕ) → length (pattern_put bit d base p h block) ≡ length block
  unfolding pattern_put
  length-pattern p zero block = refl
  length-pattern p (suc h) block = length-pattern p h _ ∙ length-turned block (entry_of h) (digit p h)

  -- the digits at and above h are 0
  pattern-high : (p h t : ℕ) (block : List ℕ) → p < 2 ^ h → pattern_put bit d base p (h + t) block ≡ pattern_put bit d base p h block
  unfolding pattern_put
  pattern-high p h zero block l = ap (λ (m : ℕ). pattern_put bit d base p m block) (add-zero h)
  pattern-high p h (suc t) block l =
      ap (λ (m : ℕ). pattern_put bit d base p m block) (add-suc h t) ∙ one_more ∙ pattern-high p h t block l
    where
      one_more : pattern_put bit d base p (suc (h + t)) block ≡ pattern_put bit d base p (h + t) block
      one_more =
          ap (pattern_put bit d base p (h + t))
          (ap (turned block (entry_of (h + t))) (digit-high h p (h + t) l (omega arith)) ∙ turned_none block (entry_of (h + t)))

  -- the digits below h alone count
  pattern-ext : (p q h : ℕ) (block : List ℕ) → ((j : ℕ) → j < h → digit p j ≡ digit q j)
      → pattern_put bit d base p h block ≡ pattern_put bit d base q h block
  unfolding pattern_put
  pattern-ext p q zero block same = refl
  pattern-ext p q (suc h) block same =
      ap (λ (b : ℕ). pattern_put bit d base p h (turned block (entry_of h) b)) (same h (lt-suc_self h))
      ∙ pattern-ext p q h _ (λ j l. same j (le_step l))

  pattern-all : (p h : ℕ) (block : List ℕ) → p < 2 ^ h → h ≤ d → pattern_put bit d base p d block ≡ pattern_put bit d base p h block
  pattern-all p h block l within =
      let whole : h + (d - h) ≡ d = omega arith in
      ap (λ (m : ℕ). pattern_put bit d base p m block) (sym whole) ∙ pattern-high p h (d - h) block l

  -- no digit, no turn
  pub pattern-none : (block : List ℕ) → pattern_put bit d base 0 d block ≡ block
  unfolding pattern_put
  pattern-none block = pattern-all 0 0 block (omega arith) (omega arith)

  -- the highest one first: its bit is turned, and the rest is put on the block so made
  pub pattern-step : (p r h : ℕ) (block : List ℕ) → p ≡ 2 ^ h + r → r < 2 ^ h → h < d
      → pattern_put bit d base p d block ≡ pattern_put bit d base r d (turned block (entry_of h) 1)
  unfolding pattern_put
  pattern-step p r h block is low within =
      pattern-all p (suc h) block (omega (arith, pow-suc 2 h)) within
      ∙ highest
      ∙ pattern-ext p r h _ (λ j l. below j l)
      ∙ sym (pattern-all r h _ low (omega arith))
    where
      below : (j : ℕ) → j < h → digit p j ≡ digit r j
      below j l =
          ap (λ (x : ℕ). digit x j) is ∙ digit-upper h r j low
          ∙ ap (λ (x : ℕ). bit_xor x (digit r j)) (digit-pow-other 1 h j (omega arith) (ne_of_lt l))

      top : digit p h ≡ 1
      top =
          ap (λ (x : ℕ). digit x h) is ∙ digit-upper h r h low
          ∙ ap₂ bit_xor (digit-pow-same 1 h (omega arith)) (digit-high h r h low (omega arith))

      highest : pattern_put bit d base p (suc h) block ≡ pattern_put bit d base p h (turned block (entry_of h) 1)
      highest = ap (λ (b : ℕ). pattern_put bit d base p h (turned block (entry_of h) b)) top

-- ---- the ones that are still to be put, as a loop takes them off

-- the highest digit of a number of n digits
pub digit-below : (h x n : ℕ) → 2 ^ h ≤ x → x < 2 ^ n → h < n
digit-below h x n low high = elim (dec_le n h) [ yes l ↦ absurd (omega (arith, pow_mono {j = h} l)) | no l ↦ omega arith ]

pub record Rest (bit : ℕ → ℕ) (d base : ℕ) (goal block : List ℕ) (rest : ℕ) : Type 0 where
  pub low : rest < 2 ^ d
  pub putting : pattern_put bit d base rest d block ≡ goal

module _ {bit : ℕ → ℕ} {d base : ℕ} {goal block : List ℕ} {rest : ℕ} (r : Rest bit d base goal block rest) where
  pub rest-sized : length block ≡ length goal
  rest-sized = sym (length-pattern bit d base rest d block) ∙ ap length r.putting

  pub rest-none : rest ≡ 0 → block ≡ goal
  rest-none e = sym (ap (λ (p : ℕ). pattern_put bit d base p d block) e ∙ pattern-none bit d base block) ∙ r.putting

  module _ (h : ℕ) (low : 2 ^ h ≤ rest) (high : rest < 2 ^ (h + 1)) where
    pub rest-high : h < d
    rest-high = digit-below h rest d low r.low

    pub rest_more : {e power : ℕ} {after : List ℕ} → e ≡ bit (base + (d - 1 - h)) → power ≡ 2 ^ h → after ≡ turned block e 1
        → Rest bit d base goal after (rest - power)
    rest_more {e} {power} at is turns =
        let left : rest - power < 2 ^ h = omega (arith, rw add-one at high, pow-suc 2 h) in
        record {
          low = omega (arith, r.low);
          putting = ap (pattern_put bit d base (rest - power) d) (turns ∙ ap (λ (i : ℕ). turned block i 1) at)
              ∙ sym (pattern-step bit d base rest (rest - power) h block (omega (arith, is)) left rest-high)
              ∙ r.putting;
        }

-- ---- the bits that are still to be turned are as they were at first

pub record Fresh (bit : ℕ → ℕ) (d base : ℕ) (start block : List ℕ) (rest : ℕ) : Type 0 where
  pub each : (h : ℕ) → h < d → 2 ^ h ≤ rest → bit_at block (bit (base + (d - 1 - h))) ≡ bit_at start (bit (base + (d - 1 - h)))

pub fresh_start : {bit : ℕ → ℕ} {d base : ℕ} {block : List ℕ} {rest : ℕ} → Fresh bit d base block block rest
fresh_start = record { each = λ h l low. refl }

module _ {bit : ℕ → ℕ} {d base : ℕ} {start block : List ℕ} {rest : ℕ} where
  -- where the highest one is put; no two of the d entries are one bit
  pub fresh-more : Fresh bit d base start block rest
      → ((i j : ℕ) → i < d → j < d → bit (base + i) ≡ bit (base + j) → i ≡ j)
      → (h : ℕ) → h < d → 2 ^ h ≤ rest → rest < 2 ^ (h + 1) → {e power : ℕ} {after : List ℕ} → e ≡ bit (base + (d - 1 - h)) → power ≡ 2 ^ h
      → after ≡ turned block e 1 → Fresh bit d base start after (rest - power)
  fresh-more fresh once h within low high {e} {power} {after} at is turns =
      record { each = each }
    where
      each : (k : ℕ) → k < d → 2 ^ k ≤ rest - power → bit_at after (bit (base + (d - 1 - k))) ≡ bit_at start (bit (base + (d - 1 - k)))
      each k l small =
          let below : k < h = digit-below k (rest - power) h small (omega (arith, rw add-one at high, pow-suc 2 h, is, low)) in
          let apart : e ≡ bit (base + (d - 1 - k)) → ⊥ =
          λ q. let same = once (d - 1 - h) (d - 1 - k) (omega arith) (omega arith) (sym at ∙ q) in omega arith in
          ap (λ (b : List ℕ). bit_at b (bit (base + (d - 1 - k)))) turns
          ∙ bit_at-turned-other block e 1 (omega arith) (bit (base + (d - 1 - k))) apart
          ∙ fresh.each k l (omega arith)

-- ---- on a vertex's word

module _ {N : ℕ} {side : Side} (w : Whole N side) (v : ℕ) (below : v < side.n) (p : ℕ) (block : List ℕ) where
  abbrev mended : ℕ
  mended = bit_xor (vertex_word side block v) p

  abbrev partly : ℕ → List ℕ
  partly m = scattered side.bit side.d (v * side.d) mended m block

  -- entry m reads what it read at first, as long as only the entries before it are written
  still : (m : ℕ) → m < side.d → bit_at (partly m) (side.bit (v * side.d + m)) ≡ digit (vertex_word side block v) (side.d - 1 - m)
  still m l =
      scattered-other side.bit side.d (v * side.d) mended m block (side.bit (v * side.d + m))
      (λ j k e.
      let same : v * side.d + j ≡ v * side.d + m = w.bit-once _ _ (entry_lt w v j below (omega arith)) (entry_lt w v m below l) e in
      omega arith)
      ∙ sym (vertex-digit side block v m l)

  one-digit : (m : ℕ) → m < side.d → turned (partly m) (side.bit (v * side.d + m)) (digit p (side.d - 1 - m)) ≡ partly (m + 1)
  unfolding turned
  one-digit m l =
      ap (with_bit (partly m) (side.bit (v * side.d + m)))
      (ap (λ (x : ℕ). bit_xor x (digit p (side.d - 1 - m))) (still m l) ∙ sym (xor-digit (vertex_word side block v) p (side.d - 1 - m)))
      ∙ sym (scattered-one-more side.bit side.d (v * side.d) mended m block)

  from-there : (h : ℕ) → h ≤ side.d → pattern_put side.bit side.d (v * side.d) p h (partly (side.d - h)) ≡ partly side.d
  unfolding pattern_put
  from-there zero within = ap partly (omega arith)
  from-there (suc h) within =
      let here : side.d - 1 - (side.d - 1 - h) ≡ h = omega arith in
      let before : side.d - suc h ≡ side.d - 1 - h = omega arith in
      let next : side.d - 1 - h + 1 ≡ side.d - h = omega arith in
      ap (pattern_put side.bit side.d (v * side.d) p h)
      (ap (λ (m : ℕ). turned (partly m) (side.bit (v * side.d + (side.d - 1 - h))) (digit p h)) before
      ∙ rw (here, next) at (one-digit (side.d - 1 - h) (omega arith)))
      ∙ from-there h (omega arith)

  -- the block with the pattern on the vertex's bits has the word and the pattern at the vertex
  pub pattern-word : pattern_put side.bit side.d (v * side.d) p side.d block ≡ with_word side v mended block
  unfolding scattered
  pattern-word =
      let none : side.d - side.d ≡ 0 = omega arith in
      rw none at (from-there side.d (omega arith))
