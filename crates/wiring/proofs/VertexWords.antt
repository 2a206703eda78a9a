-- The words that vertices read from a block, and a block with a vertex's word put into it.
--   vertex_word side block v       the word that vertex v reads, its first edge of the highest weight (specs Block)
--   heard side since block v      vertex v reads another word in `block` than in `since` (specs Block)
--   scattered bit d at w m block  the block with the first m of the d digits of w put at the entries from `at` on (specs Block)
--   with_word side v w block       the block with the word w put at vertex v (specs Block)
--   Whole N side                  the entries of a side are the bits 0 .. N - 1, each once (Permutation)
--   bit_at block i                 bit i of the block (bits specs Bit)
--   digit w j                     the binary digit of weight 2^j of the number w (bits specs Bit)
-- Laws are named by their subject, then by the fact: `vertex-` is about one word that is read, `scattered-` about digits that are
-- written, `with_word-` about a word that is, `heard-` about a vertex that reads another word, `flips-` about the bits in which all words of a side differ. At the end of a name, `-lt` is a bound, `-ext` equality
-- from the bits, `-same` and `-other` what is written to and what is not, `-fixed` a write of what stands there, `-one-more` one more digit.
use Rattle.std.proofs.Common.{ℕ, zero, suc, ◌+◌, ◌-◌, ◌*◌, ◌/◌, ◌^◌, ◌≤◌, ◌<◌, true, false, List, ⊎_elim, ◌≡◌, refl, sym, ap, ◌∙◌, arith}
use Rattle.std.proofs.Common.{eq-eqb, ne_eqb, le_trans, lt-suc_self, not-suc-le-zero, eq-or-lt_of_le, le_of_suc-le-suc, ne_of_lt, add-one}
use Rattle.std.proofs.Common.{bit_xor, length, get_or}
use mathlib.Core.Logic.{◌≢◌}
use native.Mathlib.Decide.{ℕ_discrete}
use native.Mathlib.Nat.{le_step}
use lib.Arith.{digits_div}
use lib.Count.{ones}
use Rattle.bits.specs.Bit.{digit, bit_at, with_bit, flips}
use Rattle.bits.specs.Sum.{sum, flag}
use Rattle.bits.proofs.Sums.{sum-ext, sum-blocks, sum-reindex, flag_true, flag-false}
use Rattle.bits.proofs.Xor.{digit_lt, xor-bits-lt}
use Rattle.bits.proofs.Words.{word_lt, word-ext, word-digit, word-digits, word-xor, ones-word}
use Rattle.bits.proofs.Bytes.{bit_at_lt, bit_at-same, bit_at-other, length-with_bit, with_bit-byte, with_bit-keeps}
use Rattle.wiring.specs.Plan.{Side}
use Rattle.wiring.specs.Block.{vertex_word, heard, scattered, with_word}
use Rattle.wiring.proofs.Permutation.{Whole, place_of, place-bit, place-lt, bit-place, entry_lt}

-- ---- one word that is read

module _ (side : Side) where
  pub vertex-lt : (block : List ℕ) (v : ℕ) → vertex_word side block v < 2 ^ side.d
  unfolding vertex_word
  vertex-lt block v = word_lt side.d _ (λ j l. bit_at_lt block (side.bit (v * side.d + j)))

  pub vertex-digit : (block : List ℕ) (v j : ℕ) → j < side.d
      → digit (vertex_word side block v) (side.d - 1 - j) ≡ bit_at block (side.bit (v * side.d + j))
  unfolding vertex_word
  vertex-digit block v = word-digit side.d _ (λ j l. bit_at_lt block (side.bit (v * side.d + j)))

  module _ (a b : List ℕ) (v : ℕ) where
    pub vertex-ext : ((j : ℕ) → j < side.d → bit_at a (side.bit (v * side.d + j)) ≡ bit_at b (side.bit (v * side.d + j)))
        → vertex_word side a v ≡ vertex_word side b v
    unfolding vertex_word
    vertex-ext same = word-ext side.d _ _ same

    pub vertex-bits : vertex_word side a v ≡ vertex_word side b v
        → (j : ℕ) → j < side.d → bit_at a (side.bit (v * side.d + j)) ≡ bit_at b (side.bit (v * side.d + j))
    vertex-bits e j l = sym (vertex-digit a v j l) ∙ ap (λ (w : ℕ). digit w (side.d - 1 - j)) e ∙ vertex-digit b v j l

    -- two words differ in as many digits as the blocks differ in bits of the vertex
    pub vertex-differing : ones (bit_xor (vertex_word side a v) (vertex_word side b v))
        ≡ sum side.d (λ j. bit_xor (bit_at a (side.bit (v * side.d + j))) (bit_at b (side.bit (v * side.d + j))))
    unfolding vertex_word
    vertex-differing =
        ap ones (word-xor side.d _ _ (λ j l. bit_at_lt a (side.bit (v * side.d + j))) (λ j l. bit_at_lt b (side.bit (v * side.d + j))))
        ∙ ones-word side.d _ (λ j l. xor-bits-lt _ _ (bit_at_lt a (side.bit (v * side.d + j))) (bit_at_lt b (side.bit (v * side.d + j))))

-- ---- one word that is written

module _ (bit : ℕ → ℕ) (d at w : ℕ) where
  pub scattered-one-more : (m : ℕ) (block : List ℕ)
      → scattered bit d at w (m + 1) block ≡ with_bit (scattered bit d at w m block) (bit (at + m)) (digit w (d - 1 - m))
  unfolding scattered
  scattered-one-more m block = rw add-one

  pub length-scattered : (m : ℕ) (block : List ℕ) → length (scattered bit d at w m block) ≡ length block
  unfolding scattered
  length-scattered zero block = refl
  length-scattered (suc m) block = length-with_bit (scattered bit d at w m block) (bit (at + m)) (digit w (d - 1 - m)) ∙ length-scattered m block

  pub scattered-bytes : (m : ℕ) (block : List ℕ) → ((k : ℕ) → get_or block k 0 < 256) → (k : ℕ) → get_or (scattered bit d at w m block) k 0 < 256
  unfolding scattered
  scattered-bytes zero block small = small
  scattered-bytes (suc m) block small =
      with_bit-byte (scattered bit d at w m block) (bit (at + m)) _ (digit_lt w (d - 1 - m)) (scattered-bytes m block small)

  pub scattered-other : (m : ℕ) (block : List ℕ) (e : ℕ) → ((j : ℕ) → j < m → bit (at + j) ≢ e)
      → bit_at (scattered bit d at w m block) e ≡ bit_at block e
  unfolding scattered
  scattered-other zero block e none = refl
  scattered-other (suc m) block e none =
      bit_at-other _ (bit (at + m)) e _ (none m (lt-suc_self m)) (digit_lt w (d - 1 - m)) ∙ scattered-other m block e (λ j l. none j (le_step l))

  pub scattered-same : (m : ℕ) (block : List ℕ) → ((j : ℕ) → j < m → bit (at + j) < length block * 8)
      → ((i j : ℕ) → i < m → j < m → bit (at + i) ≡ bit (at + j) → i ≡ j)
      → (j : ℕ) → j < m → bit_at (scattered bit d at w m block) (bit (at + j)) ≡ digit w (d - 1 - j)
  unfolding scattered
  scattered-same zero block inside once j l = absurd (not-suc-le-zero l)
  scattered-same (suc m) block inside once j l =
      ⊎_elim
      (λ (e : j ≡ m).
      rw e (bit_at-same (scattered bit d at w m block) (bit (at + m)) _ (rw length-scattered (inside m (lt-suc_self m))) (digit_lt w (d - 1 - m))))
      (λ (k : j < m).
      bit_at-other _ (bit (at + m)) (bit (at + j)) _ (λ e. ne_of_lt k (sym (once m j (lt-suc_self m) l e))) (digit_lt w (d - 1 - m))
      ∙ scattered-same m block (λ i h. inside i (le_step h)) (λ i j h k. once i j (le_step h) (le_step k)) j k)
      (eq-or-lt_of_le (le_of_suc-le-suc l))

  -- a write of the digits that stand there changes nothing
  scattered-keeps : (m : ℕ) (block : List ℕ) → ((j : ℕ) → j < m → digit w (d - 1 - j) ≡ bit_at block (bit (at + j)))
      → scattered bit d at w m block ≡ block
  unfolding scattered
  scattered-keeps zero block same = refl
  scattered-keeps (suc m) block same =
      rw (scattered-keeps m block (λ j l. same j (le_step l))) (with_bit-keeps block (bit (at + m)) _ (same m (lt-suc_self m)))

-- ---- a word that is written and read

pub with_word-fixed : (side : Side) (block : List ℕ) (v : ℕ) → with_word side v (vertex_word side block v) block ≡ block
with_word-fixed side block v = scattered-keeps side.bit side.d (v * side.d) _ side.d block (vertex-digit side block v)

module _ {N : ℕ} {side : Side} (w : Whole N side) (x : ℕ) (block : List ℕ) where
  pub with_word-same : (v : ℕ) → x < 2 ^ side.d → N ≤ length block * 8 → v < side.n → vertex_word side (with_word side v x block) v ≡ x
  unfolding vertex_word
  with_word-same v h room l =
      word-ext side.d _ _
      (scattered-same side.bit side.d (v * side.d) x side.d block
      (λ j k. le_trans (w.bit-lt _ (entry_lt w v j l k)) room)
      (λ i j k q e. let same : v * side.d + i ≡ v * side.d + j = w.bit-once _ _ (entry_lt w v i l k) (entry_lt w v j l q) e in omega arith))
      ∙ word-digits side.d x h

  pub with_word-other : (u v : ℕ) → u < side.n → v < side.n → u ≢ v → vertex_word side (with_word side v x block) u ≡ vertex_word side block u
  with_word-other u v hu hv apart =
      vertex-ext side _ block u
      (λ j l. scattered-other side.bit side.d (v * side.d) x side.d block (side.bit (u * side.d + j))
      (λ i k e. apart (sym (sym (digits_div v k)
      ∙ ap (λ (y : ℕ). y / side.d) (w.bit-once _ _ (entry_lt w v i hv k) (entry_lt w u j hu l) e) ∙ digits_div u l))))

-- ---- all words of a side

module _ {N : ℕ} {side : Side} (w : Whole N side) (a b : List ℕ) where
  -- two blocks differ in as many bits as the words of a side's vertices do: every bit stands at one vertex
  pub flips-words : flips N a b ≡ sum side.n (λ v. ones (bit_xor (vertex_word side a v) (vertex_word side b v)))
  unfolding flips
  flips-words =
      sym (sum-reindex N side.bit (place_of N side) w.bit-lt (place-lt w) (place-bit w) (bit-place w) (λ e. bit_xor (bit_at a e) (bit_at b e)))
      ∙ ap (λ (m : ℕ). sum m (λ i. bit_xor (bit_at a (side.bit i)) (bit_at b (side.bit i)))) (sym w.entries)
      ∙ sum-blocks side.n side.d (λ i. bit_xor (bit_at a (side.bit i)) (bit_at b (side.bit i)))
      ∙ sum-ext side.n _ _ (λ v l. sym (vertex-differing side a b v))

-- ---- vertices that read another word

module _ (side : Side) (since : List ℕ) where
  pub heard-none : (block : List ℕ) (v : ℕ) → vertex_word side since v ≡ vertex_word side block v → heard side since block v ≡ false
  unfolding heard
  heard-none block v e = rw (eq-eqb _ _ e)

  pub heard-some : (block : List ℕ) (v : ℕ) → (vertex_word side since v ≡ vertex_word side block v → ⊥) → heard side since block v ≡ true
  unfolding heard
  heard-some block v apart = rw (ne_eqb _ _ apart)

  -- and back
  pub heard-back : (block : List ℕ) (v : ℕ) → heard side since block v ≡ false → vertex_word side block v ≡ vertex_word side since v
  heard-back block v e =
      elim (ℕ_discrete (vertex_word side since v) (vertex_word side block v)) [
        | yes same ↦ sym same
        | no apart ↦ absurd (true-false (sym (heard-some block v apart) ∙ e))
      ]
    where
      true-false : true ≡ false → ⊥
      true-false q = let z : ◌≡◌ {A = ℕ} 1 0 = sym flag_true ∙ ap flag q ∙ flag-false in omega arith

  pub heard-ext : (a b : List ℕ) (v : ℕ) → vertex_word side b v ≡ vertex_word side a v → heard side since b v ≡ heard side since a v
  unfolding heard
  heard-ext a b v e = rw e
