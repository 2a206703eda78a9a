-- One bit of a block that is turned, in the words that vertices read.
--   turned block e b          the block with its bit e turned where b is 1 (bits specs Window)
--   vertex_word side block v   the word that vertex v reads, its first edge of the highest weight (specs Block)
--   Whole N side              the entries of a side are the bits 0 .. N - 1, each once (Permutation)
-- Entry i of a side is read by vertex i / d, as its digit of weight 2^(d - 1 - i % d). Laws are named `vertex-turned-`: `-same` is that vertex,
-- `-other` any other.
use Rattle.std.proofs.Common.{ℕ, ◌+◌, ◌-◌, ◌*◌, ◌/◌, ◌^◌, ◌≤◌, ◌<◌, List, ◌≡◌, sym, ap, ◌∙◌, le_trans, one-mul, arith, bit_xor, length}
use mathlib.Core.Logic.{◌≢◌}
use native.Mathlib.Decide.{ℕ_discrete}
use lib.Arith.{digits_div}
use lib.Bits.{xor_zero_r, xor_lt}
use lib.Pow.{pow-lt}
use Rattle.bits.specs.Bit.{digit, bit_at}
use Rattle.bits.specs.Window.{turned}
use Rattle.bits.proofs.Turning.{bit_at-turned-same, bit_at-turned-other}
use Rattle.bits.proofs.Xor.{digit-ext, digit-pow, digit-pow-other, xor-digit}
use Rattle.wiring.specs.Plan.{Side}
use Rattle.wiring.specs.Block.{vertex_word}
use Rattle.wiring.proofs.Permutation.{Whole, entry_lt}
use Rattle.wiring.proofs.VertexWords.{vertex-lt, vertex-digit, vertex-ext}

module _ {N : ℕ} {side : Side} (w : Whole N side) (block : List ℕ) (room : N ≤ length block * 8) (v j : ℕ) (below : v < side.n)
    (in-word : j < side.d) where
  abbrev entry : ℕ
  entry = v * side.d + j

  abbrev after : List ℕ
  after = turned block (side.bit entry) 1

  -- another entry reads another bit
  other-bit : (u i : ℕ) → u < side.n → i < side.d → (u * side.d + i ≡ entry → ⊥)
      → bit_at after (side.bit (u * side.d + i)) ≡ bit_at block (side.bit (u * side.d + i))
  other-bit u i hu hi apart =
      bit_at-turned-other block (side.bit entry) 1 (omega arith) _
      (λ e. apart (sym (w.bit-once _ _ (entry_lt w v j below in-word) (entry_lt w u i hu hi) e)))

  pub vertex-turned-other : (u : ℕ) → u < side.n → u ≢ v → vertex_word side after u ≡ vertex_word side block u
  vertex-turned-other u hu apart =
      vertex-ext side after block u
      (λ i hi. other-bit u i hu hi (λ e. apart (sym (digits_div u hi) ∙ ap (λ (x : ℕ). x / side.d) e ∙ digits_div v in-word)))

  abbrev Turned : ℕ → Type 0
  Turned i =
      bit_at after (side.bit (v * side.d + i)) ≡ bit_xor (bit_at block (side.bit (v * side.d + i))) (digit (2 ^ (side.d - 1 - j)) (side.d - 1 - i))

  -- digit by digit: the one of entry j is turned
  turned-digit : (i : ℕ) → i < side.d
      → digit (vertex_word side after v) (side.d - 1 - i) ≡ digit (bit_xor (vertex_word side block v) (2 ^ (side.d - 1 - j))) (side.d - 1 - i)
  turned-digit i l =
      vertex-digit side after v i l ∙ elim (ℕ_discrete i j) [ yes e ↦ same e | no apart ↦ other apart ]
      ∙ ap (λ (x : ℕ). bit_xor x (digit (2 ^ (side.d - 1 - j)) (side.d - 1 - i))) (sym (vertex-digit side block v i l))
      ∙ sym (xor-digit (vertex_word side block v) (2 ^ (side.d - 1 - j)) (side.d - 1 - i))
    where
      same : i ≡ j → Turned i
      same e =
          rw e
          (bit_at-turned-same block (side.bit entry) 1 (omega arith) (le_trans (w.bit-lt _ (entry_lt w v j below in-word)) room)
          ∙ ap (bit_xor (bit_at block (side.bit entry))) (sym (digit-pow (side.d - 1 - j))))

      other : (i ≡ j → ⊥) → Turned i
      other apart =
          other-bit v i below l (λ e. apart (omega arith))
          ∙ sym (xor_zero_r (bit_at block (side.bit (v * side.d + i))))
          ∙ ap (bit_xor (bit_at block (side.bit (v * side.d + i))))
          (sym (digit-pow-other 1 (side.d - 1 - j) (side.d - 1 - i) (omega arith) (λ e. apart (omega arith)))
          ∙ ap (λ (x : ℕ). digit x (side.d - 1 - i)) (one-mul (2 ^ (side.d - 1 - j))))

  pub vertex-turned-same : vertex_word side after v ≡ bit_xor (vertex_word side block v) (2 ^ (side.d - 1 - j))
  vertex-turned-same =
      digit-ext side.d _ _ (vertex-lt side after v)
      (xor_lt side.d _ _ (vertex-lt side block v) (pow-lt (omega arith)))
      (λ k l. let back : side.d - 1 - (side.d - 1 - k) ≡ k = omega arith in rw back at (turned-digit (side.d - 1 - k) (omega arith)))
