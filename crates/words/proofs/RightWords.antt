-- The words of the right side that the code keeps: how they go with the block.
--   WordsRead side block words   the list holds the words that the vertices of a side read (specs Words)
--   turned block e b             the block with its bit e turned where b is 1 (bits specs Window)
-- Laws are named by their subject, then by the fact: `words-` is about the words.
use Rattle.std.proofs.Common.{ℕ, ◌+◌, ◌-◌, ◌*◌, ◌/◌, ◌%◌, ◌^◌, ◌≤◌, ◌<◌, List, ◌≡◌, sym, ap, ◌∙◌, div-add-mod', div-lt_iff_lt-mul, mod-lt}
use Rattle.std.proofs.Common.{arith, bit_xor, length, set, length-set}
use native.Mathlib.Decide.{ℕ_discrete}
use Rattle.bits.specs.Window.{at, turned}
use Rattle.bits.proofs.Turning.{length-turned}
use Rattle.wiring.specs.Plan.{Side}
use Rattle.wiring.specs.Block.{vertex_word}
use Rattle.bits.proofs.Lists.{at_set_same, at_set_other}
use Rattle.wiring.proofs.Permutation.{Whole}
use Rattle.wiring.proofs.TurnedBits.{vertex-turned-same, vertex-turned-other}
use Rattle.words.specs.Words.{WordsRead}

module _ {N : ℕ} {side : Side} (w : Whole N side) {block words : List ℕ} (reads : WordsRead side block words) where
  -- a bit that is turned in the block is turned in the word of the vertex that reads it
  pub words-turned : (few : side.n ≤ 2048) (place : ℕ) {e : ℕ} {after told : List ℕ} → place < N → e ≡ side.bit place
      → after ≡ turned block e 1
      → told ≡ set words (place / side.d) (bit_xor (at words (place / side.d)) (2 ^ (side.d - 1 - place % side.d)))
      → WordsRead side after told
  words-turned few place {e} {after} {told} below at_place turns tells =
      record {
        sized = ap length tells ∙ length-set words v _ ∙ reads.sized;
        room = rw (turns, length-turned) reads.room;
        each = λ u l. elim (ℕ_discrete u v) [ yes same ↦ rw same here | no apart ↦ there u l apart ];
      }
    where
      v : ℕ
      v = place / side.d

      j : ℕ
      j = place % side.d

      v-lt : v < side.n
      v-lt = (div-lt_iff_lt-mul w.degree-pos).1 (rw w.entries below)

      j-lt : j < side.d
      j-lt = mod-lt place w.degree-pos

      back : v * side.d + j ≡ place
      back = div-add-mod' place side.d

      turned-is : after ≡ turned block (side.bit (v * side.d + j)) 1
      turned-is = turns ∙ ap (λ (i : ℕ). turned block i 1) (at_place ∙ ap side.bit (sym back))

      holds : N ≤ length block * 8
      holds = rw w.entries at reads.room

      here : at told v ≡ vertex_word side after v
      here =
          ap (λ (l : List ℕ). at l v) tells ∙ at_set_same words v _ (omega (arith, reads.sized, v-lt))
          ∙ ap (λ (x : ℕ). bit_xor x (2 ^ (side.d - 1 - j))) (reads.each v v-lt)
          ∙ sym (ap (λ (l : List ℕ). vertex_word side l v) turned-is ∙ vertex-turned-same w block holds v j v-lt j-lt)

      there : (u : ℕ) → u < side.n → (u ≡ v → ⊥) → at told u ≡ vertex_word side after u
      there u l apart =
          ap (λ (l : List ℕ). at l u) tells ∙ at_set_other words v u _ apart ∙ reads.each u l
          ∙ sym (ap (λ (l : List ℕ). vertex_word side l u) turned-is ∙ vertex-turned-other w block holds v j v-lt j-lt u l apart)

-- one more word that is fetched
pub words_more : (side : Side) (block words : List ℕ) (v x : ℕ) {told : List ℕ} → v < length words → told ≡ set words v x
    → ((u : ℕ) → u < v → at words u ≡ vertex_word side block u) → x ≡ vertex_word side block v
    → (u : ℕ) → u < v + 1 → at told u ≡ vertex_word side block u
words_more side block words v x {told} below tells so_far read u l =
    ap (λ (l : List ℕ). at l u) tells
    ∙ elim (ℕ_discrete u v) [
      | yes same ↦ rw same (at_set_same words v x below ∙ read)
      | no apart ↦ at_set_other words v u x apart ∙ so_far u (omega arith)
    ]
