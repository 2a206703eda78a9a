-- The word of one vertex as the code reads it.
--   word_from bit block base d            the word of d digits at the entries from `base` on (specs Access)
--   read_word side wiring d block v       the word that vertex v of a side reads (specs Access)
--   Readable, AllReadable                what reading the word of one vertex, and of every vertex, asks (specs Access)
--   vertex_word side block v              the word of the definition (specs Block)
--   side_by sheet n wiring name           the side of these parts (specs Plan)
-- Laws are named by their subject, then by the fact: `read-` is about the word that is read, `word-from-` about a word of which some digits are
-- read. At the end of a name, `-readable` leads to what reading asks, `-one-more` is one more digit, `-zero` the zero block.
use Rattle.std.proofs.Common.{ℕ, ◌+◌, ◌*◌, ◌≤◌, ◌<◌, List, [], ◌≡◌, refl, sym, ap, ap₂, ◌∙◌, le_trans, arith, length, pow_mono}
use Rattle.bits.specs.Window.{at, word_at}
use Rattle.bits.specs.Bit.{word, bit_at}
use Rattle.bits.proofs.Words.{word_lt, word-one-more, word-zero}
use Rattle.bits.proofs.Bytes.{bit_at_lt, bit_at-zero}
use Rattle.inner_code.specs.Reply.{done}
use Rattle.inner_code.specs.Sheet.{degree}
use Rattle.wiring.specs.Plan.{Plan, edge_of, edge_count, sheet_of, count_of, left, right, side_bit, side_by}
use Rattle.wiring.specs.Wiring.{plan_check}
use Rattle.wiring.specs.Block.{vertex_word}
use Rattle.wiring.specs.Access.{word_from, read_word, both_codes, Readable, AllReadable}
use Rattle.wiring.specs.Checking.{}
use Rattle.wiring.specs.Code.{code_of}
use Rattle.wiring.specs.declared.side.SideCode.{SideCode}
use Rattle.wiring.specs.declared.side.SideName.{SideName}
use Rattle.wiring.proofs.Permutation.{fitted-vertex, entry_lt}
use Rattle.wiring.proofs.Plans.{plan-fits, plan-whole}

-- ---- reading

module _ (bit : ℕ → ℕ) (block : List ℕ) (base : ℕ) where
  pub word-from-none : word_from bit block base 0 ≡ 0
  unfolding word_from word
  word-from-none = refl

  pub word-from-one-more : (j so_far b e : ℕ) → so_far ≡ word_from bit block base j → b ≡ bit_at block e → e ≡ bit (base + j)
      → so_far * 2 + b ≡ word_from bit block base (j + 1)
  unfolding word_from
  word-from-one-more j so_far b e s r p =
      ap₂ (λ (x y : ℕ). x * 2 + y) s (r ∙ ap (bit_at block) p) ∙ sym (word-one-more j (λ i. bit_at block (bit (base + i))))

  pub word-from-lt : (j so_far : ℕ) → so_far ≡ word_from bit block base j → j ≤ 16 → so_far < 65536
  unfolding word_from
  word-from-lt j so_far s h =
      omega (arith, pow_mono {j = 16} h, word_lt j (λ i. bit_at block (bit (base + i))) (λ i l. bit_at_lt block (bit (base + i))))

-- a left vertex's bits stand in a row
pub read_left : (wiring : List ℕ) (d : ℕ) (block : List ℕ) (v : ℕ) → word_at block (v * d) d ≡ read_word left wiring d block v
unfolding read_word word_from side_bit word_at
read_left wiring d block v = refl

pub read_right : (wiring : List ℕ) (d : ℕ) (block : List ℕ) (v : ℕ)
    → word_from (edge_of wiring) block (v * d) d ≡ read_word right wiring d block v
unfolding read_word word_from side_bit
read_right wiring d block v = refl

-- it is the word of the definition
pub read-vertex : (sheet : List ℕ) (n : ℕ) (wiring : List ℕ) (name : SideName) (block : List ℕ) (v : ℕ)
    → read_word name wiring (degree sheet) block v ≡ vertex_word (side_by sheet n wiring name) block v
unfolding read_word word_from vertex_word
read-vertex sheet n wiring name block v = refl

-- ---- the zero block

pub read-zero : (side : SideName) (wiring : List ℕ) (d : ℕ) (block : List ℕ) (v : ℕ) → ((i : ℕ) → at block i ≡ 0)
    → read_word side wiring d block v ≡ 0
unfolding read_word word_from
read-zero side wiring d block v zero-block = word-zero d _ (λ j _. bit_at-zero block _ zero-block)

-- ---- a block of an accepted plan

module _ (plan : Plan) (accepted : plan_check plan ≡ done []) (block : List ℕ) (room : edge_count plan ≤ length block * 8) where
  pub plan-readable : (name : SideName) (v : ℕ) → v < count_of plan name → Readable name plan.wiring (degree (sheet_of plan name)) block v
  plan-readable name v l =
      let f = plan-fits plan accepted name in
      let w = plan-whole plan accepted name in
      record {
        narrow = f.d-high;
        few = omega (arith, f.n-high);
        fits = fitted-vertex f v l;
        held = λ j k. le_trans (w.bit-lt _ (entry_lt w v j l k)) room;
      }

  -- with the sides as the check has told them
  pub codes-readable : {l r : SideCode} → l ≡ code_of plan left → r ≡ code_of plan right → AllReadable (both_codes l r) plan.wiring block
  codes-readable {l} {r} left_is right_is = record { each = each }
    where
      each : (name : SideName) (v : ℕ) → v < (both_codes l r name).n → Readable name plan.wiring (both_codes l r name).d block v
      each SideName.Left v below = rw left_is (plan-readable left v (rw left_is at below))
      each SideName.Right v below = rw right_is (plan-readable right v (rw right_is at below))
