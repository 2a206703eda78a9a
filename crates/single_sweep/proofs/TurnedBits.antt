-- A bit that changes, told to the vertex of the other side that reads it.
--   unsatisfied_at side block       how many vertices of a side read no inner codeword (unsatisfied specs Count)
--   missed_of code w                1 where the code's test of a word fails (unsatisfied specs Answer)
--   across_from side wiring places i  the entry of the other side at which the bit stands that entry i of a side has (specs Telling)
--   Across wiring side places      what leads there (wiring specs Places)
--   code_of                         a side as the code holds it (wiring specs Code)
-- Laws are named by their subject, then by the fact: `across-` is about the entry of the other side, `told-` about the count of a side in which
-- one bit is turned, `count-` about the counts of both sides.
use Rattle.std.proofs.Common.{ℕ, ◌+◌, ◌-◌, ◌*◌, ◌/◌, ◌%◌, ◌^◌, ◌≤◌, ◌<◌, List, [], ◌≡◌, refl, sym, ap, ap₂, ◌∙◌, div-add-mod'}
use Rattle.std.proofs.Common.{div-lt_iff_lt-mul, mod-lt, arith, bit_xor, length}
use Rattle.bits.specs.Window.{turned}
use Rattle.inner_code.specs.Reply.{done}
use Rattle.wiring.specs.Plan.{Plan, Side, edge_count, sheet_of, count_of, side_of, side_bit, right, other}
use Rattle.wiring.specs.Wiring.{plan_check}
use Rattle.wiring.specs.Block.{vertex_word}
use Rattle.wiring.specs.Access.{read_word, Readable}
use Rattle.wiring.specs.Code.{code_of}
use Rattle.wiring.specs.declared.side.SideCode.{SideCode}
use Rattle.wiring.specs.declared.side.SideName.{SideName}
use Rattle.wiring.proofs.Plans.{plan-whole}
use Rattle.wiring.proofs.TurnedBits.{vertex-turned-same}
use Rattle.wiring.proofs.VertexAccess.{read-vertex, plan-readable}
use Rattle.unsatisfied.specs.Count.{unsatisfied_at, unsatisfied_count}
use Rattle.unsatisfied.specs.Answer.{missed_of}
use Rattle.unsatisfied.proofs.Counting.{missed, missed_word, missed-word, at-turned}
use Rattle.unsatisfied.proofs.VertexTests.{word-defined}
use Rattle.wiring.specs.Places.{Across}
use Rattle.wiring.proofs.EdgePlaces.{places-lt, places-bit}
use Rattle.single_sweep.specs.Telling.{across_from}

-- the true count, from either side
pub count-split : (sides : SideName → Side) (name : SideName) (block : List ℕ)
    → unsatisfied_count sides block ≡ unsatisfied_at (sides name) block + unsatisfied_at (sides (other name)) block
unfolding unsatisfied_count other
count-split sides SideName.Left block = refl
count-split sides SideName.Right block = omega arith

module _ (plan : Plan) (accepted : plan_check plan ≡ done []) where
  -- ---- the entry of the other side

  abbrev Meets : SideName → ℕ → ℕ → Type 0
  Meets name i place = (place < edge_count plan) × (side_bit (other name) plan.wiring place ≡ side_bit name plan.wiring i)

  pub across-meets : (name : SideName) {places : List ℕ} → Across plan.wiring name places → (i : ℕ) → i < edge_count plan
      → Meets name i (across_from name plan.wiring places i)
  unfolding across_from side_bit other
  across-meets SideName.Left across i below =
      let noted = across.noted refl in
      (places-lt plan accepted noted i below, sym (places-bit plan accepted noted i below))
  across-meets SideName.Right across i below = ((plan-whole plan accepted right).bit-lt i below, refl)

  -- ---- a bit that is turned, by the code's test of the vertex that reads it

  module _ (name : SideName) {code : SideCode} (held : code ≡ code_of plan name) (block : List ℕ) (room : edge_count plan ≤ length block * 8) (place : ℕ)
      (below : place < edge_count plan) where
    vertex-below : place / (side_of plan name).d < count_of plan name
    vertex-below =
        let w = plan-whole plan accepted name in
        (div-lt_iff_lt-mul w.degree-pos).1 (rw w.entries below)

    pub told-readable : Readable name plan.wiring code.d block (place / code.d)
    told-readable = rw held (plan-readable plan accepted block room name _ vertex-below)

    pub told-turned : {word before after : ℕ} {block' : List ℕ} → block' ≡ turned block (side_bit name plan.wiring place) 1
        → word ≡ read_word name plan.wiring code.d block (place / code.d) → before ≡ missed_of code word
        → after ≡ missed_of code (bit_xor word (2 ^ (code.d - 1 - place % code.d)))
        → before ≤ 1 → 1 + after - before + unsatisfied_at (side_of plan name) block ≡ 1 + unsatisfied_at (side_of plan name) block'
    told-turned {word} {before} {after} {block'} turns read b a small =
        omega (arith, is-before, is-after, law)
      where
        side : Side
        side = side_of plan name

        v : ℕ
        v = place / side.d

        tested : (w : ℕ) → missed_of code w ≡ missed_word side w
        tested w = ap (λ (x : SideCode). missed_of x w) held ∙ word-defined plan accepted name w

        word-is : word ≡ vertex_word side block v
        word-is =
            read ∙ ap (λ (x : SideCode). read_word name plan.wiring x.d block (place / x.d)) held
            ∙ read-vertex (sheet_of plan name) (count_of plan name) plan.wiring name block v

        turned-is : bit_xor word (2 ^ (code.d - 1 - place % code.d)) ≡ vertex_word side block' v
        turned-is =
            ap₂ (λ (w : ℕ) (x : SideCode). bit_xor w (2 ^ (x.d - 1 - place % x.d))) word-is held
            ∙ sym (ap (λ (l : List ℕ). vertex_word side l v) turns
            ∙ rw (div-add-mod' place side.d) at
            (vertex-turned-same (plan-whole plan accepted name) block room v (place % side.d) vertex-below
            (mod-lt place (plan-whole plan accepted name).degree-pos)))

        is-before : before ≡ missed side block v
        is-before = b ∙ tested word ∙ ap (missed_word side) word-is ∙ sym (missed-word side block v)

        is-after : after ≡ missed side block' v
        is-after = a ∙ tested _ ∙ ap (missed_word side) turned-is ∙ sym (missed-word side block' v)

        law : unsatisfied_at side block' + missed side block v ≡ unsatisfied_at side block + missed side block' v
        law = rw (← turns) at (at-turned side (plan-whole plan accepted name) block room place below)
