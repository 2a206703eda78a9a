-- Marks of vertices with news: how one more is set, and that the marks tell exactly the vertices that read another word than before.
--   news_of name, mark_at kept from v, marked kept from v   where a side's marks begin, the mark of a vertex, the list with one more (specs Marks)
--   heard side since block v       vertex v reads another word in `block` than in `since` (wiring specs Block)
--   NewsTold plan name since block kept   the marks of a side tell which of its vertices do (specs Marks)
--   turned block e b               the block with its bit e turned where b is 1 (bits specs Window)
-- Laws are named by their subject, then by the fact: `marks-` is about where the marks stand, `marked-` about one more mark, `news-` about all
-- marks of a side. At the end of a name, `-same` and `-other` are the vertex that is marked and any
-- other, `-else` a number of the list that holds none of the marks meant, `-silent` a side without a mark.
use Rattle.std.proofs.Common.{ℕ, ◌+◌, ◌-◌, ◌*◌, ◌/◌, ◌%◌, ◌^◌, ◌≤◌, ◌<◌, List, [], ◌≡◌, refl, sym, ap, ap₂, ◌∙◌, div-add-mod'}
use Rattle.std.proofs.Common.{div-lt_iff_lt-mul, mod-lt, mod-eq_of_lt, one-mul, zero-mul, arith, eq-eqb, ne_eqb, bit_xor, length, set}
use Rattle.std.proofs.Common.{length-set}
use native.Mathlib.Decide.{ℕ_discrete, dec_le}
use lib.Bits.{xor_zero_r}
use lib.Pow.{pow-lt}
use lib.Seq.{set-get_or}
use Rattle.bits.specs.Bit.{digit, bit_at}
use Rattle.bits.specs.Sum.{flag}
use Rattle.bits.specs.Window.{at, turned}
use Rattle.bits.proofs.Bytes.{bit_at_lt}
use Rattle.bits.proofs.Sums.{flag_true, flag-false}
use Rattle.bits.proofs.Turning.{bit_at-turned-same}
use Rattle.bits.proofs.Xor.{digit_lt, digit-zero, digit-pow, digit-pow-other, xor-digit, xor-bits-parity}
use Rattle.inner_code.specs.Reply.{done}
use Rattle.wiring.specs.Plan.{Plan, Side, edge_count, count_of, side_of, right, other}
use Rattle.wiring.specs.Wiring.{plan_check}
use Rattle.wiring.specs.Block.{vertex_word, heard}
use Rattle.wiring.specs.declared.side.SideName.{SideName}
use Rattle.bits.proofs.Lists.{at_set_same, at_set_other}
use Rattle.wiring.proofs.Permutation.{Whole}
use Rattle.wiring.proofs.TurnedBits.{vertex-turned-other}
use Rattle.wiring.proofs.VertexWords.{vertex-bits, heard-none, heard-some, heard-ext}
use Rattle.words.specs.Words.{WordsRead}
use Rattle.words.specs.Marks.{news_of, mark_at, marked, Cleared, NewsTold, Listening}
use Rattle.wiring.proofs.Plans.{plan-fits, plan-whole}

-- ---- where the marks stand

pub marks-low : (name : SideName) → 2048 ≤ news_of name
unfolding news_of
marks-low SideName.Left = omega arith
marks-low SideName.Right = omega arith

pub marks-high : (name : SideName) → news_of name + 128 ≤ 2304
unfolding news_of
marks-high SideName.Left = omega arith
marks-high SideName.Right = omega arith

-- those of one side are not those of the other
pub marks-apart : (name : SideName) (i j : ℕ) → i < 128 → j < 128 → news_of name + i ≡ news_of (other name) + j → ⊥
unfolding news_of other
marks-apart SideName.Left i j hi hj e = omega arith
marks-apart SideName.Right i j hi hj e = omega arith

pub mark-ext : (a b : List ℕ) (from u : ℕ) → at b (from + u / 16) ≡ at a (from + u / 16) → mark_at b from u ≡ mark_at a from u
unfolding mark_at
mark-ext a b from u e = ap (λ (x : ℕ). digit x (15 - u % 16)) e

-- a number that is 0 holds no mark
pub mark-off : (kept : List ℕ) (from v : ℕ) → at kept (from + v / 16) ≡ 0 → mark_at kept from v ≡ 0
unfolding mark_at
mark-off kept from v off = ap (λ (x : ℕ). digit x (15 - v % 16)) off ∙ digit-zero (15 - v % 16)

pub mark-le : (kept : List ℕ) (from v : ℕ) → mark_at kept from v ≤ 1
unfolding mark_at
mark-le kept from v = omega (arith, digit_lt (at kept (from + v / 16)) (15 - v % 16))

-- ---- one more mark

module _ (kept : List ℕ) (from v : ℕ) where
  abbrev mark_place : ℕ
  mark_place = from + v / 16

  abbrev weight : ℕ
  weight = 15 - v % 16

  abbrev remarked : List ℕ
  remarked = set kept mark_place (bit_xor (at kept mark_place) (2 ^ weight))

  marked-set : mark_at kept from v ≡ 0 → marked kept from v ≡ remarked
  unfolding marked
  marked-set clear = rw (eq-eqb (mark_at kept from v) 0 clear)

  marked-stays : (mark_at kept from v ≡ 0 → ⊥) → marked kept from v ≡ kept
  unfolding marked
  marked-stays some = rw (ne_eqb (mark_at kept from v) 0 some)

  -- as the code sets it, without a test
  pub marked-once : set kept mark_place (bit_xor (at kept mark_place) ((1 - digit (at kept mark_place) weight) * 2 ^ weight % 65536)) ≡ marked kept from v
  unfolding mark_at at
  marked-once =
      elim (ℕ_discrete (mark_at kept from v) 0) [
        | yes clear ↦
            ap (λ (x : ℕ). set kept mark_place (bit_xor (at kept mark_place) x))
            (ap (λ (x : ℕ). (1 - x) * 2 ^ weight % 65536) clear ∙ ap (λ (x : ℕ). x % 65536) (one-mul (2 ^ weight)) ∙ mod-eq_of_lt (pow-lt {j = 16} (omega arith)))
            ∙ sym (marked-set clear)
        | no some ↦
            let one : mark_at kept from v ≡ 1 = omega (arith, digit_lt (at kept mark_place) weight) in
            ap (λ (x : ℕ). set kept mark_place (bit_xor (at kept mark_place) ((1 - x) * 2 ^ weight % 65536))) one
            ∙ ap (λ (x : ℕ). set kept mark_place (bit_xor (at kept mark_place) (x % 65536))) (zero-mul (2 ^ weight))
            ∙ ap (set kept mark_place) (xor_zero_r (at kept mark_place)) ∙ set-get_or kept mark_place 0 ∙ sym (marked-stays some)
      ]

  length_marked : length (marked kept from v) ≡ length kept
  length_marked =
      elim (ℕ_discrete (mark_at kept from v) 0) [
        | yes clear ↦ ap length (marked-set clear) ∙ length-set kept mark_place _
        | no some ↦ ap length (marked-stays some)
      ]

  marked-else : (i : ℕ) → (i ≡ mark_place → ⊥) → at (marked kept from v) i ≡ at kept i
  marked-else i apart =
      elim (ℕ_discrete (mark_at kept from v) 0) [
        | yes clear ↦ ap (λ (l : List ℕ). at l i) (marked-set clear) ∙ at_set_other kept mark_place i _ apart
        | no some ↦ ap (λ (l : List ℕ). at l i) (marked-stays some)
      ]

  marked-same : mark_place < length kept → mark_at (marked kept from v) from v ≡ 1
  unfolding mark_at
  marked-same below =
      elim (ℕ_discrete (mark_at kept from v) 0) [
        | yes clear ↦
            ap (λ (l : List ℕ). digit (at l mark_place) weight) (marked-set clear)
            ∙ ap (λ (x : ℕ). digit x weight) (at_set_same kept mark_place _ below)
            ∙ xor-digit (at kept mark_place) (2 ^ weight) weight
            ∙ ap₂ bit_xor clear (digit-pow weight)
        | no some ↦
            ap (λ (l : List ℕ). digit (at l mark_place) weight) (marked-stays some) ∙ omega (arith, digit_lt (at kept mark_place) weight)
      ]

  marked_other : (u : ℕ) → (u ≡ v → ⊥) → mark_place < length kept → mark_at (marked kept from v) from u ≡ mark_at kept from u
  unfolding mark_at
  marked_other u apart below =
      elim (ℕ_discrete (from + u / 16) mark_place) [
        | no elsewhere ↦ ap (λ (x : ℕ). digit x (15 - u % 16)) (marked-else (from + u / 16) elsewhere)
        | yes here ↦
            elim (ℕ_discrete (mark_at kept from v) 0) [
              | no some ↦ ap (λ (l : List ℕ). digit (at l (from + u / 16)) (15 - u % 16)) (marked-stays some)
              | yes clear ↦
                  let away : 15 - u % 16 ≡ weight → ⊥ = λ e. apart (omega arith) in
                  rw here
                  (ap (λ (l : List ℕ). digit (at l mark_place) (15 - u % 16)) (marked-set clear)
                  ∙ ap (λ (x : ℕ). digit x (15 - u % 16)) (at_set_same kept mark_place _ below)
                  ∙ xor-digit (at kept mark_place) (2 ^ weight) (15 - u % 16)
                  ∙ ap (bit_xor (digit (at kept mark_place) (15 - u % 16)))
                  (ap (λ (x : ℕ). digit x (15 - u % 16)) (sym (one-mul (2 ^ weight))) ∙ digit-pow-other 1 weight (15 - u % 16) (omega arith) away)
                  ∙ xor_zero_r (digit (at kept mark_place) (15 - u % 16)))
            ]
      ]

-- ---- the marks of a side

module _ {plan : Plan} {name : SideName} where
  pub news-ext : {since block a b : List ℕ} → NewsTold plan name since block a → ((i : ℕ) → i < 128 → at b (news_of name + i) ≡ at a (news_of name + i))
      → count_of plan name ≤ 2048 → NewsTold plan name since block b
  news-ext {a = a} {b} told same few =
      record {
        each = λ v l. mark-ext a b (news_of name) v (same (v / 16) (omega arith)) ∙ told.each v l;
        none = λ v h l. mark-ext a b (news_of name) v (same (v / 16) (omega arith)) ∙ told.none v h l;
      }

  -- a side without a mark, whatever the block
  pub news-silent : {kept : List ℕ} → ((v : ℕ) → v < 2048 → mark_at kept (news_of name) v ≡ 0) → count_of plan name ≤ 2048
      → (block : List ℕ) → NewsTold plan name block block kept
  news-silent clear few block =
      record {
        each = λ v l. clear v (omega arith) ∙ sym (ap flag (heard-none (side_of plan name) block block v refl) ∙ flag-false);
        none = λ v h l. clear v l;
      }

  pub silent-clear : {block kept : List ℕ} → NewsTold plan name block block kept → (v : ℕ) → v < 2048 → mark_at kept (news_of name) v ≡ 0
  silent-clear {block} told v l =
      elim (dec_le (count_of plan name) v) [
        | yes past ↦ told.none v past l
        | no within ↦ told.each v (omega arith) ∙ ap flag (heard-none (side_of plan name) block block v refl) ∙ flag-false
      ]

cleared-marks : (name : SideName) {kept : List ℕ} → Cleared kept → (v : ℕ) → v < 2048 → mark_at kept (news_of name) v ≡ 0
cleared-marks name {kept} clear v l =
    mark-off kept (news_of name) v (clear.each (news_of name + v / 16) (omega (arith, marks-low name)) (omega (arith, marks-high name)))

-- no vertex is marked at first
pub cleared-listening : (plan : Plan) → plan_check plan ≡ done [] → (name : SideName) {block kept : List ℕ} → WordsRead (side_of plan right) block kept
    → Cleared kept → Listening plan name block block kept
cleared-listening plan accepted name {block} reads clear =
    record {
      reads = reads;
      news = news-silent (cleared-marks name clear) (plan-fits plan accepted name).n-high block;
      silent = news-silent (cleared-marks (other name) clear) (plan-fits plan accepted (other name)).n-high block;
    }

-- a bit that is turned and was as it had been: the vertex that reads it is marked, and its word is another now
pub news-turned : (plan : Plan) → plan_check plan ≡ done [] → (name : SideName) → count_of plan name ≤ 2048 → {since block kept after told : List ℕ} (words : List ℕ)
    → NewsTold plan name since block kept → (entry : ℕ) {e : ℕ} → entry < edge_count plan → e ≡ (side_of plan name).bit entry
    → after ≡ turned block e 1 → edge_count plan ≤ length block * 8 → bit_at block e ≡ bit_at since e
    → length words ≡ 2304 → ((i : ℕ) → i < 128 → at words (news_of name + i) ≡ at kept (news_of name + i))
    → told ≡ marked words (news_of name) (entry / (side_of plan name).d) → NewsTold plan name since after told
news-turned plan accepted name few {since} {block} {kept} {after} {told} words news entry {e} below at-entry turned-once room fresh sized same tells =
    record {
      each = λ u l. elim (ℕ_discrete u v) [ yes e ↦ rw e here | no apart ↦ there u l apart ];
      none = λ u h l.
          ap (λ (l : List ℕ). mark_at l (news_of name) u) tells
          ∙ marked_other words (news_of name) v u (omega (arith, v-lt)) (omega (arith, high, sized, v-lt)) ∙ before u l ∙ news.none u h l;
    }
  where
    side : Side
    side = side_of plan name

    w : Whole (edge_count plan) (side_of plan name)
    w = plan-whole plan accepted name

    high : news_of name + 128 ≤ 2304
    high = marks-high name

    v : ℕ
    v = entry / side.d

    j : ℕ
    j = entry % side.d

    v-lt : v < count_of plan name
    v-lt = (div-lt_iff_lt-mul w.degree-pos).1 (rw w.entries below)

    j-lt : j < side.d
    j-lt = mod-lt entry w.degree-pos

    back : v * side.d + j ≡ entry
    back = div-add-mod' entry side.d

    bit_is : e ≡ side.bit (v * side.d + j)
    bit_is = at-entry ∙ ap side.bit (sym back)

    turned-is : after ≡ turned block (side.bit (v * side.d + j)) 1
    turned-is = turned-once ∙ ap (λ (i : ℕ). turned block i 1) bit_is

    before : (u : ℕ) → u < 2048 → mark_at words (news_of name) u ≡ mark_at kept (news_of name) u
    before u l = mark-ext kept words (news_of name) u (same (u / 16) (omega arith))

    another : vertex_word side since v ≡ vertex_word side after v → ⊥
    another e' =
        let bits = vertex-bits side since after v e' j j-lt in
        let within : e < edge_count plan = rw at-entry (w.bit-lt entry below) in
        let now-is : bit_at after (side.bit (v * side.d + j)) ≡ bit_xor (bit_at block (side.bit (v * side.d + j))) 1 =
        ap (λ (l : List ℕ). bit_at l (side.bit (v * side.d + j))) turned-is
        ∙ bit_at-turned-same block _ 1 (omega arith) (omega (arith, sym bit_is, within, room)) in
        let was : bit_at block (side.bit (v * side.d + j)) ≡ bit_at since (side.bit (v * side.d + j)) = rw (sym bit_is) fresh in
        let small = bit_at_lt block (side.bit (v * side.d + j)) in
        omega (arith, bits, now-is, was, xor-bits-parity (bit_at block (side.bit (v * side.d + j))) 1 small (omega arith), small)

    here : mark_at told (news_of name) v ≡ flag (heard side since after v)
    here =
        ap (λ (l : List ℕ). mark_at l (news_of name) v) tells ∙ marked-same words (news_of name) v (omega (arith, high, sized, v-lt))
        ∙ sym (ap flag (heard-some side since after v another) ∙ flag_true)

    there : (u : ℕ) → u < count_of plan name → (u ≡ v → ⊥) → mark_at told (news_of name) u ≡ flag (heard side since after u)
    there u l apart =
        ap (λ (l : List ℕ). mark_at l (news_of name) u) tells
        ∙ marked_other words (news_of name) v u apart (omega (arith, high, sized, v-lt)) ∙ before u (omega arith) ∙ news.each u l
        ∙ ap flag (sym (heard-ext side since block after u
        (ap (λ (l : List ℕ). vertex_word side l u) turned-is ∙ vertex-turned-other w block room v j v-lt j-lt u l apart)))

-- ---- the right words go with the marks

pub words-marked : {side : Side} {block words told : List ℕ} → WordsRead side block words → side.n ≤ 2048 → (from v : ℕ) → 2048 ≤ from
    → told ≡ marked words from v → WordsRead side block told
words-marked {words = words} reads few from v low tells =
    record {
      sized = ap length tells ∙ length_marked words from v ∙ reads.sized;
      room = reads.room;
      each = λ u l. ap (λ (l : List ℕ). at l u) tells ∙ marked-else words from v u (omega arith) ∙ reads.each u l;
    }

-- a word that is written is no mark
pub words-else : (name : SideName) (kept : List ℕ) (u x : ℕ) → u < 2048 → (i : ℕ) → i < 128 → at (set kept u x) (news_of name + i) ≡ at kept (news_of name + i)
words-else name kept u x l i h = at_set_other kept u (news_of name + i) x (λ e. omega (arith, marks-low name))

-- a mark of one side is none of the other
pub marked-apart : (name : SideName) (kept : List ℕ) (v : ℕ) → v < 2048 → (i : ℕ) → i < 128
    → at (marked kept (news_of (other name)) v) (news_of name + i) ≡ at kept (news_of name + i)
marked-apart name kept v l i h = marked-else kept (news_of (other name)) v (news_of name + i) (marks-apart name i (v / 16) h (omega arith))
