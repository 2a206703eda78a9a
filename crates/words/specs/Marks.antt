-- How the code keeps which vertices have news: none of this is needed to believe a contract of a service.
-- One list holds the words of the right side (0 .. 2047), the marks of the left side (from 2048 on) and those of the right side (from 2176 on),
-- sixteen marks to a number.
--   news_of name                 where the marks of a side begin
--   mark_at kept from v          the mark of vertex v where the marks begin at `from`: 1 where it has news
--   marked kept from v          the list with vertex v marked
--   Cleared kept                no vertex is marked
--   NewsTold plan name since block kept  the marks of a side tell which of its vertices have a bit in which the block differs from what it was
--   told_right d place kept      the list with the bit at an entry of the right side turned in its vertex's word, and the vertex marked
--   KeptUp plan name v block kept after told  the block changes at bits of vertex v of a side, and the list goes with it. The right words stay those
--                               of the block; where vertex v reads what it read, the vertices at the other ends of the bits that turn are those
--                               that are marked; the marks of the side itself stay
--   PutAt plan name v pattern block kept after told  a pattern is put on the bits of vertex v of a side, and the list is kept up
--   Listening plan name since block kept  a side is to be swept, and the sweep before made `block` of `since`: its marks tell the news, and no vertex
--                               of the side swept before is marked
use Rattle.std.specs.Prelude.{ℕ, ◌+◌, ◌-◌, ◌*◌, ◌/◌, ◌%◌, ◌^◌, ◌≤◌, ◌<◌, List, cond, ◌≡◌, eqb, length, set}
use Rattle.std.specs.Int.Bits.{bit_xor}
use Rattle.bits.specs.Bit.{digit}
use Rattle.bits.specs.Sum.{flag}
use Rattle.bits.specs.Window.{at}
use Rattle.inner_code.specs.Sheet.{degree}
use Rattle.wiring.specs.Plan.{Plan, sheet_of, count_of, side_of, side_bit, right, other}
use Rattle.wiring.specs.Block.{vertex_word, heard}
use Rattle.wiring.specs.declared.side.SideName.{SideName}
use Rattle.words.specs.Words.{WordsRead, pattern_put}

unfoldable pub news_of : SideName → ℕ
news_of SideName.Left = 2048
news_of SideName.Right = 2176

unfoldable pub mark_at : List ℕ → ℕ → ℕ → ℕ
unfolding digit at
mark_at kept from v = digit (at kept (from + v / 16)) (15 - v % 16)

unfoldable pub marked : List ℕ → ℕ → ℕ → List ℕ
unfolding mark_at at
marked kept from v =
    cond (eqb (mark_at kept from v) 0) (set kept (from + v / 16) (bit_xor (at kept (from + v / 16)) (2 ^ (15 - v % 16)))) kept

pub record Cleared (kept : List ℕ) : Type 0 where
  pub sized : length kept ≡ 2304
  pub each : (i : ℕ) → 2048 ≤ i → i < 2304 → at kept i ≡ 0

pub record NewsTold (plan : Plan) (name : SideName) (since block kept : List ℕ) : Type 0 where
  pub each : (v : ℕ) → v < count_of plan name → mark_at kept (news_of name) v ≡ flag (heard (side_of plan name) since block v)
  pub none : (v : ℕ) → count_of plan name ≤ v → v < 2048 → mark_at kept (news_of name) v ≡ 0

unfoldable pub told_right : ℕ → ℕ → List ℕ → List ℕ
unfolding at marked
told_right d place kept = marked (set kept (place / d) (bit_xor (at kept (place / d)) (2 ^ (d - 1 - place % d)))) 2176 (place / d)

pub record KeptUp (plan : Plan) (name : SideName) (v : ℕ) (block kept after told : List ℕ) : Type 0 where
  pub reads : WordsRead (side_of plan right) after told
  pub tells : (since : List ℕ) → vertex_word (side_of plan name) since v ≡ vertex_word (side_of plan name) block v
      → NewsTold plan (other name) since block kept → NewsTold plan (other name) since after told
  pub own : (i : ℕ) → i < 128 → at told (news_of name + i) ≡ at kept (news_of name + i)

pub record PutAt (plan : Plan) (name : SideName) (v pattern : ℕ) (block kept after told : List ℕ) : Type 0 where
  pub puts : after
      ≡ pattern_put (side_bit name plan.wiring) (degree (sheet_of plan name)) (v * degree (sheet_of plan name)) pattern (degree (sheet_of plan name)) block
  pub keeps : KeptUp plan name v block kept after told

pub record Listening (plan : Plan) (name : SideName) (since block kept : List ℕ) : Type 0 where
  pub reads : WordsRead (side_of plan right) block kept
  pub news : NewsTold plan name since block kept
  pub silent : NewsTold plan (other name) block block kept
