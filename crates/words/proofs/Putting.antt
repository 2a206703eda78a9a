-- A pattern that is put on a vertex, told to the vertices at the other ends of its bits: one step of it, and what the whole comes to.
--   PutAt plan name v pattern block kept after told   what becomes of the block and of what is kept (specs Marks)
--   Rest, Fresh                  what is still to be put, and that the bits still to be turned are as they were (Patterns)
--   WordsRead, KeptUp            the right words are those of the block; the list goes with the block (specs Words, Marks)
--   Putting plan name v pattern start kept₀ block kept rest   the ones of the pattern above `rest` are put: `block` and `kept` are left
-- Laws of `Putting` are named `putting-` and then by the fact.
use Rattle.std.proofs.Common.{ℕ, ◌+◌, ◌-◌, ◌*◌, ◌/◌, ◌%◌, ◌^◌, ◌≤◌, ◌<◌, List, [], ◌≡◌, refl, sym, ap, ◌∙◌, div-lt_iff_lt-mul, arith}
use Rattle.std.proofs.Common.{bit_xor, length, set, length-set}
use Rattle.bits.specs.Bit.{bit_at}
use Rattle.bits.specs.Window.{at, turned}
use Rattle.inner_code.specs.Reply.{done}
use Rattle.inner_code.specs.Sheet.{degree}
use Rattle.wiring.specs.Plan.{Plan, edge_count, sheet_of, count_of, side_of, side_bit, right, other}
use Rattle.wiring.specs.Wiring.{plan_check}
use Rattle.wiring.specs.Block.{vertex_word}
use Rattle.wiring.specs.declared.side.SideName.{SideName}
use Rattle.wiring.proofs.Permutation.{entry_lt}
use Rattle.wiring.proofs.VertexWords.{vertex-bits}
use Rattle.words.specs.Words.{WordsRead, pattern_put}
use Rattle.words.specs.Marks.{news_of, marked, KeptUp, PutAt}
use Rattle.words.proofs.Patterns.{Rest, rest-none, rest-high, rest_more, Fresh, fresh_start, fresh-more}
use Rattle.wiring.proofs.Plans.{plan-fits, plan-whole}
use Rattle.words.proofs.RightWords.{words-turned}
use Rattle.words.proofs.Marks.{marks-low, news-turned, words-marked, words-else, marked-apart}

pub record Putting (plan : Plan) (name : SideName) (v pattern : ℕ) (start kept₀ block kept : List ℕ) (rest : ℕ) : Type 0 where
  pub left_over : Rest (side_bit name plan.wiring) (degree (sheet_of plan name)) (v * degree (sheet_of plan name))
      (pattern_put (side_bit name plan.wiring) (degree (sheet_of plan name)) (v * degree (sheet_of plan name)) pattern (degree (sheet_of plan name)) start)
      block rest
  pub fresh : Fresh (side_bit name plan.wiring) (degree (sheet_of plan name)) (v * degree (sheet_of plan name)) start block rest
  pub keeps : KeptUp plan name v start kept₀ block kept

-- what is kept of a block that does not change
pub kept_same : {plan : Plan} {name : SideName} {v : ℕ} {block kept : List ℕ} → WordsRead (side_of plan right) block kept
    → KeptUp plan name v block kept block kept
kept_same reads = record { reads = reads; tells = λ since same news. news; own = λ i l. refl }

module _ (plan : Plan) (accepted : plan_check plan ≡ done []) (name : SideName) (v : ℕ) (below : v < count_of plan name) (pattern : ℕ)
    (start kept₀ : List ℕ) where
  abbrev d : ℕ
  d = degree (sheet_of plan name)

  abbrev base : ℕ
  base = v * degree (sheet_of plan name)

  pub putting-start : pattern < 2 ^ d → WordsRead (side_of plan right) start kept₀ → Putting plan name v pattern start kept₀ start kept₀ pattern
  putting-start low reads =
      record {
        left_over = record { low = low; putting = refl };
        fresh = fresh_start;
        keeps = kept_same reads;
      }

  pub putting-done : {block kept : List ℕ} {rest : ℕ} → Putting plan name v pattern start kept₀ block kept rest → rest ≡ 0
      → PutAt plan name v pattern start kept₀ block kept
  putting-done p none = record { puts = rest-none p.left_over none; keeps = p.keeps }

  module _ {block kept : List ℕ} {rest : ℕ} (p : Putting plan name v pattern start kept₀ block kept rest) (h : ℕ) (low : 2 ^ h ≤ rest)
      (high : rest < 2 ^ (h + 1)) where
    within : h < d
    within = rest-high p.left_over h low high

    -- the entry of the highest one is one of the side's
    pub putting-entry : base + (d - 1 - h) < edge_count plan
    putting-entry = entry_lt (plan-whole plan accepted name) v (d - 1 - h) below (omega (arith, within))

    -- the bit e that it turns stands at entry `here` of the right side and at entry `there` of the other side
    pub putting-more : {e power : ℕ} {after told : List ℕ} (words : List ℕ) → e ≡ side_bit name plan.wiring (base + (d - 1 - h)) → power ≡ 2 ^ h
        → after ≡ turned block e 1
        → (here : ℕ) → here < edge_count plan → e ≡ (side_of plan right).bit here
        → words ≡ set kept (here / (side_of plan right).d) (bit_xor (at kept (here / (side_of plan right).d)) (2 ^ ((side_of plan right).d - 1 - here % (side_of plan right).d)))
        → (there : ℕ) → there < edge_count plan → e ≡ (side_of plan (other name)).bit there
        → told ≡ marked words (news_of (other name)) (there / (side_of plan (other name)).d)
        → Putting plan name v pattern start kept₀ after told (rest - power)
    putting-more {e} {power} {after} {told} words at-e is turns here here_lt at_here turns-word there there-lt at_there tells =
        record {
          left_over = rest_more p.left_over h low high at-e is turns;
          fresh = fresh-more p.fresh once h within low high at-e is turns;
          keeps = record {
            reads = words-marked (words-turned (plan-whole plan accepted right) p.keeps.reads (few right) here here_lt at_here turns turns-word)
                (few right) (news_of (other name)) _ (marks-low (other name)) tells;
            tells = λ since same news.
                news-turned plan accepted (other name) (few (other name)) words (p.keeps.tells since same news) there there-lt at_there turns
                room (as-since since same) (ap length turns-word ∙ length-set kept _ _ ∙ p.keeps.reads.sized)
                (λ i l. ap (λ (k : List ℕ). at k (news_of (other name) + i)) turns-word ∙ words-else (other name) kept _ _ vertex-few i l) tells;
            own = λ i l.
                ap (λ (k : List ℕ). at k (news_of name + i)) tells ∙ marked-apart name words _ there-few i l
                ∙ ap (λ (k : List ℕ). at k (news_of name + i)) turns-word ∙ words-else name kept _ _ vertex-few i l ∙ p.keeps.own i l;
          };
        }
      where
        few : (side : SideName) → count_of plan side ≤ 2048
        few side = (plan-fits plan accepted side).n-high

        room : edge_count plan ≤ length block * 8
        room = rw (plan-whole plan accepted right).entries at p.keeps.reads.room

        vertex-few : here / (side_of plan right).d < 2048
        vertex-few =
            let w = plan-whole plan accepted right in
            let l : here / (side_of plan right).d < (side_of plan right).n = (div-lt_iff_lt-mul w.degree-pos).1 (rw w.entries here_lt) in
            omega (arith, l, few right)

        there-few : there / (side_of plan (other name)).d < 2048
        there-few =
            let w = plan-whole plan accepted (other name) in
            let l : there / (side_of plan (other name)).d < (side_of plan (other name)).n = (div-lt_iff_lt-mul w.degree-pos).1 (rw w.entries there-lt) in
            omega (arith, l, few (other name))

        once : (i j : ℕ) → i < d → j < d → side_bit name plan.wiring (base + i) ≡ side_bit name plan.wiring (base + j) → i ≡ j
        once i j hi hj same =
            let w = plan-whole plan accepted name in
            let entries = w.bit-once _ _ (entry_lt w v i below hi) (entry_lt w v j below hj) same in
            omega (arith, entries)

        as-since : (since : List ℕ) → vertex_word (side_of plan name) since v ≡ vertex_word (side_of plan name) start v → bit_at block e ≡ bit_at since e
        as-since since same =
            rw at-e (p.fresh.each h within low ∙ sym (vertex-bits (side_of plan name) since start v same (d - 1 - h) (omega (arith, within))))
