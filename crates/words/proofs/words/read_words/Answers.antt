-- `words::read_words` meets its contract: after v turns the list has the words of the first v right vertices.
use Rattle.std.proofs.Common.{ℕ, ◌≡◌, ◌+◌, ◌*◌, ◌≤◌, ◌<◌, ◌∙◌, refl, length, arith, le_trans, length-set}
use Rattle.bits.proofs.Lists.{at_set_other}
use Rattle.wiring.specs.Access.{word_from}
use Rattle.wiring.specs.Block.{vertex_word}
use Rattle.wiring.specs.Plan.{side_of, side_bit, edge_count, edge_of, right}
use Rattle.wiring.specs.PlanParts.{plan_in}
use Rattle.wiring.specs.declared.parts.CheckedPlan.{CheckedPlan}
use Rattle.wiring.proofs.Blocks.{block_room}
use Rattle.wiring.proofs.Permutation.{Whole, entry_lt, fitted-vertex, fitted-edges}
use Rattle.wiring.proofs.Plans.{plan-whole}
use Rattle.words.proofs.Degrees.{right-degree, right-fits}
use Rattle.words.proofs.RightWords.{words_more}
use Rattle.words.proofs.words.read_words.Goals as goal
use Rattle.words.proofs.words.read_words.Goals.{Start}

-- a right vertex of a checked plan
module _ (p : CheckedPlan) where
  whole : Whole (edge_count (plan_in p.parts)) (side_of (plan_in p.parts) right)
  whole = plan-whole (plan_in p.parts) p.passed right

  few : (v : ℕ) → v < p.parts.nr → v < 2048
  few v below = omega (arith, (right-fits p).n-high)

  start-few : (v : ℕ) → v < p.parts.nr → v * p.right.d + p.right.d ≤ 32768
  start-few v below = omega (arith, fitted-vertex (right-fits p) v below, (right-fits p).sized, fitted-edges (right-fits p))

  bit-few : (v j : ℕ) → v < p.parts.nr → j < p.right.d → edge_of p.parts.wiring.now (v * p.right.d + j) < edge_count (plan_in p.parts)
  unfolding side_bit
  bit-few v j below l = rw (right-degree p) (whole.bit-lt _ (entry_lt whole v j below (rw (right-degree p) at l)))

-- the block holds every bit
room : (c : Start) → edge_count (plan_in c.args.plan.now.parts) ≤ length c.args.block.now * 8
room c = block_room _ c.args.block.now c.requires.block_value

pub loop-v-init : goal.loop-v-init
loop-v-init c = (c.requires.cleared, λ u l. absurd (omega arith))

pub overflow_mul-v : goal.overflow_mul-v
overflow_mul-v c = omega (arith, start-few c.args.plan.now c.loop-v.v (omega arith))

pub gathered-requires : goal.gathered-requires
gathered-requires c =
    let p = c.args.plan.now in record {
      d_bound = (right-fits p).d-high;
      d_in_bounds = fitted-vertex (right-fits p) c.loop-v.v (omega arith);
      edges_in_block = λ j l. le_trans (bit-few p c.loop-v.v j (omega arith) l) (room (goal.at.gathered-requires c).Start);
    }

pub offset_bounds-kept-v : goal.offset_bounds-kept-v
offset_bounds-kept-v c = omega (arith, few c.args.plan.now c.loop-v.v (omega arith))

pub bounds-kept-v : goal.bounds-kept-v
bounds-kept-v c = omega (arith, few c.args.plan.now c.loop-v.v (omega arith))

pub loop-v-preserved : goal.loop-v-preserved
unfolding vertex_word word_from side_bit
loop-v-preserved c =
    let p = c.args.plan.now in
    let turn = c.loop-v in
    let low : turn.v < 2048 = few p turn.v (omega arith) in (
      record {
        sized = length-set turn.kept turn.v _ ∙ turn.invariant.0.sized;
        each = λ i l h. at_set_other turn.kept turn.v i _ (omega arith) ∙ turn.invariant.0.each i l h;
      },
      words_more (side_of (plan_in p.parts) right) c.args.block.now turn.kept turn.v _ (omega (arith, turn.invariant.0.sized)) refl turn.invariant.1
          (rw (right-degree p) at c.gathered.ensures),
    )

pub returns : goal.returns
returns c =
    let p = c.args.plan.now in
    let end : c.loop-v.v ≡ p.parts.nr = omega arith in record {
      words_read = record {
        sized = c.loop-v.invariant.0.sized;
        room = rw (whole p).entries (room (goal.at.returns c).Start);
        each = rw end at c.loop-v.invariant.1;
      };
      still_cleared = c.loop-v.invariant.0;
    }
