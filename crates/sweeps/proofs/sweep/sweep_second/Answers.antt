-- `sweeps::sweep_second` meets its contract: after v vertices the block is the one with the first v visited, `changed` counts the bits that changed and
-- `ties` the vertices that wait, and what is kept goes with the block. No mark of the right side is set.
use Rattle.std.proofs.Common.{◌≡◌, refl, ◌∙◌, ◌≤◌, ◌<◌, le_of_lt, arith, eqb, get_or}
use Rattle.bits.specs.Window.{at}
use Rattle.finder.proofs.Finding.{Member, member-means}
use Rattle.wiring.specs.Block.{vertex_word}
use Rattle.wiring.specs.Plan.{Plan, side_of, right, other}
use Rattle.wiring.specs.PlanParts.{plan_in}
use Rattle.words.proofs.Marks.{news-ext, silent-clear}
use Rattle.wiring.proofs.Plans.{plan-fits}
use Rattle.sweeps.specs.Sweeping.{SideReady, VisitedAt}
use Rattle.sweeps.proofs.Rounds.{round-start, round-kept, round-visited, round-listening}
use Rattle.wiring.proofs.Sides.{right-left}
use Rattle.sweeps.proofs.Visiting.{ready-side, word-stays, word-untied, visit-waits, visits-le, visits-few, visits-sweep, tie-le}
use Rattle.sweeps.proofs.sweep.sweep_second.Goals as goal
use Rattle.sweeps.proofs.sweep.sweep_second.Goals.{After-is_codeword, Start, then-not-is_codeword, else-not-is_codeword}

-- ---- the call and the loop's head

few : (c : Start) → c.args.plan.now.parts.nr ≤ 2048
few c = (plan-fits (plan_in c.args.plan.now.parts) c.args.plan.now.passed right).n-high

abbrev plan : After-is_codeword → Plan
plan c = plan_in c.args.plan.now.parts

below : (c : After-is_codeword) → c.loop-v.v < c.args.plan.now.parts.nr
below c = omega arith

ready : (c : After-is_codeword) → SideReady c.args.plan.now.parts.right_sheet.now c.args.plan.now.parts.nr c.args.plan.now.parts.wiring.now c.loop-v.finder
ready c = ready-side (plan c) c.args.plan.now.passed right c.loop-v.invariant.1

-- the word kept is the vertex's
word-is : (c : After-is_codeword) → get_or c.loop-v.kept c.loop-v.v 0 ≡ vertex_word (side_of (plan c) right) c.loop-v.block c.loop-v.v
unfolding at
word-is c = c.loop-v.invariant.0.reads.each c.loop-v.v (below c)

member : (c : After-is_codeword) → Member c.loop-v.finder (get_or c.loop-v.kept c.loop-v.v 0) c.is_codeword.result
member c = member-means _ _ c.is_codeword.ensures

pub loop-v-init : goal.loop-v-init
loop-v-init c = (round-start c.requires.listening, c.requires.finds, λ i l. refl)

pub offset_bounds-kept-v : goal.offset_bounds-kept-v
offset_bounds-kept-v c = omega (arith, few (goal.at.offset_bounds-kept-v c).Start)

pub bounds-kept-v : goal.bounds-kept-v
bounds-kept-v c = omega (arith, few (goal.at.bounds-kept-v c).Start)

pub is_codeword-requires : goal.is_codeword-requires
is_codeword-requires c = c.loop-v.invariant.1.sized

-- ---- a word that is mended

pub visit-bits-requires : goal.visit-bits-requires
visit-bits-requires c =
    let turn = c.loop-v in
    record {
      v_bound = below (goal.at.visit-bits-requires c).After-is_codeword;
      finds = turn.invariant.1;
      across = record { noted = λ e. absurd (right-left e) };
      words_read = turn.invariant.0.reads;
    }

pub overflow_add-changed : goal.overflow_add-changed
overflow_add-changed c =
    let here = (goal.at.overflow_add-changed c).After-is_codeword in
    omega (arith, visits-le (ready here) right (le_of_lt (below here)) c.loop-v.invariant.0.visits)

pub overflow_add-ties : goal.overflow_add-ties
overflow_add-ties c =
    omega (
      arith,
      visits-few c.loop-v.invariant.0.visits,
      few (goal.at.overflow_add-ties c).Start,
      tie-le (eqb c.visit-bits.result 0) c.tie-ties.ensures,
    )

-- ---- one more vertex

pub loop-v-preserved : goal.loop-v-preserved
loop-v-preserved c =
    let here = (goal.at.loop-v-preserved c).After-is_codeword in
    let block = c.loop-v.block in
    let round = c.loop-v.invariant.0 in
    elim c.if-not-is_codeword.branch [
      | then-not-is_codeword w ↦
          let visit : VisitedAt (plan here) right c.loop-v.v w.visit-bits.result block c.loop-v.kept w.visit-bits.new.block w.visit-bits.new.kept =
          w.visit-bits.ensures.visited_at in
          rw (w.changed-is, w.ties-is, w.block-is, w.kept-is, w.finder-is) (
            round-visited c.args.plan.now.passed (below here) round visit
                (visit-waits (ready here) right block (below here) (word-is here) (member here) w.if-not-is_codeword.true visit.counted w.tie-ties.ensures),
            w.visit-bits.ensures.still_finds,
            λ i l. visit.keeps.own i l ∙ c.loop-v.invariant.2 i l,
          )
      | else-not-is_codeword w ↦
          rw (w.changed-is, w.ties-is, w.block-is, w.kept-is, w.finder-is) (
            round-kept c.args.plan.now.passed (below here) round
                (word-stays (ready here) right block (below here) (word-is here) (member here) w.if-not-is_codeword.false)
                (word-untied (ready here) right block (below here) (word-is here) (member here) w.if-not-is_codeword.false),
            c.loop-v.invariant.1,
            c.loop-v.invariant.2,
          )
    ]

pub returns : goal.returns
unfolding other
returns c =
    let turn = c.loop-v in
    let clear = news-ext c.requires.listening.news turn.invariant.2 (few (goal.at.returns c).Start) in record {
      side_swept = visits-sweep turn.invariant.0.visits (omega arith);
      still_finds = turn.invariant.1;
      listening_left = round-listening c.args.plan.now.passed turn.invariant.0 (silent-clear clear);
    }
