-- `sweeps::sweep_news` meets its contract: below the vertex reached, every vertex with news is visited and every other one would stay. The marks of
-- sixteen vertices are taken off the list at once, and from a number of their own one by one, the highest first.
use Rattle.std.proofs.Common.{List, ◌≡◌, refl, sym, ap, ◌∙◌, ℕ, ◌+◌, ◌*◌, ◌≤◌, ◌<◌, le_refl, le_trans, le_of_eq, arith, length, get_or, set}
use Rattle.std.proofs.Common.{pow_pos}
use native.Mathlib.Decide.{ℕ_discrete}
use Rattle.bits.specs.Window.{at}
use Rattle.finder.specs.Finding.{Finds}
use Rattle.wiring.specs.Plan.{Plan, sheet_of, count_of}
use Rattle.wiring.specs.PlanParts.{plan_in}
use Rattle.wiring.proofs.Sides.{count-for}
use Rattle.bits.proofs.Lists.{at_set_same, at_set_other}
use Rattle.words.specs.Marks.{news_of}
use Rattle.words.proofs.Marks.{marks-high}
use Rattle.wiring.proofs.Plans.{plan-fits}
use Rattle.sweeps.proofs.Rounds.{news-round-start, news-round-changed, news-round-few, news-round-end, news-round-clear}
use Rattle.sweeps.proofs.Rounds.{NewsScan, news-scan-start, news-scan-end, news-scan-vertex, news-scan-more}
use Rattle.sweeps.proofs.sweep.sweep_news.Goals as goal
use Rattle.sweeps.proofs.sweep.sweep_news.Goals.{After-news_of-from, At-loop-rest}

-- ---- the call and the loops' heads

-- a number of the side's marks
marks-few : (c : After-news_of-from) → c.news_of-from.result + 128 ≤ 2304
marks-few c = omega (arith, c.news_of-from.ensures, marks-high c.args.side)

abbrev plan : At-loop-rest → Plan
plan c = plan_in c.args.plan.now.parts

few : (c : At-loop-rest) → c.loop-i.i < 128
few c = omega (arith, c.numbers_of-numbers.ensures.1)

-- the sixteen marks, taken off
scanned : (c : At-loop-rest)
    → let turn = c.loop-i in
    NewsScan (plan c) c.args.side c.args.block.now c.args.kept.now turn.i turn.changed turn.visits turn.block
    (set turn.kept (c.news_of-from.result + turn.i) 0) (get_or turn.kept (c.news_of-from.result + turn.i) 0)
unfolding at
scanned c =
    let turn = c.loop-i in
    let place = c.news_of-from.ensures in
    news-scan-start c.args.plan.now.passed c.requires.hears (few c) turn.invariant.0
    (ap (λ (from : ℕ). set turn.kept (from + turn.i) 0) place)
    (ap (λ (from : ℕ). get_or turn.kept (from + turn.i) 0) place ∙ turn.invariant.2 turn.i (le_refl _) (few c))

state : (c : At-loop-rest)
    → NewsScan (plan c) c.args.side c.args.block.now c.args.kept.now c.loop-i.i c.loop-rest.changed c.loop-rest.visits
    c.loop-rest.block c.loop-rest.kept c.loop-rest.rest
state c = c.loop-rest.invariant.0 _ _ c.requires.hears (scanned c)

finds : (c : At-loop-rest) → Finds (sheet_of (plan c) c.args.side) c.loop-rest.finder
finds c = c.loop-rest.invariant.1 c.loop-i.invariant.1

pub numbers_of-numbers-requires : goal.numbers_of-numbers-requires
numbers_of-numbers-requires c =
    let plan : Plan = plan_in c.args.plan.now.parts in
    le_trans (le_of_eq (c.count.ensures ∙ count-for plan c.args.side)) (plan-fits plan c.args.plan.now.passed c.args.side).n-high

pub loop-i-init : goal.loop-i-init
loop-i-init c =
    (news-round-start c.args.plan.now.passed c.requires.hears, c.requires.finds, λ j l h. refl, λ j l. absurd (omega arith))

pub overflow_add-rest : goal.overflow_add-rest
overflow_add-rest c = omega (arith, marks-few (goal.at.overflow_add-rest c).After-news_of-from)

pub offset_bounds-kept-from : goal.offset_bounds-kept-from
offset_bounds-kept-from c = omega (arith, marks-few (goal.at.offset_bounds-kept-from c).After-news_of-from)

pub bounds-kept-from : goal.bounds-kept-from
bounds-kept-from c = omega (arith, marks-few (goal.at.bounds-kept-from c).After-news_of-from)

pub overflow_add-kept : goal.overflow_add-kept
overflow_add-kept c = omega (arith, marks-few (goal.at.overflow_add-kept c).After-news_of-from)

pub offset_bounds-kept-from-in-loop-i : goal.offset_bounds-kept-from-in-loop-i
offset_bounds-kept-from-in-loop-i c =
    omega (arith, marks-few (goal.at.offset_bounds-kept-from-in-loop-i c).After-news_of-from, c.numbers_of-numbers.ensures.1)

pub bounds-kept-from-in-loop-i : goal.bounds-kept-from-in-loop-i
bounds-kept-from-in-loop-i c = omega (arith, marks-few (goal.at.bounds-kept-from-in-loop-i c).After-news_of-from, c.numbers_of-numbers.ensures.1)

pub loop-rest-init : goal.loop-rest-init
loop-rest-init c = (λ before marks h so_far. so_far, λ f. f, λ j l. refl)

pub overflow_mul-v : goal.overflow_mul-v
overflow_mul-v c = omega (arith, few (goal.at.overflow_mul-v c).At-loop-rest)

pub overflow_sub-v : goal.overflow_sub-v
overflow_sub-v c = omega (arith, c.highest-high.ensures.fits_word)

pub overflow_add-v : goal.overflow_add-v
overflow_add-v c = omega (arith, few (goal.at.overflow_add-v c).At-loop-rest)

pub visit-bits-requires : goal.visit-bits-requires
visit-bits-requires c =
    let here = (goal.at.visit-bits-requires c).At-loop-rest in
    let so_far = state here in record {
      v_bound = news-scan-vertex c.args.plan.now.passed c.requires.hears (few here) so_far _ c.highest-high.ensures.power_low
          c.highest-high.ensures.power_high c.highest-high.ensures.fits_word;
      finds = finds here;
      across = c.requires.across;
      words_read = so_far.round.so_far.reads;
    }

pub overflow_add-changed : goal.overflow_add-changed
overflow_add-changed c =
    let here = (goal.at.overflow_add-changed c).At-loop-rest in
    omega (arith, news-round-changed c.args.plan.now.passed c.requires.hears (finds here) (state here).round)

pub overflow_add-visits : goal.overflow_add-visits
overflow_add-visits c =
    omega (arith, news-round-few c.args.plan.now.passed c.requires.hears (state (goal.at.overflow_add-visits c).At-loop-rest).round)

pub power-rest-requires : goal.power-rest-requires
power-rest-requires c = c.highest-high.ensures.fits_word

pub overflow_sub-rest : goal.overflow_sub-rest
overflow_sub-rest c = omega (arith, c.power-rest.ensures, c.highest-high.ensures.power_low)

pub loop-rest-smaller : goal.loop-rest-smaller
loop-rest-smaller c =
    let some = pow_pos c.highest-high.result in
    omega (arith, c.power-rest.ensures, c.highest-high.ensures.power_low)

pub loop-rest-preserved : goal.loop-rest-preserved
loop-rest-preserved c =
    let here = (goal.at.loop-rest-preserved c).At-loop-rest in
    let turn = c.loop-rest in
    let visit = c.visit-bits.ensures in (
      λ before marks h so_far.
          news-scan-more c.args.plan.now.passed h (few here) (turn.invariant.0 before marks h so_far) _ c.highest-high.ensures.power_low
          c.highest-high.ensures.power_high c.highest-high.ensures.fits_word visit.visited_at c.power-rest.ensures,
      λ f. visit.still_finds,
      λ j l. visit.visited_at.keeps.own j l ∙ turn.invariant.2 j l,
    )

-- numbers of the list, over plain numbers
marks-after : (from i : ℕ) {j : ℕ} → i + 1 ≤ j → from + j ≡ from + i → ⊥
marks-after from i l e = omega arith

marks-other : (from : ℕ) {i j : ℕ} → (j ≡ i → ⊥) → from + j ≡ from + i → ⊥
marks-other from apart e = apart (omega arith)

below_both : (i : ℕ) {j : ℕ} → j < i + 1 → i < 128 → j < 128
below_both i l few = omega arith

below_next : (i : ℕ) {j : ℕ} → i + 1 ≤ j → i ≤ j
below_next i l = omega arith

below_other : (i : ℕ) {j : ℕ} → j < i + 1 → (j ≡ i → ⊥) → j < i
below_other i l apart = omega arith

marks-within : (from i : ℕ) (kept : List ℕ) → from + 128 ≤ 2304 → i < 128 → length kept ≡ 2304 → from + i < length kept
marks-within from i kept high few sized = omega arith

pub loop-i-preserved : goal.loop-i-preserved
loop-i-preserved c =
    let here = (goal.at.loop-i-preserved c).At-loop-rest in
    let turn = c.loop-i in
    let place = c.news_of-from.ensures in
    let kept : (j : ℕ) → j < 128
    → at c.loop-rest.kept (news_of c.args.side + j) ≡ at (set turn.kept (news_of c.args.side + turn.i) 0) (news_of c.args.side + j) =
    λ j l. c.loop-rest.invariant.2 j l ∙ ap (λ (from : ℕ). at (set turn.kept (from + turn.i) 0) (news_of c.args.side + j)) place in (
      news-scan-end c.args.plan.now.passed c.requires.hears (few here) (state here) c.loop-rest-test.false,
      finds here,
      λ j l h. kept j h ∙ at_set_other turn.kept _ _ 0 (marks-after (news_of c.args.side) turn.i l) ∙ turn.invariant.2 j (below_next turn.i l) h,
      λ j l. elim (ℕ_discrete j turn.i) [
        | yes e ↦
            kept j (below_both turn.i l (few here))
            ∙ rw e (at_set_same turn.kept _ 0 (marks-within (news_of c.args.side) turn.i turn.kept (marks-high c.args.side) (few here)
            turn.invariant.0.so_far.reads.sized))
        | no apart ↦
            kept j (below_both turn.i l (few here)) ∙ at_set_other turn.kept _ _ 0 (marks-other (news_of c.args.side) apart)
            ∙ turn.invariant.3 j (below_other turn.i l apart)
      ],
    )

pub returns : goal.returns
returns c =
    let turn = c.loop-i in
    let plan : Plan = plan_in c.args.plan.now.parts in
    let enough : count_of plan c.args.side ≤ 16 * c.numbers_of-numbers.result =
    le_trans (le_of_eq (sym (c.count.ensures ∙ count-for plan c.args.side))) c.numbers_of-numbers.ensures.0 in
    let all : count_of plan c.args.side ≤ 16 * turn.i = omega (arith, enough) in
    record {
      news_swept = news-round-end c.args.plan.now.passed c.requires.hears all turn.invariant.0
          (news-round-clear c.args.plan.now.passed c.requires.hears turn.kept turn.i all turn.invariant.3 turn.invariant.2);
      still_finds = turn.invariant.1;
    }
