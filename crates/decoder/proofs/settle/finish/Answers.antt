-- `decoder::finish` meets its contract: each sweep of the vertices with news is a sweep of the definition, and its visits are those of the definition.
-- The loop is left at the first sweep that changes nothing, where the block is tested, or past the limit.
use Rattle.std.proofs.Common.{List, ℕ, ◌+◌, ◌≤◌, ◌<◌, min, sym, ◌∙◌, arith}
use Rattle.wiring.specs.Plan.{Plan, count_of}
use Rattle.wiring.specs.PlanParts.{plan_in}
use Rattle.wiring.specs.declared.side.SideName.{SideName}
use Rattle.sweeps.specs.Sweep.{turn}
use Rattle.sweeps.specs.Sweeping.{NewsSwept}
use Rattle.sweeps.specs.declared.sweep.News.{News}
use Rattle.decoder.specs.Turns.{Midway, Opened}
use Rattle.wiring.proofs.Plans.{plan-fits}
use Rattle.decoder.proofs.VisitCounts.{visits-few, visits-in-few}
use Rattle.decoder.proofs.Passes.{Begun, turn_two, turn_more, told-sized, midway-told, midway-hears, midway-visits, midway-few, midway-more}
use Rattle.decoder.proofs.Passes.{midway-settled, midway-lost, midway-never}
use Rattle.decoder.proofs.settle.finish.Goals as goal
use Rattle.decoder.proofs.settle.finish.Goals.{After-sweep_turn-here, At-loop-count, else-loop-count-test, then-loop-count-test+else-here-eq0+else-count-limit}

-- the visits so far, and those of one sweep more, are few
visits-fit : {plan : Plan} {received : List ℕ} → Begun plan received → {limit count visits : ℕ} {sums kept block told after : List ℕ} {news : News}
    → Midway plan received limit count sums visits kept block → NewsSwept plan (turn count) block kept news after told → count ≤ limit → limit ≤ 4096
    → visits + news.visits < 18446744073709551616
visits-fit {plan} {received} b {limit} {count} m sweeps within limited =
    let few : (name : SideName) → count_of plan name ≤ 2048 = λ name. (plan-fits plan b.plan-done name).n-high in
    omega (
      arith,
      m.visited,
      visits-few plan received few (min count limit),
      midway-visits b m sweeps,
      visits-in-few plan received few count,
    )

-- ---- the loop's head: where the trial of a received block stands

module _ (c : At-loop-count) where
  abbrev At : List ℕ → Type 0
  At received =
      Midway (plan_in c.args.plan.now.parts) received c.args.opening.limit c.loop-count.count c.loop-count.sums c.loop-count.visits c.loop-count.kept
      c.loop-count.block

  midway : (received : List ℕ) → Opened (plan_in c.args.plan.now.parts) received c.args.opening.limit c.args.opening c.args.kept.now c.args.block.now
      → At received
  midway received opened = c.loop-count.invariant.midway received (opened.going c.if-opening.false)

  one : At c.requires.opened_some.received
  one = midway c.requires.opened_some.received c.requires.opened_some.opened

  begun : {received : List ℕ} → At received → Begun (plan_in c.args.plan.now.parts) received
  begun m = record { plan-done = c.args.plan.now.passed; block-done = m.begun }

-- ---- one more sweep

module _ (c : After-sweep_turn-here) where
  swept : NewsSwept (plan_in c.args.plan.now.parts) (turn c.loop-count.count) c.loop-count.block c.loop-count.kept c.sweep_turn-here.result
      c.sweep_turn-here.new.block c.sweep_turn-here.new.kept
  swept = rw c.loop-count.invariant.at_turn at c.sweep_turn-here.ensures.news_swept

  more-visits : c.loop-count.visits + c.sweep_turn-here.result.visits < 18446744073709551616
  more-visits =
      let here = (goal.at.After-sweep_turn-here c).At-loop-count in
      visits-fit (begun here (one here)) (one here) swept c.loop-count-test.true c.requires.opened_some.limited

pub returns-then-opening-clause-settles : goal.returns-then-opening-clause-settles
returns-then-opening-clause-settles c = λ received opened. opened.closed c.if-opening.true

pub loop-count-init : goal.loop-count-init
loop-count-init c = record { at_turn = turn_two; midway = λ received m. m; ready = c.requires.ready }

pub sweep_turn-here-requires : goal.sweep_turn-here-requires
sweep_turn-here-requires c =
    let here = (goal.at.sweep_turn-here-requires c).At-loop-count in
    record {
      ready = c.loop-count.invariant.ready;
      across = record { noted = λ e. c.requires.places_noted c.if-opening.false };
      hears = rw c.loop-count.invariant.at_turn (midway-hears (begun here (one here)) (one here));
    }

pub all_satisfied-requires : goal.all_satisfied-requires
all_satisfied-requires c = record {
  ready = c.sweep_turn-here.ensures.still_ready;
  words_read = c.sweep_turn-here.ensures.news_swept.listening.reads;
}

pub returns-then-all_satisfied-clause-settles : goal.returns-then-all_satisfied-clause-settles
returns-then-all_satisfied-clause-settles c =
    let at = goal.at.returns-then-all_satisfied-clause-settles c in
    λ received opened.
    let m = midway at.At-loop-count received opened in
    midway-settled (begun at.At-loop-count m) m (swept at.After-sweep_turn-here) c.if-here-eq0.true
    (sym c.all_satisfied.ensures ∙ c.if-all_satisfied.true) c.loop-count-test.true

pub overflow_add-result : goal.overflow_add-result
overflow_add-result c = omega (arith, c.requires.opened_some.limited)

pub add_visits-requires : goal.add_visits-requires
add_visits-requires c = more-visits (goal.at.add_visits-requires c).After-sweep_turn-here

pub returns-then-here-eq0-clause-settles : goal.returns-then-here-eq0-clause-settles
returns-then-here-eq0-clause-settles c =
    let at = goal.at.returns-then-here-eq0-clause-settles c in
    λ received opened.
    let m = midway at.At-loop-count received opened in
    midway-lost (begun at.At-loop-count m) m (swept at.After-sweep_turn-here) c.if-here-eq0.true
    (sym c.all_satisfied.ensures ∙ c.if-all_satisfied.false) c.loop-count-test.true c.add_visits.ensures

pub note-requires : goal.note-requires
note-requires c =
    let at = goal.at.note-requires c in
    let m = one at.At-loop-count in
    let b = begun at.At-loop-count m in
    record { sums_len = told-sized b (midway-told b m); changed_bound = midway-few b m (swept at.After-sweep_turn-here) }

pub add_visits-visits-requires : goal.add_visits-visits-requires
add_visits-visits-requires c = more-visits (goal.at.add_visits-visits-requires c).After-sweep_turn-here

pub overflow_step-count : goal.overflow_step-count
overflow_step-count c = omega (arith, c.requires.opened_some.limited)

pub loop-count-preserved : goal.loop-count-preserved
loop-count-preserved c =
    let at = goal.at.loop-count-preserved c in
    record {
      at_turn = c.other-side.ensures ∙ turn_more c.loop-count.count c.loop-count.invariant.at_turn;
      midway = λ received start.
          let m = c.loop-count.invariant.midway received start in
          midway-more (begun at.At-loop-count m) m (swept at.After-sweep_turn-here) c.if-here-eq0.false c.note.ensures c.add_visits-visits.ensures;
      ready = c.sweep_turn-here.ensures.still_ready;
    }

pub overflow_add-result-2 : goal.overflow_add-result-2
overflow_add-result-2 c = omega (arith, c.requires.opened_some.limited)

-- no sweep is left: the limit is below two, or the last one was made
pub returns : goal.returns
returns c =
    let here = (goal.at.returns c).At-loop-count in
    elim c.loop-count-test.branch [
      | else-loop-count-test w ↦
          rw (w.left_finder-is, w.right_finder-is, w.block-is, w.sums-is, w.visits-is)
          (record {
            still_ready = c.loop-count.invariant.ready;
            settles = λ received opened. let m = midway here received opened in midway-never (begun here m) m w.loop-count-test.false;
          })
      | then-loop-count-test+else-here-eq0+else-count-limit w ↦
          let sweeps = rw c.loop-count.invariant.at_turn at w.sweep_turn-here.ensures.news_swept in
          rw (w.left_finder-is, w.right_finder-is, w.block-is, w.sums-is, w.visits-is)
          (record {
            still_ready = w.sweep_turn-here.ensures.still_ready;
            settles = λ received opened.
                let m = midway here received opened in
                midway-never (begun here m) (midway-more (begun here m) m sweeps w.if-here-eq0.false w.note.ensures w.add_visits-visits.ensures) (omega arith);
          })
    ]
