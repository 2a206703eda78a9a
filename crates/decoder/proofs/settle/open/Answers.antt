-- `decoder::open` meets its contract: each sweep of the code is a sweep of the definition, its count of changed bits is noted as its sum, and with
-- the ties of both tells whether the block was settled before the second. Where the second changes something, the left side is tested for it.
use Rattle.std.proofs.Common.{◌≡◌, ℕ, ◌+◌, ◌≤◌, ◌<◌, List, min, refl, sym, arith, true≢false}
use Rattle.wiring.specs.Plan.{Plan, count_of, side_of, left, right, other}
use Rattle.wiring.specs.PlanParts.{plan_in}
use Rattle.wiring.specs.declared.side.SideName.{SideName}
use Rattle.wiring.proofs.Plans.{plan-fits}
use Rattle.sweeps.specs.Sweep.{turn}
use Rattle.sweeps.specs.Sweeping.{BothSwept}
use Rattle.sweeps.specs.declared.sweep.Tally.{Tally}
use Rattle.sweeps.proofs.Sweeping.{after-zero}
use Rattle.sweeps.proofs.Visiting.{ties-le}
use Rattle.decoder.specs.Decode.{visits_in, visits_made}
use Rattle.decoder.specs.Turns.{added_visits}
use Rattle.decoder.proofs.VisitCounts.{visits-full, visits-added, visits-few}
use Rattle.decoder.proofs.Passes.{Begun, Pass, Told, Swept, turn-zero, turn_one, pass, pass-few, told-start, told_more, told-sized, swept-two}
use Rattle.decoder.proofs.Passes.{open-first, open-second, open-limit, open-settled, open-going}
use Rattle.decoder.proofs.settle.open.Goals as goal
use Rattle.decoder.proofs.settle.open.Goals.{Start, After-sweep_firsts-firsts, After-note, After-note-2}

module _ {plan : Plan} {block : List ℕ} (b : Begun plan block) where
  few : (name : SideName) → count_of plan name ≤ 2048
  few name = (plan-fits plan b.plan-done name).n-high

  left-visits : count_of plan left ≡ visits_in plan block 0
  unfolding turn
  left-visits = sym (visits-full plan block 0 (omega arith))

  right-visits : count_of plan right ≡ visits_in plan block 1
  unfolding turn other
  right-visits = sym (visits-full plan block 1 (omega arith))

  -- the visits of the first sweep leave room for those of the second
  visits-fit : (limit : ℕ) {one : ℕ} → one ≡ added_visits 0 0 limit (count_of plan left) → one + count_of plan right < 18446744073709551616
  visits-fit limit added =
      omega (
        arith,
        visits-added plan block limit 0 (told-start b limit refl).visits-are left-visits added,
        visits-few plan block few (min 1 limit),
        few right,
      )

  module _ {here there : Tally} {after kept : List ℕ} (both : BothSwept plan block here there after kept) where
    first-pass : Pass plan block 0 here both.between
    first-pass = pass b both.left-swept turn-zero (sym (after-zero (side_of plan) block))

    second-pass : Pass plan block 1 there after
    second-pass = pass b both.right-swept turn_one first-pass.leaves

    -- how many vertices wait
    ties-few : here.ties + there.ties ≤ 4096
    ties-few =
        omega (
          arith,
          both.left-swept.waiting,
          both.right-swept.waiting,
          ties-le (side_of plan left) block (count_of plan left),
          ties-le (side_of plan right) both.between (count_of plan right),
          few left,
          few right,
        )

-- ---- the places of the code

begun : (c : Start) → Begun (plan_in c.args.plan.now.parts) c.args.block.now
begun c = record { plan-done = c.args.plan.now.passed; block-done = c.requires.block_value }

module _ (c : After-sweep_firsts-firsts) where
  first : Pass (plan_in c.args.plan.now.parts) c.args.block.now 0 c.sweep_firsts-firsts.result.left c.sweep_firsts-firsts.ensures.both_swept.between
  first = first-pass (begun (goal.at.After-sweep_firsts-firsts c).Start) c.sweep_firsts-firsts.ensures.both_swept

  second : Pass (plan_in c.args.plan.now.parts) c.args.block.now 1 c.sweep_firsts-firsts.result.right c.sweep_firsts-firsts.new.block
  second = second-pass (begun (goal.at.After-sweep_firsts-firsts c).Start) c.sweep_firsts-firsts.ensures.both_swept

  waiting : c.sweep_firsts-firsts.result.left.ties + c.sweep_firsts-firsts.result.right.ties ≤ 4096
  waiting = ties-few (begun (goal.at.After-sweep_firsts-firsts c).Start) c.sweep_firsts-firsts.ensures.both_swept

-- the first sweep is told
module _ (c : After-note) where
  one : Told (plan_in c.args.plan.now.parts) c.args.block.now c.args.limit 1 c.note.new.sums c.add_visits-one.result
  one =
      let b = begun (goal.at.After-note c).Start in
      told_more b (told-start b c.args.limit refl) (first (goal.at.After-note c).After-sweep_firsts-firsts) c.note.ensures (left-visits b)
      c.add_visits-one.ensures

  both-visits : c.add_visits-two.result ≡ visits_made (plan_in c.args.plan.now.parts) c.args.block.now (min 2 c.args.limit)
  both-visits =
      visits-added (plan_in c.args.plan.now.parts) c.args.block.now c.args.limit 1 one.visits-are (right-visits (begun (goal.at.After-note c).Start))
      c.add_visits-two.ensures

-- and so is the second, which changed something
swept : (c : After-note-2) → Swept (plan_in c.args.plan.now.parts) c.args.block.now c.args.limit 2 c.sweep_firsts-firsts.new.block c.note-2.new.sums c.add_visits-two.result
swept c =
    let b = begun (goal.at.After-note-2 c).Start in
    let two = second (goal.at.After-note-2 c).After-sweep_firsts-firsts in
    swept-two b two c.if-second-eq0.false
    (told_more b (one (goal.at.After-note-2 c).After-note) two c.note-2.ensures (right-visits b) c.add_visits-two.ensures)

-- ---- the goals

pub add_visits-two-requires : goal.add_visits-two-requires
add_visits-two-requires c = visits-fit (begun (goal.at.add_visits-two-requires c).Start) c.args.limit c.add_visits-one.ensures

pub note-requires : goal.note-requires
note-requires c = record {
  sums_len = refl;
  changed_bound = pass-few (begun (goal.at.note-requires c).Start) (first (goal.at.note-requires c).After-sweep_firsts-firsts);
}

pub overflow_add-first : goal.overflow_add-first
overflow_add-first c = omega (arith, waiting (goal.at.overflow_add-first c).After-sweep_firsts-firsts)

pub returns-then-first-eq0-clause-opened : goal.returns-then-first-eq0-clause-opened
returns-then-first-eq0-clause-opened c =
    let at = goal.at.returns-then-first-eq0-clause-opened c in
    open-first (begun at.Start) (first at.After-sweep_firsts-firsts) (second at.After-sweep_firsts-firsts) c.if-first-eq0.true c.if-second-eq0.true
    (one at.After-note).sums-are (both-visits at.After-note) c.ended.ensures

pub overflow_add-first-then-second-eq0 : goal.overflow_add-first-then-second-eq0
overflow_add-first-then-second-eq0 c = omega (arith, waiting (goal.at.overflow_add-first-then-second-eq0 c).After-sweep_firsts-firsts)

pub returns-then-second-eq0-clause-opened : goal.returns-then-second-eq0-clause-opened
returns-then-second-eq0-clause-opened c =
    let at = goal.at.returns-then-second-eq0-clause-opened c in
    open-second (begun at.Start) (first at.After-sweep_firsts-firsts) (second at.After-sweep_firsts-firsts) c.if-first-eq0.false c.if-second-eq0.true
    (one at.After-note) (both-visits at.After-note) c.ended-then-second-eq0.ensures

pub note-requires-2 : goal.note-requires-2
note-requires-2 c =
    let at = goal.at.note-requires-2 c in record {
      sums_len = told-sized (begun at.Start) (one at.After-note);
      changed_bound = pass-few (begun at.Start) (second at.After-sweep_firsts-firsts);
    }

pub returns-then-limit-lt2-clause-opened : goal.returns-then-limit-lt2-clause-opened
returns-then-limit-lt2-clause-opened c =
    let at = goal.at.returns-then-limit-lt2-clause-opened c in record {
      limit_is = refl;
      closed = λ _. open-limit (begun at.Start) (swept at.After-note-2) c.if-limit-lt2.true;
      going = λ no. absurd (true≢false no);
    }

pub all_codewords-requires : goal.all_codewords-requires
all_codewords-requires c = record {
  n_bound = few (begun (goal.at.all_codewords-requires c).Start) left;
  finds = c.sweep_firsts-firsts.ensures.still_ready.left-finds;
}

pub returns-then-all_codewords-clause-opened : goal.returns-then-all_codewords-clause-opened
returns-then-all_codewords-clause-opened c =
    let at = goal.at.returns-then-all_codewords-clause-opened c in record {
      limit_is = refl;
      closed = λ _. open-settled (begun at.Start) (swept at.After-note-2) (second at.After-sweep_firsts-firsts) c.if-second-eq0-2.true
          c.if-limit-lt2.false (c.all_codewords.ensures.when_true c.if-all_codewords.true _);
      going = λ no. absurd (true≢false no);
    }

pub returns-clause-opened : goal.returns-clause-opened
returns-clause-opened c =
    let at = goal.at.returns-clause-opened c in record {
      limit_is = refl;
      closed = λ no. absurd (true≢false (sym no));
      going = λ _. open-going (begun at.Start) (swept at.After-note-2) (first at.After-sweep_firsts-firsts).leaves
          c.sweep_firsts-firsts.ensures.both_swept.listening;
    }
