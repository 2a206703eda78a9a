-- `sweeps::all_satisfied` meets its contract: the left words are those of the block, and so are the right ones that are kept.
use Rattle.std.proofs.Common.{true, ◌≡◌, sym, ℕ, ◌<◌}
use Rattle.wiring.specs.Block.{satisfied}
use Rattle.wiring.specs.Plan.{side_of, left, right}
use Rattle.wiring.specs.PlanParts.{plan_in}
use Rattle.wiring.proofs.Plans.{plan-fits}
use Rattle.sweeps.proofs.Visiting.{ready-shared}
use Rattle.sweeps.proofs.Rounds.{satisfied-not, satisfied-both}
use Rattle.sweeps.proofs.sweep.all_satisfied.Goals as goal
use Rattle.sweeps.proofs.sweep.all_satisfied.Goals.{Else-not-all_codewords}

-- the left side is satisfied
lefts : (c : Else-not-all_codewords)
    → (v : ℕ) → v < c.args.plan.now.parts.nl → satisfied (side_of (plan_in c.args.plan.now.parts) left) c.args.block.now v ≡ true
lefts c = c.all_codewords.ensures.when_true (c.if-not-all_codewords.false) _

pub all_codewords-requires : goal.all_codewords-requires
all_codewords-requires c =
    record {
      n_bound = (plan-fits (plan_in c.args.plan.now.parts) c.requires.ready.plan-done left).n-high;
      finds = c.requires.ready.left-finds;
    }

pub returns-then-not-all_codewords : goal.returns-then-not-all_codewords
returns-then-not-all_codewords c =
    let (v, l, missed) = c.all_codewords.ensures.when_false (c.if-not-all_codewords.true) c.args.plan.now.parts.wiring.now in
    sym (satisfied-not (side_of (plan_in c.args.plan.now.parts)) _ left v l missed)

pub kept_codewords-requires : goal.kept_codewords-requires
kept_codewords-requires c =
    record {
      n_bound = (plan-fits (plan_in c.args.plan.now.parts) c.requires.ready.plan-done right).n-high;
      kept_len = c.requires.words_read.sized;
      finder_len = (ready-shared c.requires.ready c.if-right_finder-eq0.true).sized;
    }

pub returns-then-right_finder-eq0 : goal.returns-then-right_finder-eq0
returns-then-right_finder-eq0 c =
    let none = c.if-right_finder-eq0.true in
    satisfied-both (plan_in c.args.plan.now.parts) c.requires.ready.plan-done c.args.block.now (lefts (goal.at.returns-then-right_finder-eq0 c).Else-not-all_codewords)
    c.requires.words_read (ready-shared c.requires.ready none) _ c.kept_codewords.ensures.when_true c.kept_codewords.ensures.when_false

pub kept_codewords-requires-2 : goal.kept_codewords-requires-2
kept_codewords-requires-2 c =
    record {
      n_bound = (plan-fits (plan_in c.args.plan.now.parts) c.requires.ready.plan-done right).n-high;
      kept_len = c.requires.words_read.sized;
      finder_len = (c.requires.ready.right-finds c.if-right_finder-eq0.false).sized;
    }

pub returns : goal.returns
returns c =
    let some = c.if-right_finder-eq0.false in
    satisfied-both (plan_in c.args.plan.now.parts) c.requires.ready.plan-done c.args.block.now (lefts (goal.at.returns c).Else-not-all_codewords)
    c.requires.words_read (c.requires.ready.right-finds some) _ c.kept_codewords-2.ensures.when_true c.kept_codewords-2.ensures.when_false
