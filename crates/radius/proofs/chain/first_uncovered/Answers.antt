-- `radius::first_uncovered` meets its contract: each F passed is covered, and N + 1 is not.
use Rattle.std.proofs.Common.{◌≡◌, ◌*◌, ◌<◌, sym, ◌∙◌, arith, below_more}
use Rattle.radius.specs.Margin.{sweeps_named}
use Rattle.radius.specs.Ranges.{measures_by}
use Rattle.radius.proofs.Uncovered.{beyond-is, beyond-all}
use Rattle.radius.proofs.chain.first_uncovered.Goals as goal
use Rattle.radius.proofs.chain.first_uncovered.Goals.{else-loop-flips-test, then-loop-flips-test+else-sweeps_named-eq0+else-flips-edges}

pub returns-then-sweeps_named-eq0 : goal.returns-then-sweeps_named-eq0
returns-then-sweeps_named-eq0 c = sym (beyond-is _ _ c.loop-flips.invariant (sym c.sweeps_named.ensures ∙ c.if-sweeps_named-eq0.true))

pub loop-flips-preserved : goal.loop-flips-preserved
loop-flips-preserved c = below_more _ _ c.loop-flips.invariant (omega (arith, c.sweeps_named.ensures))

pub returns : goal.returns
returns c =
    elim c.loop-flips-test.branch [
      | else-loop-flips-test w ↦ absurd (omega arith)
      | then-loop-flips-test+else-sweeps_named-eq0+else-flips-edges w ↦
          let here : 0 < sweeps_named (measures_by c.args.plan) c.loop-flips.flips = omega (arith, w.sweeps_named.ensures) in
          let last : c.loop-flips.flips ≡ c.args.plan.nl * c.args.plan.dl = omega arith in
          beyond-all _ (rw last at (below_more _ _ c.loop-flips.invariant here))
    ]
