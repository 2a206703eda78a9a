use Rattle.std.proofs.Common.{◌+◌, ◌≤◌, ◌≡◌}
use Rattle.radius.specs.Ranges.{measures_by}
use Rattle.wiring.specs.Plan.{right}
use Rattle.radius.proofs.MarginChain.{sweeps_from}
use Rattle.radius.proofs.ChainWalk.{counted}
use Rattle.radius.proofs.chain.chain.Given as goal

abbrev pub invariant-loop-b : goal.invariant-loop-b
invariant-loop-b l =
    (l.b + l.place ≤ l.first + 1) × (sweeps_from (measures_by l.plan) right l.first ≡ counted l.place (sweeps_from (measures_by l.plan) l.to l.b))

abbrev pub decreases-loop-b : goal.decreases-loop-b
decreases-loop-b l = l.b
