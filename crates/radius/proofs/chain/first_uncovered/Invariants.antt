use Rattle.std.proofs.Common.{ℕ, ◌<◌}
use Rattle.radius.specs.Margin.{sweeps_named}
use Rattle.radius.specs.Ranges.{measures_by}
use Rattle.radius.proofs.chain.first_uncovered.Given as goal

abbrev pub invariant-loop-flips : goal.invariant-loop-flips
invariant-loop-flips l = (F : ℕ) → F < l.flips → 0 < sweeps_named (measures_by l.plan) F
