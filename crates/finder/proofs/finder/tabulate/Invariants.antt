use Rattle.std.proofs.Common.{◌≡◌, ℕ, ◌^◌}
use Rattle.inner_code.specs.Reduction.{listed}
use Rattle.finder.specs.Finding.{PowersBy}
use Rattle.finder.proofs.finder.tabulate.Given as goal

abbrev pub invariant-loop-b : goal.invariant-loop-b
invariant-loop-b g l =
    (l.count ≡ 2 ^ l.b)
    × ((row : ℕ → ℕ → ℕ) → PowersBy (goal.F-post g l.of) row → l.table ≡ listed (row l.from) l.b l.initial.table)
