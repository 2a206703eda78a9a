use Rattle.std.proofs.Common.{List, ◌≡◌, ℕ, ◌+◌, ◌*◌, ◌≤◌, ◌<◌}
use Rattle.bits.specs.Window.{at}
use Rattle.finder.specs.Finding.{Finds}
use Rattle.wiring.specs.Plan.{Plan, sheet_of}
use Rattle.wiring.specs.PlanParts.{plan_in}
use Rattle.words.specs.Marks.{news_of}
use Rattle.sweeps.specs.Sweeping.{Hears}
use Rattle.sweeps.proofs.Rounds.{NewsRound, NewsScan}
use Rattle.sweeps.proofs.sweep.sweep_news.Given as goal

abbrev pub invariant-loop-rest : goal.invariant-loop-rest
invariant-loop-rest l =
    let plan : Plan = plan_in l.plan.parts in
    ((before marks : List ℕ) → Hears plan l.side before marks
    → NewsScan plan l.side before marks l.i l.initial.changed l.initial.visits l.initial.block l.initial.kept l.initial.rest
    → NewsScan plan l.side before marks l.i l.changed l.visits l.block l.kept l.rest)
    × (Finds (sheet_of plan l.side) l.initial.finder → Finds (sheet_of plan l.side) l.finder)
    × ((j : ℕ) → j < 128 → at l.kept (news_of l.side + j) ≡ at l.initial.kept (news_of l.side + j))

abbrev pub decreases-loop-rest : goal.decreases-loop-rest
decreases-loop-rest l = l.rest

abbrev pub invariant-loop-i : goal.invariant-loop-i
invariant-loop-i l =
    let plan : Plan = plan_in l.plan.parts in
    NewsRound plan l.side l.initial.block l.initial.kept (16 * l.i) l.changed l.visits l.block l.kept × Finds (sheet_of plan l.side) l.finder
    × ((j : ℕ) → l.i ≤ j → j < 128 → at l.kept (news_of l.side + j) ≡ at l.initial.kept (news_of l.side + j))
    × ((j : ℕ) → j < l.i → at l.kept (news_of l.side + j) ≡ 0)
