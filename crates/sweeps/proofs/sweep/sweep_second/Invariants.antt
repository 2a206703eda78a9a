use Rattle.std.proofs.Common.{◌≡◌, ℕ, ◌+◌, ◌<◌}
use Rattle.bits.specs.Window.{at}
use Rattle.finder.specs.Finding.{Finds}
use Rattle.wiring.specs.Plan.{Plan}
use Rattle.wiring.specs.PlanParts.{plan_in}
use Rattle.wiring.specs.declared.side.SideName.{SideName}
use Rattle.words.specs.Marks.{news_of}
use Rattle.sweeps.proofs.Rounds.{Round}
use Rattle.sweeps.proofs.sweep.sweep_second.Given as goal

abbrev pub invariant-loop-v : goal.invariant-loop-v
invariant-loop-v l =
    let plan : Plan = plan_in l.plan.parts in
    Round plan SideName.Right l.initial.block l.v l.changed l.ties l.block l.kept × Finds l.plan.parts.right_sheet.now l.finder
    × ((i : ℕ) → i < 128 → at l.kept (news_of SideName.Right + i) ≡ at l.initial.kept (news_of SideName.Right + i))
