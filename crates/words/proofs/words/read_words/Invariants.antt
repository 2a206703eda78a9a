use Rattle.std.proofs.Common.{◌≡◌, ℕ, ◌<◌}
use Rattle.bits.specs.Window.{at}
use Rattle.wiring.specs.Block.{vertex_word}
use Rattle.wiring.specs.Plan.{side_of}
use Rattle.wiring.specs.PlanParts.{plan_in}
use Rattle.wiring.specs.declared.side.SideName.{SideName}
use Rattle.words.specs.Marks.{Cleared}
use Rattle.words.proofs.words.read_words.Given as goal

abbrev pub invariant-loop-v : goal.invariant-loop-v
invariant-loop-v l =
    Cleared l.kept
    × ((u : ℕ) → u < l.v → at l.kept u ≡ vertex_word (side_of (plan_in l.plan.parts) SideName.Right) l.block u)
