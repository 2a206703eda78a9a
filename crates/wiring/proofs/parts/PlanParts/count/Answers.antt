-- `PlanParts::count` meets its contract: each arm gives the number of its side.
use Rattle.std.proofs.Common.{sym, ap}
use Rattle.wiring.specs.declared.side.SideName.{SideName}
use Rattle.wiring.specs.Access.{count_for}
use Rattle.wiring.proofs.parts.PlanParts.count.Goals as goal

pub returns-in-Left : goal.returns-in-Left
unfolding count_for
returns-in-Left c = sym (ap (λ (name : SideName). count_for name c.args.self.now.nl c.args.self.now.nr) c.in-Left.is)

pub returns-in-Right : goal.returns-in-Right
unfolding count_for
returns-in-Right c = sym (ap (λ (name : SideName). count_for name c.args.self.now.nl c.args.self.now.nr) c.in-Right.is)
