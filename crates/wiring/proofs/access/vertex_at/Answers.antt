-- `wiring::vertex_at` meets its contract: each arm divides by d.
use Rattle.std.proofs.Common.{sym, ap, ℕ, ◌/◌}
use Rattle.wiring.proofs.access.vertex_at.Goals as goal

pub returns-then-d-eq16 : goal.returns-then-d-eq16
returns-then-d-eq16 c = ap (λ (d : ℕ). c.args.entry / d) (sym c.if-d-eq16.true)

pub returns-then-d-eq8 : goal.returns-then-d-eq8
returns-then-d-eq8 c = ap (λ (d : ℕ). c.args.entry / d) (sym c.if-d-eq8.true)
