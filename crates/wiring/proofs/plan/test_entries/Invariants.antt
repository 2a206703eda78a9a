use Rattle.std.proofs.Common.{◌≡◌, []}
use Rattle.inner_code.specs.Reply.{done}
use Rattle.wiring.specs.Plan.{edge_of}
use Rattle.wiring.specs.Wiring.{entries_check}
use Rattle.wiring.specs.Access.{none_seen, seen_after}
use Rattle.wiring.proofs.plan.test_entries.Given as goal

abbrev pub invariant-loop-i : goal.invariant-loop-i
invariant-loop-i l =
    (entries_check l.edges (edge_of l.wiring) l.i ≡ done []) × (l.seen ≡ seen_after (edge_of l.wiring) l.i none_seen)
