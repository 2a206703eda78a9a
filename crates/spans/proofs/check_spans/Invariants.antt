use Rattle.std.proofs.Common.{[], ◌≡◌}
use Rattle.inner_code.specs.Reply.{done}
use Rattle.spans.specs.Spans.{end_before, pairs_check}
use Rattle.spans.proofs.check_spans.Given as goal

abbrev pub invariant-loop-j : goal.invariant-loop-j
invariant-loop-j l =
    (pairs_check l.bits l.lost l.j ≡ done []) × (l.before ≡ end_before l.lost l.j)
