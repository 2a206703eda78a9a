use Rattle.wiring.specs.Plan.{side_bit}
use Rattle.words.specs.Words.{pattern_put}
use Rattle.words.proofs.Patterns.{Rest}
use Rattle.words.proofs.pattern.put_pattern.Given as goal

abbrev pub invariant-loop-rest : goal.invariant-loop-rest
invariant-loop-rest l =
    Rest (side_bit l.side l.wiring) l.d l.base (pattern_put (side_bit l.side l.wiring) l.d l.base l.pattern l.d l.initial.block) l.block l.rest

abbrev pub decreases-loop-rest : goal.decreases-loop-rest
decreases-loop-rest l = l.rest
