use Rattle.std.proofs.Common.{◌≡◌, length}
use Rattle.inner_code.specs.Reduction.{doubled}
use Rattle.inner_code.proofs.codewords.double.Given as goal

abbrev pub invariant-loop-m : goal.invariant-loop-m
invariant-loop-m l = (length l.words ≡ length l.initial.words) × (l.words ≡ doubled l.count l.row l.m l.initial.words)
