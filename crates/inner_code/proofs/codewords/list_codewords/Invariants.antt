use Rattle.std.proofs.Common.{◌≡◌, ◌^◌, length}
use Rattle.inner_code.specs.Sheet.{row_of}
use Rattle.inner_code.specs.Reduction.{listed}
use Rattle.inner_code.proofs.codewords.list_codewords.Given as goal

abbrev pub invariant-loop-i : goal.invariant-loop-i
invariant-loop-i l =
    (l.count ≡ 2 ^ l.i) × (l.words ≡ listed (row_of l.sheet) l.i l.initial.words) × (length l.words ≡ length l.initial.words)
