-- `tables::top_digit` meets its contract.
use Rattle.std.proofs.Common.{sym, ◌∙◌, ◌-◌, arith}
use lib.Count.{count_leading_zeros}
use Rattle.bits.proofs.Windows.{shifted_one}
use Rattle.tables.proofs.Numbers.{top-none, top-some}
use Rattle.tables.proofs.numbering.top_digit.Goals as goal
use Rattle.tables.proofs.numbering.top_digit.Goals.{Else-word-eq0}

pub returns-then-word-eq0 : goal.returns-then-word-eq0
returns-then-word-eq0 c = sym (top-none c.args.word c.if-word-eq0.true)

pub returns : goal.returns
returns c =
    let word = c.args.word in
    shifted_one (15 - count_leading_zeros 16 word) 16 (omega arith) ∙ sym (top-some word c.if-word-eq0.false)
