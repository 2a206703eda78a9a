-- `finder::find_missed` meets its contract: each return leads to the nearest word, and what is kept is the sheet's.
use Rattle.std.proofs.Common.{sym, ◌∙◌}
use Rattle.finder.specs.Finding.{slot_of}
use Rattle.finder.proofs.Finding.{finds-formed, pays-room, room-few, found-sought}
use Rattle.finder.proofs.finder.find_missed.Goals as goal

pub single_pattern-single-requires : goal.single_pattern-single-requires
single_pattern-single-requires c = finds-formed c.requires.finds

pub numbers_pay-requires : goal.numbers_pay-requires
numbers_pay-requires c = finds-formed c.requires.finds

pub find_numbered-requires-clause-sheet_bound : goal.find_numbered-requires-clause-sheet_bound
find_numbered-requires-clause-sheet_bound c = room-few c.requires.finds (pays-room _ (sym c.numbers_pay.ensures ∙ c.if-numbers_pay.true))

pub sought-step-requires : goal.sought-step-requires
sought-step-requires c = finds-formed c.requires.finds

pub returns : goal.returns
unfolding slot_of
returns c =
    found-sought c.requires.finds c.requires.word_lt c.requires.unnumbered c.args.left c.requires.left_is c.requires.some _
    c.single_pattern-single.ensures c.sought-step.ensures _
