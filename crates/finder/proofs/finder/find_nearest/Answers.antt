-- `finder::find_nearest` meets its contract: each return leads to the nearest word.
use Rattle.std.proofs.Common.{sym, ◌∙◌}
use Rattle.finder.specs.Finding.{slot_of}
use Rattle.finder.proofs.Finding.{entry_lt, found-codeword, found-entry, found-kept}
use Rattle.finder.proofs.finder.find_nearest.Goals as goal

pub returns-then-left-eq0 : goal.returns-then-left-eq0
returns-then-left-eq0 c =
    found-codeword c.requires.finds c.requires.word_bound (sym c.left_of-left.ensures ∙ c.if-left-eq0.true) c.put_on.ensures

pub by_entry-requires-clause-left_bound : goal.by_entry-requires-clause-left_bound
by_entry-requires-clause-left_bound c =
    entry_lt c.requires.finds c.args.word c.requires.word_bound c.if-finder-eq1.true _ c.left_of-left.ensures

pub returns-then-finder-eq1 : goal.returns-then-finder-eq1
returns-then-finder-eq1 c =
    found-entry c.requires.finds c.requires.word_bound c.if-finder-eq1.true _ c.left_of-left.ensures c.by_entry.ensures

pub returns-then-finder-slot : goal.returns-then-finder-slot
unfolding slot_of
returns-then-finder-slot c =
    found-kept c.requires.finds c.requires.word_bound c.if-finder-eq1.false _ c.left_of-left.ensures c.if-left-eq0.false c.if-finder-slot.true
    c.put_on-then-finder-slot.ensures
