-- `finder::make_entries` meets its contract: the table that is filled is the sheet's.
use Rattle.std.proofs.Common.{ap, ◌∙◌, List, [], ℕ, ◌/◌, arith, length}
use Rattle.inner_code.specs.Sheet.{degree}
use Rattle.inner_code.proofs.SheetChecks.{sound}
use Rattle.finder.specs.Finding.{entries_of, sheet_entries}
use Rattle.finder.proofs.finder.make_entries.Goals as goal

pub bounds-sheet-0 : goal.bounds-sheet-0
unfolding degree
bounds-sheet-0 c = omega (arith, (sound c.args.sheet.now [] c.requires.sized.accepted).sized)

pub take_entries-requires-clause-d_bound : goal.take_entries-requires-clause-d_bound
unfolding degree
take_entries-requires-clause-d_bound c = omega (arith, (sound c.args.sheet.now [] c.requires.sized.accepted).degree-high)

pub returns : goal.returns
unfolding degree sheet_entries
returns c =
    let args = c.args in
    c.take_entries.ensures
    ∙ ap (λ (t : List ℕ). entries_of (degree args.sheet.now) t (length t / 2) args.entries.now) c.fill.ensures
