-- `finder::find_numbered` meets its contract: the classes are numbered by the sheet's echelon form, and the word's has its entry.
use Rattle.std.proofs.Common.{◌≡◌, ℕ, ◌-◌, ◌≤◌, List, replicate}
use mathlib.Core.Path.{subst⁻¹}
use Rattle.inner_code.specs.Reduction.{with_echelon}
use Rattle.inner_code.specs.Sheet.{degree, row_count, row_of}
use Rattle.finder.specs.Finding.{Finds, Fewer, Renumbered}
use Rattle.finder.proofs.Finding.{checked-echelon, renumbered, renumbered-finds, entry_lt, found-numbered}
use Rattle.finder.proofs.finder.find_numbered.Goals as goal
use Rattle.finder.proofs.finder.find_numbered.Goals.{After-number_classes}

fewer-known : {sheet basis finder : List ℕ} → Finds sheet finder → degree sheet - row_count sheet ≤ 11
    → basis ≡ with_echelon (row_of sheet) (row_count sheet) (replicate 11 0) → Fewer sheet basis
fewer-known finds few echelon = record { accepted = finds.accepted; echelon = echelon; few = few }

pub number_classes-requires-clause-fewer : goal.number_classes-requires-clause-fewer
number_classes-requires-clause-fewer c =
    let known = c.requires in
    fewer-known known.finds known.sheet_bound (checked-echelon _ c.check_into.ensures known.finds.accepted)

numbered : (c : After-number_classes) → Renumbered c.args.sheet.now c.args.finder.now c.number_classes.new.finder
numbered c =
    let known = c.requires in
    subst⁻¹ (Renumbered c.args.sheet.now c.args.finder.now) c.number_classes.ensures
    (renumbered c.args.sheet.now _ c.args.finder.now known.finds.sized
    (fewer-known known.finds known.sheet_bound (checked-echelon _ c.check_into.ensures known.finds.accepted)))

pub by_entry-requires-clause-left_bound : goal.by_entry-requires-clause-left_bound
by_entry-requires-clause-left_bound c =
    let known = c.requires in
    let done = numbered (goal.at.by_entry-requires-clause-left_bound c).After-number_classes in
    entry_lt (renumbered-finds known.finds known.sheet_bound done) c.args.word known.word_bound done.flag _ c.left_of.ensures

pub returns : goal.returns
returns c =
    let known = c.requires in
    found-numbered known.finds known.word_bound known.sheet_bound (numbered (goal.at.returns c).After-number_classes) _ c.left_of.ensures c.by_entry.ensures
