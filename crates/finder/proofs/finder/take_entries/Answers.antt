-- `finder::take_entries` meets its contract: after c turns the patterns of the first c entries stand there.
use Rattle.std.proofs.Common.{ℕ, List, refl, sym, ap, ap₂, ◌∙◌, set}
use Rattle.finder.specs.Finding.{entry_pattern, entries_of}
use Rattle.finder.proofs.Finding.{entries-one-more}
use Rattle.finder.proofs.finder.take_entries.Goals as goal

pub loop-c-init : goal.loop-c-init
unfolding entries_of
loop-c-init c = refl

pub loop-c-preserved : goal.loop-c-preserved
unfolding entry_pattern
loop-c-preserved c =
    let args = c.args in
    ap₂ (λ (l : List ℕ) (x : ℕ). set l c.loop-c.c x) c.loop-c.invariant
    (c.pattern_of.ensures ∙ ap (entry_pattern args.d) c.pair.ensures)
    ∙ sym (entries-one-more args.d args.table.now c.loop-c.c args.entries.now)
