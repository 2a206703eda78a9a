-- `finder::sought` meets its contract: by the pattern of a single one where there is one, and else by a search.
use Rattle.std.proofs.Common.{ap, ◌∙◌}
use Rattle.inner_code.specs.Reduction.{step_to}
use Rattle.finder.proofs.Finding.{sought-searched, sought-single}
use Rattle.finder.proofs.finder.sought.Goals as goal

pub returns-then-single-eq0 : goal.returns-then-single-eq0
returns-then-single-eq0 c =
    let args = c.args in
    c.search.ensures ∙ ap (step_to args.word) (sought-searched args.finder.now args.single args.word c.if-single-eq0.true)

pub returns : goal.returns
returns c =
    let args = c.args in
    c.put_on.ensures ∙ ap (step_to args.word) (sought-single args.finder.now args.single args.word c.if-single-eq0.false)
