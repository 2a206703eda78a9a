-- `finder::search` meets its contract: the part that is lent on holds the listed codewords.
use Rattle.std.proofs.Common.{ap, ◌∙◌, ◌+◌, ◌-◌, arith}
use Rattle.inner_code.specs.Reduction.{step_to}
use Rattle.finder.proofs.Finding.{search-part}
use Rattle.finder.proofs.finder.search.Goals as goal

pub returns : goal.returns
returns c =
    let args = c.args in
    c.nearest_listed.ensures
    ∙ ap (step_to args.word) (search-part args.finder.now (2592 + c.widened-end.result - 2592) args.word (omega arith) (omega arith))
