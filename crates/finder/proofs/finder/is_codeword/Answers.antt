-- `finder::is_codeword` meets its contract: what the rows leave is compared with 0.
use Rattle.std.proofs.Common.{ap, ℕ, eqb}
use Rattle.finder.specs.Finding.{codeword_by}
use Rattle.finder.proofs.finder.is_codeword.Goals as goal

pub returns : goal.returns
unfolding codeword_by
returns c = ap (λ (x : ℕ). eqb x 0) c.left_of.ensures
