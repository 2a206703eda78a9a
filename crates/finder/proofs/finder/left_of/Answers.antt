-- `finder::left_of` meets its contract: the two halves of the word are looked up.
use Rattle.std.proofs.Common.{refl}
use Rattle.finder.specs.Finding.{left_in}
use Rattle.finder.proofs.finder.left_of.Goals as goal

pub returns : goal.returns
unfolding left_in
returns c = refl
