-- `radius::measured_distance` meets its contract: the listed words are the codewords, and the fewest ones of these are the distance.
use Rattle.std.proofs.Common.{◌≡◌, ap, ◌∙◌, ℕ, ◌-◌, arith, length, take}
use Rattle.bits.specs.Window.{at}
use Rattle.inner_code.specs.Reduction.{fewest_ones}
use Rattle.inner_code.specs.Sheet.{row_of}
use Rattle.inner_code.proofs.Listings.{words-most}
use Rattle.radius.proofs.MeasuredNumbers.{listed-distance}
use Rattle.radius.proofs.numbers.measured_distance.Goals as goal

pub returns : goal.returns
returns c =
    let args = c.args in
    let words = c.list_codewords-count.new.words in
    let all : c.list_codewords-count.result - 0 ≡ c.list_codewords-count.result = omega arith in
    c.distance.ensures
    ∙ ap (λ (m : ℕ). fewest_ones (at (take m words)) (length (take m words))) all
    ∙ listed-distance (row_of args.sheet.now) args.k c.list_codewords-count.ensures (words-most args.k)
