-- `finder::numbers_pay` meets its contract: past the first test there is room.
use Rattle.std.proofs.Common.{◌≡◌, ℕ, ◌+◌, ◌*◌, ◌%◌, ◌^◌, ap, ◌∙◌, get_or, arith, leb}
use Rattle.bits.proofs.Windows.{shifted_one}
use Rattle.finder.specs.Finding.{digits_in}
use Rattle.finder.proofs.Finding.{pays-short, pays-long}
use Rattle.finder.proofs.finder.numbers_pay.Goals as goal
use Rattle.finder.proofs.finder.numbers_pay.Goals.{After-digits_in}

words_are : (c : After-digits_in) → (1 * 2 ^ c.digits_in.result) % 2 ^ 64 ≡ 2 ^ digits_in c.args.finder.now
words_are c =
    shifted_one c.digits_in.result 64 (omega (arith, c.requires.digits-high)) ∙ ap (λ (n : ℕ). 2 ^ n) c.digits_in.ensures

pub returns-then-listed-words : goal.returns-then-listed-words
returns-then-listed-words c =
    pays-short c.args.finder.now (omega (arith, words_are (goal.at.returns-then-listed-words c).After-digits_in, c.if-listed-words.true))

pub returns : goal.returns
returns c =
    let finder = c.args.finder.now in
    let listed = get_or finder 0 0 in
    let words = words_are (goal.at.returns c).After-digits_in in
    ap (λ (x : ℕ). leb (4 * x + 1024 * listed) ((get_or finder 3 0 + 1) * listed * listed)) words
    ∙ pays-long finder (omega (arith, words, c.if-listed-words.false))
