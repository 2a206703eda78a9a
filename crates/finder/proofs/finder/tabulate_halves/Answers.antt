-- `finder::tabulate_halves` meets its contract: the two tables are lent out as parts and come back filled.
use Rattle.std.proofs.Common.{◌≡◌, ℕ, ◌-◌, List, take, drop}
use Rattle.inner_code.specs.Reduction.{listed}
use Rattle.finder.specs.Finding.{with_part, with_halves}
use Rattle.finder.proofs.Finding.{put_back}
use Rattle.finder.proofs.finder.tabulate_halves.Goals as goal

halves-are : (row : ℕ → ℕ → ℕ) (d digits : ℕ) (low high finder : List ℕ) → digits ≡ d - 8
    → low ≡ listed (row 0) 8 (take 256 (drop 32 finder))
    → high ≡ listed (row 8) digits (take 256 (drop 288 (put_back 32 256 low finder)))
    → put_back 288 256 high (put_back 32 256 low finder) ≡ with_halves row d finder
unfolding with_halves with_part
halves-are row d digits low high finder digits_are low_is high_is = rw (high_is, digits_are, low_is)

pub returns : goal.returns
returns g c = λ row powers.
    halves-are row c.args.d c.saturating_sub.result c.tabulate.new.table c.tabulate-2.new.table c.args.finder.now c.saturating_sub.ensures
    (c.tabulate.ensures row powers) (c.tabulate-2.ensures row powers)
