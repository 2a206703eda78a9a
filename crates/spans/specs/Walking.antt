-- How the code walks over the pairs of a list, sorted or not: none of this is needed to believe a contract of a service.
--   made b from m block        the block with the m bits from bit `from` on made b
--   pairs_made b lost m block   the block with the bits of the first m pairs made b
--   flips_between a b from to   in how many of the bits from .. to - 1 two blocks differ; none where `to` is not above `from`
--   reach lost m               the farthest end of the first m pairs
--   flips_in_gaps lost a b m     in how many bits two blocks differ that lie before one of the first m pairs and behind all pairs before that one
--   flips_around N lost a b     the same for all pairs, and behind them up to bit N - 1
use Rattle.std.specs.Prelude.{ℕ, zero, suc, ◌+◌, ◌-◌, max, List}
use Rattle.std.specs.Int.Bits.{bit_xor}
use Rattle.bits.specs.Bit.{bit_at, with_bit}
use Rattle.bits.specs.Sum.{sum}
use Rattle.spans.specs.Spans.{pair_count, start_of, length_of, end_of}

unfoldable pub made : ℕ → ℕ → ℕ → List ℕ → List ℕ
unfolding with_bit
made b from zero block = block
made b from (suc m) block = with_bit (made b from m block) (from + m) b

unfoldable pub pairs_made : ℕ → List ℕ → ℕ → List ℕ → List ℕ
unfolding made start_of length_of
pairs_made b lost zero block = block
pairs_made b lost (suc j) block = made b (start_of lost j) (length_of lost j) (pairs_made b lost j block)

unfoldable pub flips_between : List ℕ → List ℕ → ℕ → ℕ → ℕ
unfolding sum bit_at
flips_between a b from to = sum (to - from) (λ i. bit_xor (bit_at a (from + i)) (bit_at b (from + i)))

unfoldable pub reach : List ℕ → ℕ → ℕ
unfolding end_of
reach lost zero = 0
reach lost (suc j) = max (reach lost j) (end_of lost j)

unfoldable pub flips_in_gaps : List ℕ → List ℕ → List ℕ → ℕ → ℕ
unfolding flips_between reach start_of
flips_in_gaps lost a b zero = 0
flips_in_gaps lost a b (suc j) = flips_in_gaps lost a b j + flips_between a b (reach lost j) (start_of lost j)

unfoldable pub flips_around : ℕ → List ℕ → List ℕ → List ℕ → ℕ
unfolding flips_in_gaps flips_between reach pair_count
flips_around N lost a b = flips_in_gaps lost a b (pair_count lost) + flips_between a b (reach lost (pair_count lost)) N
