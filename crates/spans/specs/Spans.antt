-- Lost spans: a list of pairs, each a bit offset and a length, two bytes each, high byte first.
--   pair_count lost           the number of pairs in a list
--   start_of lost j           the first bit of pair j
--   length_of lost j          how many bits pair j has
--   end_of lost j             the bit after the last one of pair j
--   end_before lost j         the end of the pair before pair j; 0 before the first
--   span_check N lost j       pair j alone: without a bit or beyond N bits (25), else before the previous pair's end (26)
--   pairs_check N lost m      the first faulty pair below m
--   spans_check N lost        the list's place in the table: the first of 24, 25 and 26, or done with no value
--   is_lost lost i            bit i is in a span
--   lost_bits N lost          how many of the bits 0 .. N - 1 are in a span
--   flips_outside N lost a b  in how many of the others two blocks differ
--   filled_below b lost m block  the block with every lost bit below bit m made b
--   filled b lost block      the block with every lost bit made b
use Rattle.std.specs.Prelude.{ℕ, zero, suc, ◌+◌, ◌*◌, ◌/◌, ◌%◌, List, [], Bool, not, cond, ◌&&◌, ◌||◌, length, ltb, leb, eqb}
use Rattle.std.specs.Int.Bits.{bit_xor}
use Rattle.bits.specs.Bit.{bit_at, with_bit, pair_at}
use Rattle.bits.specs.Sum.{sum, flag}
use Rattle.bits.specs.Search.{some_below}
use Rattle.inner_code.specs.Reply.{Reply, done, refuse_if, and_then}

unfoldable pub pair_count : List ℕ → ℕ
pair_count lost = length lost / 4

unfoldable pub start_of : List ℕ → ℕ → ℕ
unfolding pair_at
start_of lost j = pair_at lost (4 * j)

unfoldable pub length_of : List ℕ → ℕ → ℕ
unfolding pair_at
length_of lost j = pair_at lost (4 * j + 2)

unfoldable pub end_of : List ℕ → ℕ → ℕ
unfolding start_of length_of
end_of lost j = start_of lost j + length_of lost j

unfoldable pub end_before : List ℕ → ℕ → ℕ
unfolding end_of
end_before lost zero = 0
end_before lost (suc j) = end_of lost j

unfoldable pub span_check : ℕ → List ℕ → ℕ → Reply
unfolding refuse_if start_of length_of end_of end_before
span_check N lost j =
    refuse_if (eqb (length_of lost j) 0 || ltb N (end_of lost j)) 25 0 (refuse_if (ltb (start_of lost j) (end_before lost j)) 26 0 (done []))

unfoldable pub pairs_check : ℕ → List ℕ → ℕ → Reply
unfolding and_then span_check
pairs_check N lost zero = done []
pairs_check N lost (suc j) = and_then (pairs_check N lost j) (span_check N lost j)

unfoldable pub spans_check : ℕ → List ℕ → Reply
unfolding refuse_if pair_count pairs_check
spans_check N lost = refuse_if (not (eqb (length lost % 4) 0)) 24 0 (pairs_check N lost (pair_count lost))

unfoldable pub is_lost : List ℕ → ℕ → Bool
unfolding some_below pair_count start_of end_of
is_lost lost i = some_below (pair_count lost) (λ j. leb (start_of lost j) i && ltb i (end_of lost j))

unfoldable pub lost_bits : ℕ → List ℕ → ℕ
unfolding sum flag is_lost
lost_bits N lost = sum N (λ i. flag (is_lost lost i))

unfoldable pub flips_outside : ℕ → List ℕ → List ℕ → List ℕ → ℕ
unfolding sum bit_at is_lost
flips_outside N lost a b = sum N (λ i. cond (is_lost lost i) 0 (bit_xor (bit_at a i) (bit_at b i)))

unfoldable pub filled_below : ℕ → List ℕ → ℕ → List ℕ → List ℕ
unfolding with_bit is_lost
filled_below b lost zero block = block
filled_below b lost (suc i) block = cond (is_lost lost i) (with_bit (filled_below b lost i block) i b) (filled_below b lost i block)

unfoldable pub filled : ℕ → List ℕ → List ℕ → List ℕ
unfolding filled_below
filled b lost block = filled_below b lost (length block * 8) block
