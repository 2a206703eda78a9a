-- Blocks: their refusals 11 and 12, the word that a vertex reads, and codeword blocks.
--   block_bytes N                 the length of a block of N bits
--   bits_check unsized stray N bytes  the two refusals of a string of N bits: another length than it takes, and a bit after N - 1 that is set
--   block_check N block           11 and 12, or done with no value
--   vertex_word side block v      the word that vertex v reads, its first edge of the highest weight
--   heard side before after v    vertex v of a side has a bit in which two blocks differ: it reads another word
--   scattered bit d at w m block the block with the first m of the d digits of w put at the entries from `at` on
--   with_word side v w block      the block with the word w put at vertex v
--   satisfied side block v       vertex v reads an inner codeword
--   first_unsatisfied side block  the first vertex of a side that does not, n where all do
--   is_codeword_block sides block  every vertex, left and right, reads an inner codeword
--   located sides block          the paper's locator: no value, or the side (0 left, 1 right) and the vertex
--   Block N block                a block of N bits: bytes, of the right length, with no bit after N - 1 set
--   Codeword plan block          a block of this plan that is a codeword
use Rattle.std.specs.Prelude.{ℕ, zero, suc, ◌+◌, ◌-◌, ◌*◌, ◌/◌, ◌<◌, List, [], ◌∷◌, Bool, true, cond, not, ◌&&◌, ◌≡◌, length, get_or, ltb, leb, eqb}
use Rattle.bits.specs.Bit.{digit, word, bit_at, with_bit}
use Rattle.bits.specs.Search.{some_below, first_failing}
use Rattle.inner_code.specs.Reply.{Reply, done, refuse_if}
use Rattle.inner_code.specs.Code.{is_codeword}
use Rattle.wiring.specs.Plan.{Plan, Side, edge_count, left, right, side_of}
use Rattle.wiring.specs.declared.side.SideName.{SideName}

unfoldable pub block_bytes : ℕ → ℕ
block_bytes N = (N + 7) / 8

unfoldable pub bits_check : ℕ → ℕ → ℕ → List ℕ → Reply
unfolding refuse_if some_below bit_at block_bytes
bits_check unsized stray N bytes =
    refuse_if (not (eqb (length bytes) (block_bytes N))) unsized 0
    (refuse_if (some_below (length bytes * 8) (λ i. leb N i && eqb (bit_at bytes i) 1)) stray 0 (done []))

abbrev pub block_check : ℕ → List ℕ → Reply
block_check N block = bits_check 11 12 N block

unfoldable pub vertex_word : Side → List ℕ → ℕ → ℕ
unfolding word bit_at
vertex_word side block v = word side.d (λ j. bit_at block (side.bit (v * side.d + j)))

unfoldable pub heard : Side → List ℕ → List ℕ → ℕ → Bool
unfolding vertex_word
heard side before after v = not (eqb (vertex_word side before v) (vertex_word side after v))

unfoldable pub scattered : (ℕ → ℕ) → ℕ → ℕ → ℕ → ℕ → List ℕ → List ℕ
unfolding with_bit digit
scattered bit d at w zero block = block
scattered bit d at w (suc m) block = with_bit (scattered bit d at w m block) (bit (at + m)) (digit w (d - 1 - m))

abbrev pub with_word : Side → ℕ → ℕ → List ℕ → List ℕ
with_word side v w block = scattered side.bit side.d (v * side.d) w side.d block

unfoldable pub satisfied : Side → List ℕ → ℕ → Bool
unfolding is_codeword vertex_word
satisfied side block v = is_codeword side.row side.k (vertex_word side block v)

unfoldable pub first_unsatisfied : Side → List ℕ → ℕ
unfolding first_failing satisfied
first_unsatisfied side block = first_failing side.n (λ v. satisfied side block v)

unfoldable pub is_codeword_block : (SideName → Side) → List ℕ → Bool
unfolding first_unsatisfied
is_codeword_block sides block =
    eqb (first_unsatisfied (sides left) block) (sides left).n && eqb (first_unsatisfied (sides right) block) (sides right).n

unfoldable pub located : (SideName → Side) → List ℕ → List ℕ
unfolding first_unsatisfied
located sides block =
    cond (ltb (first_unsatisfied (sides left) block) (sides left).n) (0 ∷ first_unsatisfied (sides left) block ∷ [])
    (cond (ltb (first_unsatisfied (sides right) block) (sides right).n) (1 ∷ first_unsatisfied (sides right) block ∷ []) [])

pub record Block (N : ℕ) (block : List ℕ) : Type 0 where
  pub bytes : (k : ℕ) → get_or block k 0 < 256
  pub checked : block_check N block ≡ done []

pub record Codeword (plan : Plan) (block : List ℕ) : Type 0 where
  pub block-of : Block (edge_count plan) block
  pub satisfied-all : is_codeword_block (side_of plan) block ≡ true
