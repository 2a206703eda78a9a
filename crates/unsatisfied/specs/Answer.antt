-- What the functions of this crate answer and leave, on a block without a state: none of this is needed to believe a contract of a service.
--   missed_of code w               1 where the first k rows of the basis leave something of the word w, 0 where they do not
--   missed_by code side wiring block v  the same of the word that vertex v reads: the code's test of a vertex
--   missed_up_to code side wiring m block  how many of the vertices 0 .. m - 1 of a side fail it
--   CheckedBit plan bit block      a bit of a checked block of a plan
--   entry_with wiring e            the first entry of a wiring at which edge e stands; their number where it stands at none
--   count_answer plan block        1 to 10, 23, 11, 12, or the true count
--   bit_check plan bit block       what stops the setting of a bit: 1 to 10, 23, 11, 12, 27
--   bit_answer plan bit value block  these, or the change of the true count where the bit is made the last binary digit of the value
--   bit_block plan bit value block  the block at exit
--   counted_reply r                the number, place and value for each case of an answer in the code
use Rattle.std.specs.Prelude.{ℕ, ◌/◌, ◌%◌, ◌<◌, min, List, [], ◌∷◌, not, ◌≡◌, leb, eqb, length, Result, Ok, Err}
use Rattle.bits.specs.Bit.{with_bit}
use Rattle.bits.specs.Sum.{sum, flag}
use Rattle.bits.specs.Search.{first_failing}
use Rattle.bits.specs.Window.{at}
use Rattle.inner_code.specs.Reduction.{reduced_by}
use Rattle.inner_code.specs.Refusal.{number_of, place_of}
use Rattle.inner_code.specs.Reply.{Reply, done, refused, refuse_if, and_then, if_done}
use Rattle.inner_code.specs.declared.refusal.Refusal.{Refusal}
use Rattle.wiring.specs.Plan.{Plan, edge_of, edge_count, side_of}
use Rattle.wiring.specs.Wiring.{plan_check}
use Rattle.wiring.specs.Block.{block_check}
use Rattle.wiring.specs.Access.{read_word}
use Rattle.wiring.specs.declared.side.SideCode.{SideCode}
use Rattle.wiring.specs.declared.side.SideName.{SideName}
use Rattle.unsatisfied.specs.Count.{unsatisfied_count, count_change}

unfoldable pub missed_of : SideCode → ℕ → ℕ
unfolding flag at reduced_by
missed_of code w = flag (not (eqb (reduced_by (at code.basis) (min code.k 11) w) 0))

unfoldable pub missed_by : SideCode → SideName → List ℕ → List ℕ → ℕ → ℕ
unfolding missed_of read_word
missed_by code side wiring block v = missed_of code (read_word side wiring code.d block v)

unfoldable pub missed_up_to : SideCode → SideName → List ℕ → ℕ → List ℕ → ℕ
unfolding sum missed_by
missed_up_to code side wiring m block = sum m (λ v. missed_by code side wiring block v)

pub record CheckedBit (plan : Plan) (bit : ℕ) (block : List ℕ) : Type 0 where
  pub block-done : block_check (edge_count plan) block ≡ done []
  pub bit-lt : bit < edge_count plan

unfoldable pub entry_with : List ℕ → ℕ → ℕ
unfolding first_failing edge_of
entry_with wiring e = first_failing (length wiring / 2) (λ i. not (eqb (edge_of wiring i) e))

unfoldable pub count_answer : Plan → List ℕ → Reply
unfolding and_then plan_check unsatisfied_count
count_answer plan block =
    and_then (plan_check plan) (and_then (block_check (edge_count plan) block) (done (unsatisfied_count (side_of plan) block ∷ [])))

unfoldable pub bit_check : Plan → ℕ → List ℕ → Reply
unfolding and_then refuse_if plan_check
bit_check plan bit block =
    and_then (plan_check plan) (and_then (block_check (edge_count plan) block) (refuse_if (leb (edge_count plan) bit) 27 0 (done [])))

unfoldable pub bit_answer : Plan → ℕ → ℕ → List ℕ → Reply
unfolding and_then bit_check count_change with_bit
bit_answer plan bit value block =
    and_then (bit_check plan bit block) (done (count_change (side_of plan) block (with_bit block bit (value % 2)) ∷ []))

unfoldable pub bit_block : Plan → ℕ → ℕ → List ℕ → List ℕ
unfolding if_done bit_check with_bit
bit_block plan bit value block = if_done (bit_check plan bit block) (with_bit block bit (value % 2)) block

abbrev pub counted_reply : Result ℕ Refusal → Reply
counted_reply (Ok value) = done (value ∷ [])
counted_reply (Err r) = refused (number_of r) (place_of r)
