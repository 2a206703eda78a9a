-- `wiring::gathered` meets its contract: after j turns `scaled` is 128 times the bits of the first j entries, and every bit is in the block.
use Rattle.std.proofs.Common.{◌≡◌, refl, sym, ap, ◌∙◌, ℕ, ◌*◌, ◌/◌, ◌%◌, ◌<◌, arith, get_or}
use Rattle.bits.specs.Bit.{bit_at}
use Rattle.bits.proofs.Windows.{digit-moved}
use Rattle.wiring.specs.Plan.{edge_of}
use Rattle.wiring.specs.Access.{word_from}
use Rattle.wiring.proofs.VertexAccess.{word-from-none, word-from-one-more, word-from-lt}
use Rattle.wiring.proofs.access.gathered.Goals as goal
use Rattle.wiring.proofs.access.gathered.Goals.{At-loop-j}

pub loop-j-init : goal.loop-j-init
loop-j-init c = ap (λ (x : ℕ). x * 128) (sym (word-from-none _ _ _))

-- the bits of the first j entries: a word of at most sixteen digits

word_lt : (c : At-loop-j) → (let args = c.args in word_from (edge_of args.wiring.now) args.block.now args.base c.loop-j.j) < 65536
word_lt c = word-from-lt _ _ _ c.loop-j.j ((let args = c.args in word_from (edge_of args.wiring.now) args.block.now args.base c.loop-j.j)) refl (omega arith)

pub bounds-block-edge : goal.bounds-block-edge
bounds-block-edge c =
    omega (arith, c.edge_at-edge.ensures, c.requires.edges_in_block c.loop-j.j (omega arith))

pub overflow_cast-moved : goal.overflow_cast-moved
overflow_cast-moved c = omega (arith, c.type_inv.block (c.edge_at-edge.result / 8))

pub overflow_mul-scaled : goal.overflow_mul-scaled
overflow_mul-scaled c = omega (arith, c.loop-j.invariant, word_lt (goal.at.overflow_mul-scaled c).At-loop-j)

pub overflow_add-scaled : goal.overflow_add-scaled
overflow_add-scaled c = omega (arith, c.loop-j.invariant, word_lt (goal.at.overflow_add-scaled c).At-loop-j)

pub loop-j-preserved : goal.loop-j-preserved
unfolding bit_at
loop-j-preserved c =
    let edge = c.edge_at-edge in
    let args = c.args in
    let block = args.block.now in
    let byte = edge.result / 8 in
    let small : get_or block byte 0 < 256 = omega (arith, c.type_inv.block byte) in
    let before = word_from (edge_of args.wiring.now) block args.base c.loop-j.j in
    omega (
      arith,
      c.loop-j.invariant,
      digit-moved 32 (get_or block byte 0) (edge.result % 8) (omega arith) small (omega arith),
      word-from-one-more (edge_of args.wiring.now) block args.base c.loop-j.j before _ _ refl refl edge.ensures,
    )

pub overflow_cast-result : goal.overflow_cast-result
overflow_cast-result c = omega (arith, c.loop-j.invariant, word_lt (goal.at.overflow_cast-result c).At-loop-j)

pub returns : goal.returns
returns c =
    let all : c.loop-j.j ≡ c.args.d = omega arith in
    omega (arith, c.loop-j.invariant) ∙ ap (word_from _ _ _) all
