-- `words::left_word` meets its contract: eight bits from the first of a byte on are the byte, and sixteen are two of them.
use Rattle.std.proofs.Common.{ℕ, ◌*◌, ◌/◌, ◌<◌, List, ◌≡◌, sym, ap, ◌∙◌, arith, get_or}
use lib.ListN.{get_or-eq_default}
use Rattle.bits.specs.Bit.{pair_at}
use Rattle.bits.specs.Window.{word_at}
use Rattle.bits.proofs.Windows.{word_at-byte, word_at-pair}
use Rattle.wiring.proofs.Permutation.{edges_le}
use Rattle.words.proofs.words.left_word.Goals as goal

module _ (block : List ℕ) (small : (k : ℕ) → get_or block k 0 < 256) (v d : ℕ) where
  one_byte : d ≡ 8 → word_at block (v * d) d ≡ get_or block v 0
  one_byte e =
      let at : v * 8 / 8 ≡ v = omega arith in
      rw e (word_at-byte block (v * 8) (omega arith) small ∙ ap (λ (k : ℕ). get_or block k 0) at)

  two_bytes : d ≡ 16 → word_at block (v * d) d ≡ pair_at block (2 * v)
  two_bytes e =
      let at : v * 16 / 8 ≡ 2 * v = omega arith in
      rw e (word_at-pair block (v * 16) (omega arith) small ∙ ap (pair_at block) at)

pub returns-then-v-block : goal.returns-then-v-block
returns-then-v-block c =
    let args = c.args in
    sym (one_byte args.block.now (λ k. omega (arith, c.type_inv.block k)) args.v args.d c.if-d-eq8.true)

pub returns-then-d-eq8 : goal.returns-then-d-eq8
returns-then-d-eq8 c =
    let args = c.args in
    sym (one_byte args.block.now (λ k. omega (arith, c.type_inv.block k)) args.v args.d c.if-d-eq8.true
    ∙ get_or-eq_default args.block.now 0 {n = args.v} (omega arith))

pub returns-then-d-eq16 : goal.returns-then-d-eq16
returns-then-d-eq16 c =
    let args = c.args in
    c.pair.ensures
    ∙ sym (two_bytes args.block.now (λ k. omega (arith, c.type_inv.block k)) args.v args.d c.if-d-eq16.true)

pub overflow_mul-v-2 : goal.overflow_mul-v-2
overflow_mul-v-2 c =
    omega (arith, edges_le c.args.v c.args.d (omega arith) (omega arith))

pub returns : goal.returns
returns c = c.word_at.ensures
