-- What the functions of this crate answer, one law for each outcome.
--   count_answer plan block          the refusal of the plan, then of the block, or the true count (specs Answer)
--   bit_check plan bit block         the refusal of the plan, then of the block, then 27, or done with no value (specs Answer)
--   bit_answer plan bit value block  these, or the change of the true count (specs Answer)
--   bit_block plan bit value block   the block at exit (specs Answer)
--   after_checks plan block next     the refusal of the plan, then of the block, or what comes next
--   BitTold plan bit value block reply after  the reply and the block at exit are what the setting of the bit answers and leaves
-- Laws are named by the service, `count-` or `bit-`, then by the outcome: `-plan-refused` and `-block-refused` are checks that turn back,
-- `-told` is the count, `-past` a bit that the plan does not have, `-kept` one that has its value already, `-turned` one that has the other.
-- `checks-` laws are about what both services begin with.
use Rattle.std.proofs.Common.{ℕ, ◌+◌, ◌%◌, ◌≤◌, ◌<◌, List, [], ◌∷◌, ◌≡◌, sym, ap, ap₂, ◌∙◌, mod-lt, arith, le-leb}
use borrow.Author.Tests.{lt-leb}
use Rattle.bits.specs.Bit.{bit_at, with_bit}
use Rattle.bits.specs.Window.{turned}
use Rattle.bits.proofs.Bytes.{bit_at_lt, with_bit-keeps}
use Rattle.bits.proofs.Xor.{xor-bits-parity}
use Rattle.inner_code.specs.Reply.{Reply, done, refused, and_then}
use Rattle.inner_code.proofs.Replies.{refuse-taken, refuse-passed, and_then-passed, and_then-refused, if_done-done, if_done-refused}
use Rattle.wiring.specs.Plan.{Plan, edge_count, side_of, left, right}
use Rattle.wiring.specs.Wiring.{plan_check}
use Rattle.wiring.specs.Block.{block_check}
use Rattle.unsatisfied.specs.Count.{unsatisfied_at, unsatisfied_count, count_change}
use Rattle.unsatisfied.specs.Answer.{count_answer, bit_check, bit_answer, bit_block}
use Rattle.unsatisfied.proofs.Counting.{change-none}

-- ---- the checks that both begin with

module _ (plan : Plan) (block : List ℕ) (next : Reply) where
  abbrev after_checks : Reply
  after_checks = and_then (plan_check plan) (and_then (block_check (edge_count plan) block) next)

  module _ (accepted : plan_check plan ≡ done []) where
    checks-block-refused : (a b : ℕ) → block_check (edge_count plan) block ≡ refused a b → after_checks ≡ refused a b
    checks-block-refused a b e = and_then-passed _ _ [] accepted ∙ and_then-refused _ _ a b e

    checks-passed : block_check (edge_count plan) block ≡ done [] → after_checks ≡ next
    checks-passed e = and_then-passed _ _ [] accepted ∙ and_then-passed _ _ [] e

-- ---- the true count

module _ (plan : Plan) (block : List ℕ) where
  pub count-plan-refused : (a b : ℕ) → plan_check plan ≡ refused a b → refused a b ≡ count_answer plan block
  unfolding count_answer
  count-plan-refused a b e = sym (and_then-refused _ _ a b e)

  module _ (accepted : plan_check plan ≡ done []) where
    pub count-block-refused : (a b : ℕ) → block_check (edge_count plan) block ≡ refused a b → refused a b ≡ count_answer plan block
    unfolding count_answer
    count-block-refused a b e = sym (checks-block-refused plan block _ accepted a b e)

    pub count-told : block_check (edge_count plan) block ≡ done [] → (here there : ℕ)
        → here ≡ unsatisfied_at (side_of plan left) block → there ≡ unsatisfied_at (side_of plan right) block
        → done ((here + there) ∷ []) ≡ count_answer plan block
    unfolding count_answer unsatisfied_count
    count-told e here there counted-left counted-right =
        ap₂ (λ (x y : ℕ). done ((x + y) ∷ [])) counted-left counted-right ∙ sym (checks-passed plan block _ accepted e)

-- ---- a bit that is set

-- made another than it is, a bit is turned
with_bit-turned : (bytes : List ℕ) (i b : ℕ) → b < 2 → (bit_at bytes i ≡ b → ⊥) → with_bit bytes i b ≡ turned bytes i 1
unfolding turned
with_bit-turned bytes i b small other =
    let low = bit_at_lt bytes i in
    ap (with_bit bytes i) (omega (arith, xor-bits-parity (bit_at bytes i) 1 low (omega arith)))

module _ (plan : Plan) (bit value : ℕ) (block : List ℕ) where
  abbrev BitTold : Reply → List ℕ → Type 0
  BitTold reply after =
      record { result_value : reply ≡ bit_answer plan bit value block; block_after : after ≡ bit_block plan bit value block }

  turned-back : (a b : ℕ) → bit_check plan bit block ≡ refused a b → BitTold (refused a b) block
  unfolding bit_answer bit_block
  turned-back a b e =
      record { result_value = sym (and_then-refused _ _ a b e); block_after = sym (if_done-refused _ _ block a b e) }

  pub bit-plan-refused : (a b : ℕ) → plan_check plan ≡ refused a b → BitTold (refused a b) block
  unfolding bit_check
  bit-plan-refused a b e = turned-back a b (and_then-refused _ _ a b e)

  module _ (accepted : plan_check plan ≡ done []) where
    pub bit-block-refused : (a b : ℕ) → block_check (edge_count plan) block ≡ refused a b → BitTold (refused a b) block
    unfolding bit_check
    bit-block-refused a b e = turned-back a b (checks-block-refused plan block _ accepted a b e)

    module _ (pass : block_check (edge_count plan) block ≡ done []) where
      pub bit_past : edge_count plan ≤ bit → BitTold (refused 27 0) block
      unfolding bit_check
      bit_past past =
          turned-back 27 0 (checks-passed plan block _ accepted pass ∙ refuse-taken _ 27 0 _ (le-leb _ bit past))

      module _ (within : bit < edge_count plan) where
        carried-out : {change : ℕ} {after : List ℕ} → with_bit block bit (value % 2) ≡ after → change ≡ count_change (side_of plan) block after
            → BitTold (done (change ∷ [])) after
        unfolding bit_check bit_answer bit_block
        carried-out leaves changes =
            let passed = checks-passed plan block _ accepted pass ∙ refuse-passed _ 27 0 _ (lt-leb _ bit within) in
            record {
              result_value = sym (and_then-passed _ _ [] passed ∙ rw (leaves, changes));
              block_after = sym (if_done-done _ _ block [] passed ∙ leaves);
            }

        pub bit_kept : bit_at block bit ≡ value % 2 → BitTold (done (65536 ∷ [])) block
        bit_kept e = carried-out (with_bit-keeps block bit _ (sym e)) (sym (change-none (side_of plan) block))

        pub bit-turned : (bit_at block bit ≡ value % 2 → ⊥) → {change : ℕ} {after : List ℕ}
            → change ≡ count_change (side_of plan) block (turned block bit 1) → after ≡ turned block bit 1 → BitTold (done (change ∷ [])) after
        bit-turned other changes turns =
            carried-out (with_bit-turned block bit _ (mod-lt value (omega arith)) other ∙ sym turns)
            (changes ∙ ap (count_change (side_of plan) block) (sym turns))
