-- What one sweep answers and leaves.
--   once_check plan block           what stops it (specs Answer)
--   once_answer, once_block          the answer, and the block at exit (specs Answer)
-- Laws are named `once-`: a plan or a block that is refused (-plan, -block), and a sweep that is made (-swept). `check-` leads to the check.
use Rattle.std.proofs.Common.{ℕ, List, [], ◌∷◌, ◌≡◌, sym, ap, ◌∙◌}
use Rattle.inner_code.specs.Reply.{Reply, done, refused}
use Rattle.inner_code.proofs.Replies.{and_then-passed, and_then-refused, if_done-done, if_done-refused}
use Rattle.wiring.specs.Plan.{Plan, edge_count, side_of}
use Rattle.wiring.specs.Wiring.{plan_check}
use Rattle.wiring.specs.Block.{block_check}
use Rattle.wiring.specs.declared.side.SideName.{SideName}
use Rattle.unsatisfied.specs.Count.{count_change}
use Rattle.sweeps.specs.Sweep.{sweep}
use Rattle.single_sweep.specs.Answer.{once_check, once_answer, once_block}

module _ (plan : Plan) (block : List ℕ) where
  pub check-plan : {number place : ℕ} → plan_check plan ≡ refused number place → once_check plan block ≡ refused number place
  unfolding once_check
  check-plan {number} {place} e = and_then-refused _ _ number place e

  pub check-block : {values : List ℕ} {reply : Reply} → plan_check plan ≡ done values → block_check (edge_count plan) block ≡ reply
      → once_check plan block ≡ reply
  unfolding once_check
  check-block {values} accepted e = and_then-passed _ _ values accepted ∙ e

  -- what a call answers and leaves
  abbrev pub Once : SideName → Reply → List ℕ → Type 0
  Once name reply after = record { result_value : reply ≡ once_answer plan name block; block_after : after ≡ once_block plan name block }

  pub once-refused : (name : SideName) {number place : ℕ} → once_check plan block ≡ refused number place → Once name (refused number place) block
  unfolding once_answer once_block
  once-refused name {number} {place} e =
      record { result_value = sym (and_then-refused _ _ number place e); block_after = sym (if_done-refused _ _ block number place e) }

  pub once-swept : (name : SideName) {change : ℕ} {after : List ℕ} → once_check plan block ≡ done []
      → change ≡ count_change (side_of plan) block after → after ≡ sweep (side_of plan name) block → Once name (done (change ∷ [])) after
  unfolding once_answer once_block
  once-swept name {change} {after} pass counted swept =
      record {
        result_value = ap (λ (x : ℕ). done (x ∷ [])) (counted ∙ ap (count_change (side_of plan) block) swept) ∙ sym (and_then-passed _ _ [] pass);
        block_after = swept ∙ sym (if_done-done _ _ block [] pass);
      }
