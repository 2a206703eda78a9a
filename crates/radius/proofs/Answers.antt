-- The margin's answers, outcome by outcome, and what they say.
-- The notions, of specs/Answer.antt:
--   margin_answer plan F            1 to 10, 23, 17, 18, or the sweeps named for F flips
--   margin_of plan F                the sweeps named, 0 where F is not covered
-- and here
--   Covered plan F q               the plan is accepted, F flips are covered, and q sweeps are named for them
-- Laws are named `margin-`, then by the outcome. margin-means leads from the answer back to what it says.
use Rattle.std.proofs.Common.{ℕ, ◌≤◌, ◌<◌, List, [], ◌∷◌, ◌≡◌, refl, sym, ◌∙◌, ltb, eqb, lt-ltb, le-ltb, ltb-false, eq-eqb, ne_eqb}
use mathlib.Core.Logic.{◌≢◌}
use borrow.Author.Tests.{eqb-false}
use Rattle.inner_code.specs.Reply.{done, refused, refuse_if, and_then}
use Rattle.inner_code.proofs.Replies.{refuse-taken, refuse-passed, refuse-done, and_then-passed, and_then-refused, and_then-done}
use Rattle.wiring.specs.Plan.{Plan, edge_count}
use Rattle.wiring.specs.Wiring.{plan_check}
use Rattle.wiring.proofs.Plans.{plan-done}
use Rattle.radius.specs.Answer.{margin_of, margin_answer}

pub record Covered (plan : Plan) (F q : ℕ) : Type 0 where
  pub accepted : plan_check plan ≡ done []
  pub within : F ≤ edge_count plan
  pub named : q ≡ margin_of plan F
  pub some : q ≢ 0

module _ (plan : Plan) where
  module _ (F : ℕ) where
    margin-tests : margin_answer plan F
        ≡ and_then (plan_check plan)
        (refuse_if (ltb (edge_count plan) F) 17 0 (refuse_if (eqb (margin_of plan F) 0) 18 0 (done (margin_of plan F ∷ []))))
    unfolding margin_answer
    margin-tests = refl

    pub margin-plan : (number place : ℕ) → plan_check plan ≡ refused number place → margin_answer plan F ≡ refused number place
    margin-plan number place e = margin-tests ∙ and_then-refused _ _ number place e

    module _ {values : List ℕ} (accepted : plan_check plan ≡ done values) where
      pub margin-over : edge_count plan < F → margin_answer plan F ≡ refused 17 0
      margin-over over = margin-tests ∙ and_then-passed _ _ values accepted ∙ refuse-taken _ 17 0 _ (lt-ltb _ F over)

      module _ (within : F ≤ edge_count plan) where
        -- all tests before that for 18 have passed
        margin-named : margin_answer plan F ≡ refuse_if (eqb (margin_of plan F) 0) 18 0 (done (margin_of plan F ∷ []))
        margin-named = margin-tests ∙ and_then-passed _ _ values accepted ∙ refuse-passed _ 17 0 _ (le-ltb _ F within)

        pub margin-uncovered : margin_of plan F ≡ 0 → margin_answer plan F ≡ refused 18 0
        margin-uncovered none = margin-named ∙ refuse-taken _ 18 0 _ (eq-eqb _ 0 none)

        pub margin-covered : margin_of plan F ≢ 0 → margin_answer plan F ≡ done (margin_of plan F ∷ [])
        margin-covered some = margin-named ∙ refuse-passed _ 18 0 _ (ne_eqb _ 0 some)

    pub margin-means : (q : ℕ) → margin_answer plan F ≡ done (q ∷ []) → Covered plan F q
    margin-means q e =
        let ((values, accepted), rest) = and_then-done _ _ (q ∷ []) (sym margin-tests ∙ e) in
        let (inside, end) = refuse-done _ 17 0 _ (q ∷ []) rest in
        let (covered, answer) = refuse-done _ 18 0 _ (q ∷ []) end in
        let named : q ≡ margin_of plan F = cc answer in
        record { accepted = plan-done plan accepted; within = ltb-false _ F inside; named = named; some = rw named (eqb-false _ 0 covered) }
