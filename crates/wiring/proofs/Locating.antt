-- The locator as the code runs it: a vertex is tested by what a stored basis leaves of its word.
--   satisfied_by code side wiring block v    the code's test of vertex v (specs Access)
--   unsatisfied_by code side wiring m block  the first of m vertices of a side that fails it, m where all pass (specs Access)
--   located_by codes wiring block            no value, or the side and the first vertex that fails it (specs Access)
--   code_of, both_codes                        a side as the code holds it (specs Code, Access)
--   satisfied, located                      the same by the definition of a codeword (specs Block)
--   locate_answer plan block                 what the service answers (specs Answer)
--   with_echelon row k l                     the list l with the echelon form of k rows at its front (inner_code specs Reduction)
-- Laws are named by their subject, then by the fact: `codeword-` is about one word, `satisfied-` about one vertex, `by-` about the first
-- vertex of a side as a loop finds it, `located-` about both sides, `answer-` about the service. At the end of a name, `-residue` and `-by`
-- say that the code's test is the definition's.
use Rattle.std.proofs.Common.{ℕ, ◌+◌, ◌≤◌, ◌<◌, min, Bool, true, List, [], ◌∷◌, ◌≡◌, refl, sym, ap, ap₂, ◌∙◌, arith, eqb, replicate, lt-ltb}
use Rattle.std.proofs.Common.{le-ltb, eq-eqb, ne_eqb}
use native.Mathlib.Nat.{min-eq_left}
use Rattle.bits.specs.Window.{at}
use Rattle.bits.proofs.Searches.{first-zero, first-one-more, first-at, first-all, first-all-each, first-ext}
use Rattle.inner_code.specs.Reply.{Reply, done, refused, and_then}
use Rattle.inner_code.specs.Code.{is_codeword}
use Rattle.inner_code.specs.Reduction.{reduced_by, with_echelon}
use Rattle.inner_code.specs.Sheet.{row_count, row_of}
use Rattle.inner_code.proofs.Replies.{and_then-passed, and_then-refused}
use Rattle.inner_code.proofs.EchelonForm.{codeword-test, reduced_by-zero, reduced_by-stored}
use Rattle.wiring.specs.Plan.{Plan, edge_count, left, right, sheet_of, count_of, side_of}
use Rattle.wiring.specs.Wiring.{plan_check}
use Rattle.wiring.specs.Block.{block_check, satisfied, first_unsatisfied, located}
use Rattle.wiring.specs.Access.{read_word, both_codes, satisfied_by, unsatisfied_by, located_by}
use Rattle.wiring.specs.Answer.{locate_answer, side_number}
use Rattle.wiring.specs.Checking.{WiredPlan}
use Rattle.wiring.specs.Code.{code_of}
use Rattle.wiring.specs.declared.parts.CheckedPlan.{CheckedPlan}
use Rattle.wiring.specs.declared.side.SideCode.{SideCode}
use Rattle.wiring.specs.declared.side.SideName.{SideName}
use Rattle.wiring.proofs.VertexAccess.{read-zero, read-vertex}
use Rattle.wiring.proofs.Plans.{PlanAccepted}

-- ---- one side, vertex by vertex: `word` is what the code reads, `left` what the basis leaves of it

module _ (code : SideCode) (side : SideName) (wiring block : List ℕ) where
  abbrev rest : ℕ → ℕ
  rest word = reduced_by (at code.basis) (min code.k 11) word

  tested : (v word left : ℕ) → word ≡ read_word side wiring code.d block v → left ≡ rest word
      → satisfied_by code side wiring block v ≡ eqb left 0
  unfolding satisfied_by
  tested v word left w l = ap (λ (x : ℕ). eqb x 0) (sym (l ∙ ap rest w))

  pub by-none : unsatisfied_by code side wiring 0 block ≡ 0
  unfolding unsatisfied_by
  by-none = first-zero (λ v. satisfied_by code side wiring block v)

  pub by-one-more : (v word left : ℕ) → unsatisfied_by code side wiring v block ≡ v → word ≡ read_word side wiring code.d block v
      → left ≡ rest word → left ≡ 0 → unsatisfied_by code side wiring (v + 1) block ≡ v + 1
  unfolding unsatisfied_by
  by-one-more v word left e w l none =
      first-one-more v (λ u. satisfied_by code side wiring block u) e (tested v word left w l ∙ eq-eqb left 0 none)

  pub by-found : (n v word left : ℕ) → v < n → unsatisfied_by code side wiring v block ≡ v → word ≡ read_word side wiring code.d block v
      → left ≡ rest word → (left ≡ 0 → ⊥) → unsatisfied_by code side wiring n block ≡ v
  unfolding unsatisfied_by
  by-found n v word left h e w l some =
      let test : ℕ → Bool = λ u. satisfied_by code side wiring block u in
      first-at n test v h (first-all-each v test e) (tested v word left w l ∙ ne_eqb left 0 some)

-- ---- both sides

module _ (codes : SideName → SideCode) (wiring block : List ℕ) where
  abbrev pub found_by : SideName → ℕ
  found_by side = unsatisfied_by (codes side) side wiring (codes side).n block

  pub located-found : (side : SideName) (v : ℕ) → (side ≡ right → found_by left ≡ (codes left).n) → found_by side ≡ v → v < (codes side).n
      → located_by codes wiring block ≡ side_number side ∷ v ∷ []
  unfolding located_by
  located-found SideName.Left v before e l = rw (e, lt-ltb v _ l)
  located-found SideName.Right v before e l = rw (before refl, le-ltb (codes left).n (codes left).n (omega arith), e, lt-ltb v _ l)

  pub located-nowhere : found_by left ≡ (codes left).n → found_by right ≡ (codes right).n → located_by codes wiring block ≡ []
  unfolding located_by
  located-nowhere l r =
      rw (l, r, le-ltb (codes left).n (codes left).n (omega arith), le-ltb (codes right).n (codes right).n (omega arith))

-- ---- the zero block, of which nothing is left at any vertex

module _ (code : SideCode) (side : SideName) (wiring block : List ℕ) (zero-block : (i : ℕ) → at block i ≡ 0) where
  satisfied-zero : (v : ℕ) → satisfied_by code side wiring block v ≡ true
  unfolding satisfied_by
  satisfied-zero v =
      let rows = at code.basis in
      let k = min code.k 11 in
      eq-eqb _ 0 (ap (reduced_by rows k) (read-zero side wiring code.d block v zero-block) ∙ reduced_by-zero rows k)

  unsatisfied-zero : (n : ℕ) → unsatisfied_by code side wiring n block ≡ n
  unfolding unsatisfied_by
  unsatisfied-zero n = first-all n _ (λ v _. satisfied-zero v)

pub located-zero : (codes : SideName → SideCode) (wiring block : List ℕ) → ((i : ℕ) → at block i ≡ 0) → located_by codes wiring block ≡ []
located-zero codes wiring block zero-block =
    located-nowhere codes wiring block (unsatisfied-zero (codes left) left wiring block zero-block (codes left).n)
    (unsatisfied-zero (codes right) right wiring block zero-block (codes right).n)

-- ---- the code's test is the definition's

pub codeword-residue : (row : ℕ → ℕ) (k : ℕ) (basis : List ℕ) → basis ≡ with_echelon row k (replicate 11 0) → k ≤ 11 → (w : ℕ)
    → is_codeword row k w ≡ eqb (reduced_by (at basis) (min k 11) w) 0
codeword-residue row k basis stored few w =
    codeword-test row k w
    ∙ ap (λ (x : ℕ). eqb x 0)
    (sym (ap₂ (λ (l : List ℕ) (m : ℕ). reduced_by (at l) m w) stored (min-eq_left few) ∙ reduced_by-stored row k (replicate 11 0) w few))

module _ (plan : Plan) (block : List ℕ) (few : (name : SideName) → row_count (sheet_of plan name) ≤ 11) (w : WiredPlan plan) where
  satisfied-by : (name : SideName) (v : ℕ) → v < count_of plan name
      → satisfied_by (code_of plan name) name plan.wiring block v ≡ satisfied (side_of plan name) block v
  unfolding satisfied_by satisfied
  satisfied-by name v l =
      let code = code_of plan name in
      ap (λ (x : ℕ). eqb (reduced_by (at code.basis) (min code.k 11) x) 0) (read-vertex (sheet_of plan name) (count_of plan name) plan.wiring name block v)
      ∙ sym (codeword-residue (row_of (sheet_of plan name)) code.k code.basis refl (few name) _)

  unsatisfied-by : (name : SideName)
      → unsatisfied_by (code_of plan name) name plan.wiring (count_of plan name) block ≡ first_unsatisfied (side_of plan name) block
  unfolding unsatisfied_by first_unsatisfied
  unsatisfied-by name = first-ext (count_of plan name) _ _ (satisfied-by name)

  pub located-by : located_by (code_of plan) plan.wiring block ≡ located (side_of plan) block
  unfolding located_by located
  located-by = rw (unsatisfied-by left, unsatisfied-by right)

-- the search by the sides that a check has told is the definition's
pub located-told : (plan : Plan) (r : CheckedPlan) (block : List ℕ) → PlanAccepted plan r
    → located_by (both_codes r.left r.right) plan.wiring block ≡ located (side_of plan) block
unfolding located_by
located-told plan r block p =
    ap₂ (λ (l r : SideCode). located_by (both_codes l r) plan.wiring block) (p.code_is left) (p.code_is right)
    ∙ by_name ∙ located-by plan block (λ name. (p.sheet-sound name).count-high) p.plan-wired
  where
    by_name : located_by (both_codes (code_of plan left) (code_of plan right)) plan.wiring block ≡ located_by (code_of plan) plan.wiring block
    by_name = refl

-- ---- the service's answer

module _ (plan : Plan) (block : List ℕ) where
  pub answer-plan-refused : (a b : ℕ) → plan_check plan ≡ refused a b → locate_answer plan block ≡ refused a b
  unfolding locate_answer
  answer-plan-refused a b e = and_then-refused _ _ a b e

  module _ (r : CheckedPlan) (p : PlanAccepted plan r) (N : ℕ) (sized : N ≡ edge_count plan) where
    past-plan : locate_answer plan block ≡ and_then (block_check N block) (done (located (side_of plan) block))
    unfolding locate_answer
    past-plan =
        and_then-passed _ _ [] p.plan-done
        ∙ ap (λ (bits : ℕ). and_then (block_check bits block) (done (located (side_of plan) block))) (sym sized)

    pub answer-block-refused : (a b : ℕ) → block_check N block ≡ refused a b → locate_answer plan block ≡ refused a b
    answer-block-refused a b e = past-plan ∙ and_then-refused _ _ a b e

    pub answer-located : block_check N block ≡ done [] → (reply : Reply)
        → reply ≡ done (located_by (both_codes r.left r.right) plan.wiring block) → reply ≡ locate_answer plan block
    answer-located e reply found = found ∙ ap done (located-told plan r block p) ∙ sym (past-plan ∙ and_then-passed _ _ [] e)
