-- A bit that is turned: which two vertices read it, and what the code's tests of these tell of the change of the true count.
--   entry_with wiring e      the first entry of a wiring at which edge e stands; their number where it stands at none (specs Answer)
--   place_of N side e        the entry of a side at which bit e stands (wiring Permutation)
--   CheckedBit plan bit block  a bit of a checked block of a plan (specs Answer)
--   CheckedPlan             a plan that has passed its check, with its sides as the code holds them (wiring src/parts.rt)
--   missed_by code side wiring block v  1 where the code's test of vertex v fails, 0 where it passes (specs Answer)
--   turned block e b        the block with its bit e turned where b is 1 (bits specs Window)
--   count_change sides before after  the change of the true count, 65,536 added (specs Count)
-- On the left a bit stands at the entry of its own number, on the right at the entry where the wiring names it, and entry i is read by vertex
-- i / d. Laws are named by their subject, then by the fact: `entry-` is about the entry of an edge, `degree-` about the degree of a side as
-- the code holds it, `side-` about the count of one side, `change-` about the change. At the end of a name, `-readable` leads to what
-- reading a vertex's word asks, `-found` and `-nowhere` are the ends of a search, `-lt` is a bound, `-turned` a bit that is turned.
use Rattle.std.proofs.Common.{ℕ, ◌+◌, ◌-◌, ◌*◌, ◌/◌, ◌≤◌, ◌<◌, not, List, [], ◌≡◌, sym, ap, ◌∙◌, div-lt_iff_lt-mul, arith, eqb, length}
use Rattle.std.proofs.Common.{eq-eqb, ne_eqb}
use Rattle.bits.specs.Search.{first_failing}
use Rattle.bits.specs.Window.{turned}
use Rattle.bits.proofs.Searches.{first-at, first-all}
use Rattle.inner_code.specs.Reply.{done}
use Rattle.wiring.specs.Plan.{Plan, edge_of, edge_count, left, right, side_bit, side_of}
use Rattle.wiring.specs.Wiring.{plan_check}
use Rattle.wiring.specs.Access.{Readable}
use Rattle.wiring.specs.Code.{code_of}
use Rattle.wiring.specs.PlanParts.{plan_in}
use Rattle.wiring.specs.declared.parts.CheckedPlan.{CheckedPlan}
use Rattle.wiring.specs.declared.side.SideCode.{SideCode}
use Rattle.wiring.specs.declared.side.SideName.{SideName}
use Rattle.wiring.proofs.Permutation.{Whole, place_of, place-lt, bit-place}
use Rattle.wiring.proofs.Plans.{plan-joined, plan-entries}
use Rattle.wiring.proofs.VertexAccess.{plan-readable}
use Rattle.wiring.proofs.Blocks.{block_room}
use Rattle.unsatisfied.specs.Count.{unsatisfied_at, unsatisfied_count, count_change}
use Rattle.unsatisfied.specs.Answer.{CheckedBit, entry_with, missed_by}
use Rattle.unsatisfied.proofs.Counting.{missed, at-turned, change-is}
use Rattle.unsatisfied.proofs.VertexTests.{vertex-defined}

-- ---- the entry of an edge

module _ (wiring : List ℕ) (e i : ℕ) (before : (j : ℕ) → j < i → edge_of wiring j ≡ e → ⊥) where
  pub entry_found : i < length wiring / 2 → edge_of wiring i ≡ e → i ≡ entry_with wiring e
  unfolding entry_with
  entry_found l here =
      sym (first-at (length wiring / 2) (λ j. not (eqb (edge_of wiring j) e)) i l (λ j k. ap not (ne_eqb _ e (before j k))) (ap not (eq-eqb _ e here)))

  pub entry-nowhere : i ≡ length wiring / 2 → i ≡ entry_with wiring e
  unfolding entry_with
  entry-nowhere all =
      sym
      (ap (λ (n : ℕ). first_failing n (λ j. not (eqb (edge_of wiring j) e))) (sym all)
      ∙ first-all i (λ j. not (eqb (edge_of wiring j) e)) (λ j k. ap not (ne_eqb _ e (before j k))))

module _ (plan : Plan) (accepted : plan_check plan ≡ done []) (e : ℕ) (below : e < edge_count plan) where
  -- the first entry is the only one
  entry_place : entry_with plan.wiring e ≡ place_of (edge_count plan) (side_of plan right) e
  unfolding entry_with place_of side_bit
  entry_place =
      ap (λ (n : ℕ). first_failing n (λ i. not (eqb (edge_of plan.wiring i) e))) (plan-entries plan accepted)

  entry_lt : entry_with plan.wiring e < edge_count plan
  entry_lt = rw entry_place (place-lt ((plan-joined plan accepted).whole right) e below)

  entry-bit : (side_of plan right).bit (entry_with plan.wiring e) ≡ e
  entry-bit = ap (side_of plan right).bit entry_place ∙ bit-place ((plan-joined plan accepted).whole right) e below

-- ---- the change

module _ (r : CheckedPlan) {e : ℕ} {block : List ℕ} (checked : CheckedBit (plan_in r.parts) e block) where
  abbrev plan : Plan
  plan = plan_in r.parts

  whole : (name : SideName) → Whole (edge_count plan) (side_of plan name)
  whole = (plan-joined plan r.passed).whole

  pub degree-left : 0 < r.left.d
  degree-left = rw r.left_is (whole left).degree-pos

  pub degree-right : 0 < r.right.d
  degree-right = rw r.right_is (whole right).degree-pos

  -- the two vertices that read the bit can be read, in the block and in any of its length
  room : edge_count plan ≤ length block * 8
  room = block_room (edge_count plan) block checked.block-done

  entry-vertex : (name : SideName) (place : ℕ) → place < edge_count plan → place / (side_of plan name).d < (side_of plan name).n
  entry-vertex name place within = (div-lt_iff_lt-mul (whole name).degree-pos).1 (rw (whole name).entries within)

  pub left-readable : (bytes : List ℕ) → length bytes ≡ length block → Readable left plan.wiring r.left.d bytes (e / r.left.d)
  left-readable bytes same =
      rw r.left_is (plan-readable plan r.passed bytes (rw same room) left _ (entry-vertex left e checked.bit-lt))

  pub right-readable : {place : ℕ} → place ≡ entry_with plan.wiring e → (bytes : List ℕ) → length bytes ≡ length block
      → Readable right plan.wiring r.right.d bytes (place / r.right.d)
  right-readable {place} is bytes same =
      let within : place < edge_count plan = rw is (entry_lt plan r.passed e checked.bit-lt) in
      rw r.right_is (plan-readable plan r.passed bytes (rw same room) right _ (entry-vertex right place within))

  -- what the code's test tells of the vertex that reads an entry
  entry-missed : (name : SideName) {code : SideCode} → code ≡ code_of plan name → (bytes : List ℕ) (place x : ℕ) → place < edge_count plan
      → x ≡ missed_by code name plan.wiring bytes (place / code.d) → x ≡ missed (side_of plan name) bytes (place / (side_of plan name).d)
  entry-missed name held bytes place x within told =
      told ∙ ap (λ (code : SideCode). missed_by code name plan.wiring bytes (place / code.d)) held
      ∙ vertex-defined plan r.passed name bytes _
      (entry-vertex name place within)

  module _ {after : List ℕ} (turns : after ≡ turned block e 1) where
    -- on a side where the bit stands at the entry `place`
    side-turned : (name : SideName) {code : SideCode} → code ≡ code_of plan name → (place b a : ℕ) → place < edge_count plan
        → (side_of plan name).bit place ≡ e → b ≡ missed_by code name plan.wiring block (place / code.d)
        → a ≡ missed_by code name plan.wiring after (place / code.d)
        → unsatisfied_at (side_of plan name) after + b ≡ unsatisfied_at (side_of plan name) block + a
    side-turned name held place b a within stands before-told after-told =
        let there : turned block ((side_of plan name).bit place) 1 ≡ after = ap (λ (i : ℕ). turned block i 1) stands ∙ sym turns in
        rw (entry-missed name held block place b within before-told, entry-missed name held after place a within after-told)
        (rw there at (at-turned (side_of plan name) (whole name) block room place within))

    pub change-turned : {place : ℕ} → place ≡ entry_with plan.wiring e → {left-before right-before left-after right-after : ℕ}
        → left-before ≡ missed_by r.left left plan.wiring block (e / r.left.d)
        → right-before ≡ missed_by r.right right plan.wiring block (place / r.right.d)
        → left-after ≡ missed_by r.left left plan.wiring after (e / r.left.d)
        → right-after ≡ missed_by r.right right plan.wiring after (place / r.right.d)
        → left-before ≤ 1 → right-before ≤ 1
        → 65536 + left-after + right-after - left-before - right-before ≡ count_change (side_of plan) block (turned block e 1)
    unfolding unsatisfied_count
    change-turned {place} is lb rb la ra low-left low-right =
        let accepted = r.passed in
        let below = checked.bit-lt in
        rw (← turns)
        (change-is (side_of plan) block after _
        (omega (
          arith,
          side-turned left r.left_is e _ _ below ((plan-joined plan accepted).in_order e) lb la,
          side-turned right r.right_is place _ _ (rw is (entry_lt plan accepted e below)) (rw is (entry-bit plan accepted e below)) rb ra,
        )))
