-- Plans: two sheets and a wiring that are checked together, by refusals 1 to 10 and 23.
--   plan_check plan            the first refusal of the left sheet, the right sheet and then the wiring, or done with no value (specs Wiring)
--   PlanChecked plan r        r is what the check of a plan gives (specs Checking)
--   Sound sheet               what an accepted sheet is (inner_code SheetChecks)
--   WiredPlan plan            what an accepted wiring is (specs Checking)
--   Fitted d n wiring         what a side of it is (specs Checking)
--   code_of                   a side as the code holds it (specs Code)
--   Joined N sides            both sides have all N bits (Permutation)
--   PlanAccepted ..           what a caller learns from a check that accepts
--   piece_of plan v            the piece of right vertex v, empty for a faulty plan or a v of nr or more (specs Answer)
-- Laws are named by their subject, then by the fact: `plan-` is about the check and what it leads to, `checked-` leads to what the code's check gives,
-- `piece-` is about the piece. At the end of a name, `-accepted` and `-refused` are the outcomes of the check, `-sound` and `-joined` lead
-- from the check to the facts and `-back` from the facts to the check.
use Rattle.std.proofs.Common.{Result, Ok, Err, ℕ, ◌+◌, ◌-◌, ◌*◌, ◌/◌, ◌≤◌, ◌<◌, List, [], ◌∷◌, ◌≡◌, sym, ap, ap₂, ◌∙◌, subst, arith, length}
use Rattle.std.proofs.Common.{take, drop, lt-ltb, le-ltb}
use Rattle.inner_code.specs.Reply.{done, refused}
use Rattle.inner_code.specs.Refusal.{number_of, place_of}
use Rattle.inner_code.specs.Checking.{SheetChecked}
use Rattle.inner_code.specs.Sheet.{degree}
use Rattle.inner_code.specs.declared.refusal.Refusal.{Refusal}
use Rattle.inner_code.specs.declared.sheet.Sheet.{Sheet}
use Rattle.inner_code.specs.declared.sheet.CheckedSheet.{CheckedSheet}
use Rattle.inner_code.proofs.Replies.{and_then-passed, and_then-refused, and_then-done, if_done-done, if_done-refused}
use Rattle.inner_code.proofs.SheetChecks.{Sound, sound, sound-accepted, accepted, turned-back}
use Rattle.wiring.specs.Plan.{Plan, edge_count, sheet_of, count_of, side_of, left, right}
use Rattle.wiring.specs.Wiring.{wiring_check, plan_check}
use Rattle.wiring.specs.Answer.{piece_of}
use Rattle.wiring.specs.Checking.{Fitted, Permuted, WiredPlan, PlanChecked, plan_reply}
use Rattle.wiring.specs.Access.{both_codes}
use Rattle.wiring.specs.Code.{code_of}
use Rattle.wiring.specs.PlanParts.{plan_in}
use Rattle.wiring.specs.declared.parts.CheckedPlan.{CheckedPlan}
use Rattle.wiring.specs.declared.side.SideName.{SideName}
use Rattle.wiring.proofs.Permutation.{Whole, Joined, wired, wired-back, wired-joined, side-fits, fitted-edges}

module _ (plan : Plan) where
  -- ---- the check, both ways

  both-sound : Sound plan.left_sheet → Sound plan.right_sheet → (name : SideName) → Sound (sheet_of plan name)
  both-sound l r SideName.Left = l
  both-sound l r SideName.Right = r

  pub plan-sound : {values : List ℕ} → plan_check plan ≡ done values → ((name : SideName) → Sound (sheet_of plan name)) × WiredPlan plan
  unfolding plan_check
  plan-sound {values} e =
      let ((left-values, first), rest) = and_then-done _ _ values e in
      let ((right-values, second), last) = and_then-done _ _ values rest in
      let l = sound plan.left_sheet left-values first in
      let r = sound plan.right_sheet right-values second in (
        both-sound l r,
        wired _ _ plan.nl plan.nr plan.wiring (omega (arith, l.degree-low), l.degree-high) (omega (arith, r.degree-low), r.degree-high) last,
      )

  pub plan-joined : {values : List ℕ} → plan_check plan ≡ done values → Joined (edge_count plan) (side_of plan)
  plan-joined e = wired-joined plan (plan-sound e).1

  pub plan-back : ((name : SideName) → Sound (sheet_of plan name)) → WiredPlan plan → plan_check plan ≡ done []
  unfolding plan_check
  plan-back s w =
      and_then-passed _ _ [] (sound-accepted plan.left_sheet (s left)) ∙ and_then-passed _ _ [] (sound-accepted plan.right_sheet (s right))
      ∙ wired-back _ _ plan.nl plan.nr plan.wiring w

  -- a check that passes has no values
  pub plan-done : {values : List ℕ} → plan_check plan ≡ done values → plan_check plan ≡ done []
  plan-done e = let (s, w) = plan-sound e in plan-back s w

  -- ---- what the code's check gives

  refused-plan : (f : Refusal) → plan_check plan ≡ refused (number_of f) (place_of f) → PlanChecked plan (Err f)
  refused-plan f e = record { answer = sym e; parts = tt }

  pub checked-left-refused : (l : CheckedSheet) (f : Refusal) → SheetChecked plan.left_sheet l → l.sheet ≡ Err f → PlanChecked plan (Err f)
  unfolding plan_check
  checked-left-refused l f c e = refused-plan f (and_then-refused _ _ _ _ (turned-back c e))

  module _ (l : CheckedSheet) (s : Sheet) (c : SheetChecked plan.left_sheet l) (e : l.sheet ≡ Ok s) where
    pub checked-right-refused : (r : CheckedSheet) (f : Refusal) → SheetChecked plan.right_sheet r → r.sheet ≡ Err f → PlanChecked plan (Err f)
    unfolding plan_check
    checked-right-refused r f c' e' =
        refused-plan f (and_then-passed _ _ [] (accepted c e).sheet-done ∙ and_then-refused _ _ _ _ (turned-back c' e'))

    pub left-held : record { n = plan.nl; d = s.d; k = s.k; basis = l.basis } ≡ code_of plan left
    left-held = let a = accepted c e in rw (a.d-is, a.k-is, a.basis-is)

    module _ (r : CheckedSheet) (t : Sheet) (c' : SheetChecked plan.right_sheet r) (e' : r.sheet ≡ Ok t) where
      pub past-sheets : plan_check plan ≡ wiring_check s.d t.d plan.nl plan.nr plan.wiring
      unfolding plan_check
      past-sheets =
          let a = accepted c e in
          let b = accepted c' e' in
          and_then-passed _ _ [] a.sheet-done ∙ and_then-passed _ _ [] b.sheet-done
          ∙ ap₂ (λ (x y : ℕ). wiring_check x y plan.nl plan.nr plan.wiring) (sym a.d-is) (sym b.d-is)

      pub checked-wiring-refused : (f : Refusal) → wiring_check s.d t.d plan.nl plan.nr plan.wiring ≡ refused (number_of f) (place_of f)
          → PlanChecked plan (Err f)
      checked-wiring-refused f q = refused-plan f (past-sheets ∙ q)

      pub checked-passed : wiring_check s.d t.d plan.nl plan.nr plan.wiring ≡ done [] → plan_check plan ≡ done []
      checked-passed q = past-sheets ∙ q

      pub right-held : record { n = plan.nr; d = t.d; k = t.k; basis = r.basis } ≡ code_of plan right
      right-held = let b = accepted c' e' in rw (b.d-is, b.k-is, b.basis-is)

-- ---- what a caller of the check learns

pub record PlanAccepted (plan : Plan) (r : CheckedPlan) : Type 0 where
  pub plan-done : plan_check plan ≡ done []
  pub sheet-sound : (name : SideName) → Sound (sheet_of plan name)
  pub plan-wired : WiredPlan plan
  pub code_is : (name : SideName) → both_codes r.left r.right name ≡ code_of plan name

-- a checked plan is accepted, whoever hands it in
pub plan-accepted : (r : CheckedPlan) → PlanAccepted (plan_in r.parts) r
plan-accepted r =
    let (s, w) = plan-sound (plan_in r.parts) r.passed in
    record { plan-done = r.passed; sheet-sound = s; plan-wired = w; code_is = held }
  where
    held : (name : SideName) → both_codes r.left r.right name ≡ code_of (plan_in r.parts) name
    held SideName.Left = r.left_is
    held SideName.Right = r.right_is

module _ (plan : Plan) (result : Result CheckedPlan Refusal) (c : PlanChecked plan result) where
  pub plan-checked : (r : CheckedPlan) → result ≡ Ok r → PlanAccepted plan r
  plan-checked r e = subst (λ (p : Plan). PlanAccepted p r) (rw e at c.parts) (plan-accepted r)

  pub plan-refused : (f : Refusal) → result ≡ Err f → plan_check plan ≡ refused (number_of f) (place_of f)
  plan-refused f e = sym c.answer ∙ ap plan_reply e

-- an accepted plan has as many bits as the code makes of its left side
pub accepted-edges : {plan : Plan} {r : CheckedPlan} → PlanAccepted plan r → r.left.n * r.left.d ≡ edge_count plan
accepted-edges p = rw (p.code_is left)

-- ---- the piece of a right vertex

module _ (plan : Plan) (v : ℕ) where
  pub piece-refused : (a b : ℕ) → plan_check plan ≡ refused a b → piece_of plan v ≡ []
  unfolding piece_of
  piece-refused a b e = if_done-refused _ _ [] a b e

  pub piece-past : plan_check plan ≡ done [] → plan.nr ≤ v → piece_of plan v ≡ []
  unfolding piece_of
  piece-past e h = if_done-done _ _ [] [] e ∙ rw (le-ltb v plan.nr h)

  pub piece_inside : plan_check plan ≡ done [] → v < plan.nr
      → piece_of plan v ≡ take (2 * degree plan.right_sheet) (drop (2 * (v * degree plan.right_sheet)) plan.wiring)
  unfolding piece_of
  piece_inside e l = if_done-done _ _ [] [] e ∙ rw (lt-ltb v plan.nr l)

  -- the part of the wiring from the byte at `start` to the byte before `end`
  pub piece-part : (d start end : ℕ) → plan_check plan ≡ done [] → v < plan.nr → d ≡ degree plan.right_sheet → start ≡ 2 * (v * d)
      → end ≡ start + 2 * d → take (end - start) (drop start plan.wiring) ≡ piece_of plan v
  piece-part d start end e l same from to =
      let size : end - start ≡ 2 * degree plan.right_sheet = omega arith in
      ap₂ (λ (s m : ℕ). take m (drop s plan.wiring)) (from ∙ ap (λ (x : ℕ). 2 * (v * x)) same) size ∙ sym (piece_inside e l)

-- ---- the sheet of a side that fits has its first byte

pub sheet-some : (sheet : List ℕ) → 1 ≤ degree sheet → 0 < length sheet
unfolding degree
sheet-some [] h = absurd (omega arith)
sheet-some (x ∷ rest) h = omega arith

pub fitted-sheet : (sheet : List ℕ) {n : ℕ} {wiring : List ℕ} → Fitted (degree sheet) n wiring → 0 < length sheet
fitted-sheet sheet f = sheet-some sheet f.d-low

-- ---- a side of an accepted plan

module _ (plan : Plan) (accepted : plan_check plan ≡ done []) where
  pub plan-fits : (name : SideName) → Fitted (degree (sheet_of plan name)) (count_of plan name) plan.wiring
  plan-fits = side-fits plan (plan-sound plan accepted).1

  pub plan-whole : (name : SideName) → Whole (edge_count plan) (side_of plan name)
  plan-whole = (plan-joined plan accepted).whole

  pub plan-few : edge_count plan ≤ 32768
  plan-few = fitted-edges (plan-fits left)

  -- the wiring has two bytes an edge
  pub plan-entries : length plan.wiring / 2 ≡ edge_count plan
  plan-entries = omega (arith, (plan-fits left).sized)

  pub plan-permuted : Permuted (length plan.wiring / 2) plan.wiring
  plan-permuted = rw plan-entries (plan-sound plan accepted).1.permuted
