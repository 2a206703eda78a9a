-- The rows of a plan once all its checks are done, as the code keeps them, and the message positions among them.
--   UnitResidues basis k d residues  entry i is what the basis leaves of the word whose one digit is at edge i (specs Columns)
--   Uses d residues used             a digit that `used` does not have is in none of the first d residues (specs Columns)
--   CheckMade .. columns left        `left` holds the rows of `columns` after one check more (specs Columns)
--   Eliminated .. m columns left     `left` holds the rows of `columns` after m checks of a side of a plan more (specs Columns)
--   Solved plan columns              the columns hold the rows after all checks (specs Columns)
--   StoredPlan plan N columns        the columns hold the final rows of an accepted plan of N edges (specs Columns)
-- Laws are named by their subject, then by the fact: `residues-` is about the masks, `uses-` about the digits in use, `eliminated-` about
-- the checks of a side in turn, `side-` about a side as the code holds it, `solved-` about the checks of a plan, `plan-` about a checked plan.
use Rattle.std.proofs.Common.{ℕ, ◌+◌, ◌-◌, ◌*◌, ◌^◌, ◌%◌, ◌≤◌, ◌<◌, List, ◌≡◌, refl, sym, ap, ap₂, ◌∙◌, add-zero, zero-add, add_assoc}
use Rattle.std.proofs.Common.{arith, bit_or, get_or, replicate}
use mathlib.Core.Logic.{◌≢◌}
use native.Mathlib.Nat.{min-eq_left}
use native.Mathlib.Decide.{ℕ_discrete}
use Rattle.std.specs.Borrow.{Bor}
use Rattle.std.proofs.lemmas.Nat.Bits.{bit_at_or}
use Rattle.bits.specs.Window.{at}
use Rattle.bits.specs.Bit.{digit}
use Rattle.inner_code.specs.Reduction.{reduced, reduced_by, with_echelon}
use Rattle.inner_code.specs.Sheet.{row_of}
use Rattle.inner_code.proofs.EchelonForm.{reduced_by-stored}
use Rattle.wiring.specs.Plan.{Plan, edge_count, left, right, sheet_of, side_of}
use Rattle.wiring.specs.PlanParts.{plan_in}
use Rattle.wiring.specs.Checking.{Fitted, Permuted}
use Rattle.wiring.specs.Code.{code_of}
use Rattle.wiring.specs.declared.parts.CheckedPlan.{CheckedPlan}
use Rattle.wiring.specs.declared.side.SideCode.{SideCode}
use Rattle.wiring.specs.declared.side.SideName.{SideName}
use Rattle.wiring.proofs.Plans.{plan-sound, plan-fits, plan-whole}
use Rattle.messages.specs.Elimination.{parity, after, start, plan_checks, final_state}
use Rattle.messages.specs.Columns.{UnitResidues, Uses, Stores, check_of, Within, CheckMade, Eliminated, Solved, StoredPlan}
use Rattle.messages.proofs.Elimination.{after-zero}
use Rattle.messages.proofs.Checks.{check-left, check-past}
use Rattle.messages.proofs.Pivots.{check-within, check-value, made-unused}

-- ---- the masks

-- the masks by the rows of the sheet
residues-masks : (row : ℕ → ℕ) (basis : List ℕ) (k d : ℕ) (residues : List ℕ) → UnitResidues basis k d residues
    → basis ≡ with_echelon row k (replicate 11 0) → k ≤ 11 → (i : ℕ) → i < d → get_or residues i 0 ≡ reduced row k (2 ^ (d - 1 - i))
residues-masks row basis k d residues units stored few i l =
    units.each i l
    ∙ ap₂ (λ (b : List ℕ) (m : ℕ). reduced_by (at b) m (2 ^ (d - 1 - i))) stored (min-eq_left few)
    ∙ reduced_by-stored row k (replicate 11 0) (2 ^ (d - 1 - i)) few

-- ---- the digits in use

pub uses-zero : (residues : List ℕ) → Uses 0 residues 0
uses-zero residues = record { none = λ i j l e. absurd (omega arith) }

pub uses-one-more : (i : ℕ) (residues : List ℕ) (used : ℕ) → Uses i residues used → Uses (i + 1) residues (bit_or used (get_or residues i 0))
unfolding digit
uses-one-more i residues used so_far = record { none = go }
  where
    go : (q j : ℕ) → q < i + 1 → digit (bit_or used (get_or residues i 0)) j ≡ 0 → digit (get_or residues q 0) j ≡ 0
    go q j l e =
        let either = bit_at_or used (get_or residues i 0) j in
        elim (ℕ_discrete q i) [
          | yes at_i ↦ rw at_i (omega (arith, either, e))
          | no earlier ↦ so_far.none q j (omega arith) (omega (arith, either, e))
        ]

-- ---- the checks of a side of an accepted plan in turn

module _ (plan : Plan) (name : SideName) (columns : List ℕ) where
  pub eliminated-none : Eliminated plan name 0 columns columns
  eliminated-none = record { rows = λ checks first same s. rw add-zero s }

-- a side of a checked plan as the code holds it
module _ (r : CheckedPlan) (name : SideName) (code : SideCode) (held : code ≡ code_of (plan_in r.parts) name) where
  abbrev plan : Plan
  plan = plan_in r.parts

  pub side-fits : Fitted code.d code.n plan.wiring
  side-fits = rw held (plan-fits plan r.passed name)

  side-entries : code.n * code.d ≡ edge_count plan
  side-entries = rw held (plan-whole plan r.passed name).entries

  permuted : Permuted (edge_count plan) plan.wiring
  permuted = (plan-sound plan r.passed).1.permuted

  module _ (residues : Bor (List ℕ)) (m : ℕ) (low : m < edge_count plan) where
    pub side-within : edge_count plan ≤ 512 → Within (check_of name r.parts.wiring residues code.d m)
    side-within = check-within r.parts.wiring residues side-fits side-entries permuted name m low

    pub eliminated-one-more : UnitResidues code.basis code.k code.d residues.now → (columns so_far : List ℕ) → Eliminated plan name m columns so_far
        → (next : List ℕ) → CheckMade (edge_count plan) (check_of name r.parts.wiring residues code.d m) so_far next
        → Eliminated plan name (m + 1) columns next
    eliminated-one-more units columns so_far earlier next made =
        let masks = residues-masks (row_of (sheet_of plan name)) _ _ _ residues.now (rw held at units) refl ((plan-sound plan r.passed).0 name).count-high in
        let entries = (plan-whole plan r.passed name).entries in
        let value = check-value r.parts.wiring residues (plan-fits plan r.passed name) entries permuted name m low _ _ masks in
        record {
          rows = λ checks first same s.
              rw (← add_assoc first m 1)
              ((rw held at made).rows checks (first + m)
              (λ g. value g ∙ ap (λ (a : ℕ → ℕ). parity (edge_count plan) a g) (sym (same m (omega arith))))
              (earlier.rows checks first (λ i l. same i (omega arith)) s));
        }

  -- a check whose digit is in no residue leaves the rows as they are
  pub eliminated-unused : (residues : List ℕ) (m : ℕ) → m < edge_count plan → edge_count plan ≤ 512 → UnitResidues code.basis code.k code.d residues
      → (used : ℕ) → Uses code.d residues used → digit used (m % code.d) ≢ 1
      → (columns so_far : List ℕ) → Eliminated plan name m columns so_far → Eliminated plan name (m + 1) columns so_far
  eliminated-unused residues m low few units used uses other columns so_far earlier =
      let lent : Bor (List ℕ) = record { ref_ptr = r.parts.wiring.ref_ptr; now = residues } in
      let kept = made-unused _ few (check_of name r.parts.wiring lent code.d m) so_far used uses other in
      eliminated-one-more lent m low units columns so_far earlier so_far kept

-- ---- both sides

pub solved-both : (plan : Plan) (units half whole : List ℕ) → Stores (edge_count plan) (start (edge_count plan)) units
    → Eliminated plan left (edge_count plan) units half → Eliminated plan right (edge_count plan) half whole → Solved plan whole
unfolding final_state plan_checks
solved-both plan units half whole started first second =
    let N = edge_count plan in
    let begun : Stores N (after N (plan_checks plan) 0) units = rw after-zero started in
    let left-done = first.rows (plan_checks plan) 0 (λ i h. rw zero-add (check-left (side_of plan) i h)) begun in
    let both-done = second.rows (plan_checks plan) N (λ i h. check-past (side_of plan) i) (rw zero-add at left-done) in
    let twice : N + N ≡ 2 * N = omega arith in
    rw twice at both-done

-- the rows of a checked plan, by the number of edges that the code counts
pub plan-stored : (r : CheckedPlan) (N : ℕ) → N ≡ edge_count (plan_in r.parts) → N ≤ 512 → (columns : List ℕ) → Solved (plan_in r.parts) columns
    → StoredPlan (plan_in r.parts) N columns
plan-stored r N edges short columns stored = record { accepted = r.passed; edges = edges; short = short; stored = rw edges stored }
