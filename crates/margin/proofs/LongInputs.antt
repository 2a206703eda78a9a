-- Inputs of the program `margin` that are longer than any accepted one, which has at most 65,588 bytes: of such an input 65,589 bytes tell
-- the answer, so what the program reads is enough.
-- The notions:
--   sheet_end, count_at, input_parts   where the parts of an input lie (specs Input)
--   plan_part input                  the plan in an input (specs Output)
--   plan_check, numbers_answer        of wiring and radius: the check of a plan, and the first line that the program writes
--   sheet_at input from              the sheet that begins at `from`, and ends at `sheet_end input from`
--   behind_right, behind_left         what is checked behind the right sheet, and behind the left one
-- The theorems, at the end:
--   accepted-short   an input whose plan is accepted has at most 65,588 bytes
--   cut-answer       the first 65,589 bytes of an input, or more of them, have the answer of the whole input
--   cut-accepted     where their plan is accepted, they are the whole input: every line is its own
--   read_answer, read-accepted  both of the 65,589 bytes that the program reads
-- Laws are named by their subject, then by the fact: `-same` is what an input shares with any that continues it.
use Rattle.std.proofs.Common.{ℕ, ◌+◌, ◌-◌, ◌*◌, ◌≤◌, ◌<◌, min, Bool, true, false, not, ◌||◌, List, ◌++◌, ◌≡◌, refl, sym, ap, ap₂, ◌∙◌}
use Rattle.std.proofs.Common.{le_refl, arith, ltb, eqb, length, get_or, take, drop, length-append, length-take, length-drop}
use Rattle.std.proofs.Common.{take-append-drop, length-take-le, take_all, get_or-take, get_or-drop, lt-ltb, le-ltb, ne_eqb}
use mathlib.Core.Bool.{or-true}
use native.Mathlib.Decide.{dec_le}
use native.Mathlib.Nat.{sub-zero}
use lib.ListN.{get_or-append}
use lib.Seq.{take-append-le, drop-append-le}
use Rattle.bits.proofs.Bytes.{pair_at-front}
use Rattle.bits.proofs.Tests.{or-neither}
use Rattle.inner_code.specs.Reply.{Reply, done, refused, refuse_if, and_then}
use Rattle.inner_code.specs.Sheet.{degree, row_count, sheet_check}
use Rattle.inner_code.proofs.Replies.{refuse-taken, and_then-done}
use Rattle.inner_code.proofs.SheetChecks.{sound}
use Rattle.wiring.specs.Plan.{left, right}
use Rattle.wiring.specs.Wiring.{count_faulty, wiring_check, plan_check}
use Rattle.wiring.proofs.Permutation.{edges_le, count-range, fitted-edges}
use Rattle.wiring.proofs.Plans.{plan-sound}
use Rattle.radius.specs.Answer.{numbers_answer}
use Rattle.margin.specs.Input.{sheet_end, count_at, input_parts}
use Rattle.margin.specs.Output.{plan_part}
use Rattle.margin.proofs.MarginInputs.{sheet-cut, sheet-whole, count-whole, parts_within}

-- ---- the order of refusals

-- what comes next matters only where a test does not hold, or a place passes
refuse-same : (t : Bool) (n p : ℕ) {next other : Reply} → (t ≡ false → next ≡ other) → refuse_if t n p next ≡ refuse_if t n p other
unfolding refuse_if
refuse-same true n p same = refl
refuse-same false n p same = same refl

and_then-same : (first : Reply) {next other : Reply} → ((values : List ℕ) → first ≡ done values → next ≡ other)
    → and_then first next ≡ and_then first other
unfolding and_then
and_then-same (done values) same = same values refl
and_then-same (refused n p) same = refl

-- nothing comes behind a place that does not pass
and_then-never : (first next : Reply) → ((values : List ℕ) → first ≡ done values → ⊥) → and_then first next ≡ first
unfolding and_then
and_then-never (done values) next never = absurd (never values refl)
and_then-never (refused n p) next never = refl

-- ---- what is refused by its beginning

-- a sheet of too many rows, by its first two bytes
sheet-many : (sheet : List ℕ) → 2 ≤ length sheet → 11 < row_count sheet
    → sheet_check sheet ≡ refuse_if (ltb (degree sheet) 2 || ltb 16 (degree sheet)) 2 0 (refused 3 0)
unfolding sheet_check refuse_if
sheet-many sheet some many = rw (le-ltb (length sheet) 2 some, lt-ltb 11 (row_count sheet) many, or-true)

-- a wiring that is longer than any plan's, whatever its entries are
wiring-long : (dl dr nl nr : ℕ) (one other : List ℕ) → dl ≤ 16 → 65536 < length one → 65536 < length other
    → wiring_check dl dr nl nr one ≡ wiring_check dl dr nl nr other
unfolding wiring_check
wiring-long dl dr nl nr one other narrow long long' =
    refuse-same (count_faulty nl || count_faulty nr) 7 0
    (λ counted.
    let few : nl * dl ≤ 32768 = edges_le nl dl (count-range nl (or-neither _ _ counted).0).1 narrow in
    let unsized : (wiring : List ℕ) → 65536 < length wiring → not (eqb (length wiring) (2 * (nl * dl))) ≡ true =
    λ wiring many. ap not (ne_eqb (length wiring) (2 * (nl * dl)) (λ e. omega arith)) in
    refuse-same (not (eqb (nl * dl) (nr * dr))) 23 0
    (λ even. refuse-taken _ 8 0 _ (unsized one long) ∙ sym (refuse-taken _ 8 0 _ (unsized other long'))))

-- ---- a sheet in an input

abbrev sheet_at : List ℕ → ℕ → List ℕ
sheet_at input from = take (sheet_end input from - from) (drop from input)

module _ (input : List ℕ) (from : ℕ) (room : from + 2 ≤ length input) where
  sheet-some : from + 2 ≤ sheet_end input from
  sheet-some =
      elim (dec_le (from + (2 + 2 * get_or input (from + 1) 0)) (length input)) [
        | yes whole ↦ rw (sheet-whole input from whole) (omega arith)
        | no cut ↦ rw (sheet-cut input from (omega arith)) room
      ]

  sheet-length : 2 ≤ length (sheet_at input from)
  sheet-length = simp (length-take, length-drop) (omega (arith, sheet-some))

  sheet-byte : (j : ℕ) → j < 2 → get_or (sheet_at input from) j 0 ≡ get_or input (from + j) 0
  sheet-byte j l = get_or-take (sheet_end input from - from) (drop from input) j 0 (omega (arith, sheet-some)) ∙ get_or-drop from input j 0

  sheet-rows : row_count (sheet_at input from) ≡ get_or input (from + 1) 0
  unfolding row_count
  sheet-rows = sheet-byte 1 (omega arith)

-- ---- the check of the plan in an input

behind_right : List ℕ → ℕ → ℕ → ℕ → Reply
behind_right input dl dr r = wiring_check dl dr (count_at input r) (count_at input (r + 2)) (drop (min (r + 4) (length input)) input)

behind_left : List ℕ → ℕ → ℕ → Reply
behind_left input dl l = and_then (sheet_check (sheet_at input l)) (behind_right input dl (degree (sheet_at input l)) (sheet_end input l))

check-is : (input : List ℕ)
    → plan_check (plan_part input) ≡ and_then (sheet_check (sheet_at input 0)) (behind_left input (degree (sheet_at input 0)) (sheet_end input 0))
unfolding plan_check input_parts behind_left behind_right
check-is input = rw (sub-zero (sheet_end input 0))

-- ---- what an input shares with any that continues it

module _ (front rest : List ℕ) where
  abbrev whole : List ℕ
  whole = front ++ rest

  longer : length whole ≡ length front + length rest
  longer = length-append front rest

  count_same : (at : ℕ) → at + 2 ≤ length front → count_at whole at ≡ count_at front at
  count_same at inside =
      sym (count-whole whole at (omega (arith, longer))) ∙ pair_at-front front rest at (omega arith) ∙ count-whole front at inside

  -- both sheets have room where the longest accepted one has
  module _ (from : ℕ) (room : from + 24 ≤ length front) where
    byte-same : (j : ℕ) → j < 2 → get_or (sheet_at whole from) j 0 ≡ get_or (sheet_at front from) j 0
    byte-same j l =
        sheet-byte whole from (omega (arith, longer)) j l ∙ get_or-append front rest 0 (from + j) (omega arith)
        ∙ sym (sheet-byte front from (omega arith) j l)

    module _ (few : row_count (sheet_at front from) ≤ 11) where
      end_is : sheet_end front from ≡ from + (2 + 2 * get_or front (from + 1) 0)
      end_is = sheet-whole front from (omega (arith, sheet-rows front from (omega arith)))

      end-high : sheet_end front from ≤ from + 24
      end-high = omega (arith, end_is, sheet-rows front from (omega arith))

      end_same : sheet_end whole from ≡ sheet_end front from
      end_same =
          let second : get_or whole (from + 1) 0 ≡ get_or front (from + 1) 0 = get_or-append front rest 0 (from + 1) (omega arith) in
          sheet-whole whole from (omega (arith, longer, end_is, end-high))
          ∙ ap (λ (k : ℕ). from + (2 + 2 * k)) second ∙ sym end_is

      sheet-same : sheet_at whole from ≡ sheet_at front from
      sheet-same =
          rw (end_same, drop-append-le from front rest (omega arith))
          (take-append-le (sheet_end front from - from) (drop from front) rest (simp length-drop (omega (arith, end-high))))

    sheet-check-same : sheet_check (sheet_at whole from) ≡ sheet_check (sheet_at front from)
    unfolding degree row_count
    sheet-check-same =
        elim (dec_le (row_count (sheet_at front from)) 11) [
          | yes few ↦ ap sheet_check (sheet-same few)
          | no many ↦
              sheet-many (sheet_at whole from) (sheet-length whole from (omega (arith, longer))) (omega (arith, byte-same 1 (omega arith)))
              ∙ ap (λ (d : ℕ). refuse_if (ltb d 2 || ltb 16 d) 2 0 (refused 3 0)) (byte-same 0 (omega arith))
              ∙ sym (sheet-many (sheet_at front from) (sheet-length front from (omega arith)) (omega arith))
        ]

  module _ (long : 65588 < length front) (dl : ℕ) (narrow : dl ≤ 16) where
    right-same : (dr r : ℕ) → r ≤ 48 → behind_right whole dl dr r ≡ behind_right front dl dr r
    unfolding behind_right
    right-same dr r near =
        ap₂ (λ (nl nr : ℕ). wiring_check dl dr nl nr (drop (min (r + 4) (length whole)) whole))
        (count_same r (omega arith)) (count_same (r + 2) (omega arith))
        ∙ wiring-long dl dr _ _ _ _ narrow (simp length-drop (omega (arith, longer))) (simp length-drop (omega arith))

    left-same : (l : ℕ) → l ≤ 24 → behind_left whole dl l ≡ behind_left front dl l
    unfolding behind_left
    left-same l near =
        let room : l + 24 ≤ length front = omega arith in
        ap (λ (r : Reply). and_then r (behind_right whole dl (degree (sheet_at whole l)) (sheet_end whole l))) (sheet-check-same l room)
        ∙ and_then-same (sheet_check (sheet_at front l))
        (λ values passed.
        let few = (sound (sheet_at front l) values passed).count-high in
        ap₂ (λ (sheet : List ℕ) (end : ℕ). behind_right whole dl (degree sheet) end) (sheet-same l room few) (end_same l room few)
        ∙ right-same (degree (sheet_at front l)) (sheet_end front l) (omega (arith, end-high l room few)))

  check-same : 65588 < length front → plan_check (plan_part whole) ≡ plan_check (plan_part front)
  check-same long =
      let room : 0 + 24 ≤ length front = omega arith in
      check-is whole
      ∙ ap (λ (r : Reply). and_then r (behind_left whole (degree (sheet_at whole 0)) (sheet_end whole 0))) (sheet-check-same 0 room)
      ∙ and_then-same (sheet_check (sheet_at front 0))
      (λ values passed.
      let s = sound (sheet_at front 0) values passed in
      let few = s.count-high in
      ap₂ (λ (sheet : List ℕ) (end : ℕ). behind_left whole (degree sheet) end) (sheet-same 0 room few) (end_same 0 room few)
      ∙ left-same long (degree (sheet_at front 0)) s.degree-high (sheet_end front 0) (omega (arith, end-high 0 room few)))
      ∙ sym (check-is front)

-- ---- the theorems

wiring-begins : (input : List ℕ) → (input_parts input).wiring ≤ (input_parts input).right + 4
unfolding input_parts
wiring-begins input = omega arith

check-short : (input values : List ℕ) → plan_check (plan_part input) ≡ done values → length input ≤ 65588
check-short input values e =
    let (s, w) = plan-sound (plan_part input) e in
    let (ordered, (inside, within)) = parts_within input (input_parts input) refl in
    let p = input_parts input in
    omega (
      arith,
      (s left).sized,
      (s left).count-high,
      length-take-le p.left input (omega arith),
      (s right).sized,
      (s right).count-high,
      length-take (p.right - p.left) (drop p.left input),
      length-drop p.left input,
      w.left-fits.sized,
      fitted-edges w.left-fits,
      length-drop p.wiring input,
      wiring-begins input,
    )

-- an input whose plan is accepted has at most 65,588 bytes
pub accepted-short : (input values : List ℕ) → numbers_answer (plan_part input) ≡ done values → length input ≤ 65588
unfolding numbers_answer
accepted-short input values e =
    let ((passed, check), rest) = and_then-done _ _ values e in
    check-short input passed check

-- the answer for a longer input is its refusal
answer-long : (input : List ℕ) → 65588 < length input → numbers_answer (plan_part input) ≡ plan_check (plan_part input)
unfolding numbers_answer
answer-long input long = and_then-never _ _ (λ values e. omega (arith, check-short input values e))

module _ (input : List ℕ) (size : ℕ) (enough : 65589 ≤ size) where
  -- the first 65,589 bytes of an input, or more of them, have its answer
  pub cut-answer : numbers_answer (plan_part (take size input)) ≡ numbers_answer (plan_part input)
  cut-answer =
      elim (dec_le size (length input)) [
        | no short ↦ ap (λ (l : List ℕ). numbers_answer (plan_part l)) (take_all size input (omega arith))
        | yes long ↦
            let sized : length (take size input) ≡ size = length-take-le size input long in
            answer-long (take size input) (omega arith)
            ∙ sym (check-same (take size input) (drop size input) (omega arith))
            ∙ ap (λ (l : List ℕ). plan_check (plan_part l)) (take-append-drop size input)
            ∙ sym (answer-long input (omega arith))
      ]

  -- where their plan is accepted, they are the whole input
  pub cut-accepted : (values : List ℕ) → numbers_answer (plan_part (take size input)) ≡ done values → take size input ≡ input
  cut-accepted values e = take_all size input (omega (arith, accepted-short input values (sym cut-answer ∙ e)))

-- what the program reads has the input's answer, and where it is accepted it is the input
module _ (input : List ℕ) where
  pub read_answer : numbers_answer (plan_part (take 65589 input)) ≡ numbers_answer (plan_part input)
  read_answer = cut-answer input 65589 (le_refl 65589)

  pub read-accepted : (values : List ℕ) → numbers_answer (plan_part (take 65589 input)) ≡ done values → take 65589 input ≡ input
  read-accepted = cut-accepted input 65589 (le_refl 65589)
