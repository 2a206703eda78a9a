-- Laws of the input of the program `margin`: where its parts lie, outcome by outcome.
--   sheet_end input from   where the sheet that begins at `from` ends: after 2 + 2k bytes, or at the end of the input (specs Input)
--   count_at input at      the two-byte number at `at`; 0 where it is missing or cut (specs Input)
--   input_parts input      the ends of both sheets, nl, nr, and the beginning of the wiring (specs Input)
-- `sheet-` laws say where a sheet ends, `count-` laws what a count is, `parts-` laws what the parts are and that they lie in order within the
-- input; `-cut` is for what is missing or cut, `-long` for a sheet whose k is there, `-whole` for what is
-- there.
use Rattle.std.proofs.Common.{ℕ, ◌+◌, ◌*◌, ◌≤◌, ◌<◌, min, List, ◌≡◌, ◌∙◌, add-zero, le_of_lt, le_refl, arith, length, get_or, lt-ltb}
use Rattle.std.proofs.Common.{le-ltb, le-leb}
use native.Mathlib.Decide.{dec_le}
use native.Mathlib.Nat.{min-eq_left, min-eq_right}
use borrow.Author.Tests.{lt-leb}
use Rattle.bits.specs.Bit.{pair_at}
use Rattle.margin.specs.Input.{sheet_end, count_at, input_parts}
use Rattle.margin.specs.declared.margin_input.MarginInput.{MarginInput}

module _ (input : List ℕ) where
  module _ (from : ℕ) where
    pub sheet-cut : length input < from + (2 + 2 * get_or input (from + 1) 0) → sheet_end input from ≡ length input
    unfolding sheet_end
    sheet-cut cut =
        elim (dec_le (from + 2) (length input)) [
          | yes long ↦ rw (le-ltb _ _ long) (min-eq_right (le_of_lt cut))
          | no short ↦ rw (lt-ltb (length input) (from + 2) (omega arith))
        ]

    pub sheet-long : from + 2 ≤ length input → sheet_end input from ≡ min (from + (2 + 2 * get_or input (from + 1) 0)) (length input)
    unfolding sheet_end
    sheet-long long = rw (le-ltb _ _ long)

    pub sheet-whole : from + (2 + 2 * get_or input (from + 1) 0) ≤ length input → sheet_end input from ≡ from + (2 + 2 * get_or input (from + 1) 0)
    sheet-whole whole = sheet-long (omega arith) ∙ min-eq_left whole

    -- a sheet ends within the input, and not before it begins
    sheet-within : from ≤ length input → (from ≤ sheet_end input from) × (sheet_end input from ≤ length input)
    sheet-within inside =
        elim (dec_le (from + (2 + 2 * get_or input (from + 1) 0)) (length input)) [
          | yes whole ↦ rw (sheet-whole whole) (omega arith)
          | no cut ↦ rw (sheet-cut (omega arith)) (inside, le_refl (length input))
        ]

  pub count_cut : (at : ℕ) → length input < at + 2 → 0 ≡ count_at input at
  unfolding count_at
  count_cut at cut = rw (lt-leb _ _ cut)

  pub count-whole : (at : ℕ) → at + 2 ≤ length input → pair_at input at ≡ count_at input at
  unfolding count_at
  count-whole at whole = rw (le-leb _ _ whole)

  pub parts_are : (l r a b w : ℕ) → l ≡ sheet_end input 0 → r ≡ sheet_end input l → a ≡ count_at input (r + 0) → b ≡ count_at input (r + 2)
      → w ≡ min (r + 4) (length input) → record { left = l; right = r; nl = a; nr = b; wiring = w } ≡ input_parts input
  unfolding input_parts
  parts_are l r a b w first second nl nr rest = rw (nl, add-zero, nr, rest, second, first)

  -- the parts lie in order within the input
  pub parts_within : (p : MarginInput) → p ≡ input_parts input
      → (p.left ≤ p.right) × ((p.right ≤ length input) × (p.wiring ≤ length input))
  unfolding input_parts
  parts_within p e =
      let first = sheet-within 0 (omega arith) in
      let second = sheet-within (sheet_end input 0) first.1 in
      rw e (second.0, (second.1, omega arith))
