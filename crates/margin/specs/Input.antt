-- The input of the program `margin`, as the paper describes it: left sheet, right sheet, nl, nr and wiring.
--   sheet_end input from   where the sheet that begins at `from` ends: it takes 2 + 2k bytes, or what there is
--   count_at input at      the two-byte number at `at`, high byte first; 0, which no side has, where it is missing or cut
--   input_parts input      where the left sheet ends, where the right one does, nl, nr, and where the wiring begins
use Rattle.std.specs.Prelude.{ℕ, ◌+◌, ◌*◌, min, List, cond, length, get_or, leb, ltb}
use Rattle.bits.specs.Bit.{pair_at}
use Rattle.margin.specs.declared.margin_input.MarginInput.{MarginInput}

unfoldable pub sheet_end : List ℕ → ℕ → ℕ
sheet_end input from = cond (ltb (length input) (from + 2)) (length input) (min (from + (2 + 2 * get_or input (from + 1) 0)) (length input))

unfoldable pub count_at : List ℕ → ℕ → ℕ
unfolding pair_at
count_at input at = cond (leb (at + 2) (length input)) (pair_at input at) 0

unfoldable pub input_parts : List ℕ → MarginInput
unfolding sheet_end count_at
input_parts input =
    let l : ℕ = sheet_end input 0 in
    let r : ℕ = sheet_end input l in
    record { left = l; right = r; nl = count_at input r; nr = count_at input (r + 2); wiring = min (r + 4) (length input) }
