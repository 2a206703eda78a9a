-- `finder::number_classes` meets its contract: the parts of the finder are put anew one after the other.
use Rattle.std.proofs.Common.{◌≡◌, ℕ, ◌-◌, ◌*◌, ◌%◌, ◌+◌, ◌^◌, ◌≤◌, List, [], ap, refl, ◌∙◌, length, get_or, take, set, replicate, min}
use Rattle.std.proofs.Common.{arith, rules, pow_mono, length-take-le}
use lib.ListN.{length-replicate}
use Rattle.bits.specs.Window.{at}
use Rattle.inner_code.specs.Reduction.{reduced_by}
use Rattle.inner_code.specs.Sheet.{degree, row_count}
use Rattle.inner_code.proofs.SheetChecks.{sound, degree-byte, count-byte}
use Rattle.tables.specs.Answer.{table_bytes}
use Rattle.tables.specs.Numbering.{free_mask, squeezed_by}
use Rattle.tables.proofs.Tables.{size_is}
use Rattle.finder.specs.Finding.{Fewer, with_halves, power_left, power_number, sheet_entries, renumbered_finder}
use Rattle.finder.proofs.Finding.{back-is}
use Rattle.finder.proofs.finder.number_classes.Goals as goal

pub bounds-sheet-0 : goal.bounds-sheet-0
bounds-sheet-0 c = omega (arith, (sound c.args.sheet.now [] c.requires.fewer.accepted).sized)

pub bounds-sheet-1 : goal.bounds-sheet-1
bounds-sheet-1 c = omega (arith, (sound c.args.sheet.now [] c.requires.fewer.accepted).sized)

pub overflow_sub-size : goal.overflow_sub-size
unfolding degree row_count
overflow_sub-size c = omega (arith, (sound c.args.sheet.now [] c.requires.fewer.accepted).count-degree)

pub overflow_shl-size : goal.overflow_shl-size
unfolding degree
overflow_shl-size c = omega (arith, (sound c.args.sheet.now [] c.requires.fewer.accepted).degree-high)

-- ---- the table: its length, and room for it

abbrev table_size : List ℕ → ℕ
table_size sheet = (2 * 2 ^ (get_or sheet 0 0 - get_or sheet 1 0)) % 18446744073709551616

size : {sheet basis : List ℕ} → Fewer sheet basis → table_size sheet ≡ table_bytes sheet
size {sheet} fewer =
    size_is sheet (sound sheet [] fewer.accepted) (get_or sheet 0 0) (get_or sheet 1 0) (degree-byte sheet) (count-byte sheet)

few : {sheet basis : List ℕ} → Fewer sheet basis → table_size sheet ≤ length (replicate {A = ℕ} 4096 0)
unfolding table_bytes
few fewer = rw (length-replicate {A = ℕ} 4096 0) (omega (arith, size fewer, pow_mono {j = 11} fewer.few))

pub slice_bounds-table-end : goal.slice_bounds-table-end
slice_bounds-table-end c = few c.requires.fewer

pub make_entries-requires-clause-sized : goal.make_entries-requires-clause-sized
make_entries-requires-clause-sized c =
    let fewer = c.requires.fewer in
    let bytes = table_size c.args.sheet.now in
    let whole : bytes - 0 ≡ bytes = omega arith in record {
      accepted = fewer.accepted;
      echelon = fewer.echelon;
      sized = ap (λ (n : ℕ). length (take n (replicate {A = ℕ} 4096 0))) whole ∙ length-take-le bytes (replicate {A = ℕ} 4096 0) (few fewer)
          ∙ size fewer;
    }

pub tabulate_halves-requires-clause-d_bound : goal.tabulate_halves-requires-clause-d_bound
unfolding degree
tabulate_halves-requires-clause-d_bound c = omega (arith, (sound c.args.sheet.now [] c.requires.fewer.accepted).degree-high)

number-is : (basis : List ℕ) (k from b mask r : ℕ) → mask ≡ free_mask (at basis) (min k 11)
    → r ≡ squeezed_by mask 16 (reduced_by (at basis) (min k 11) (2 ^ (from + b))) → r ≡ power_number basis k from b
unfolding power_number power_left
number-is basis k from b mask r mask_is squeezed = rw (squeezed, mask_is)

pub returns : goal.returns
unfolding renumbered_finder with_halves degree row_count
returns c =
    let args = c.args in
    let sheet = args.sheet.now in
    let finder = args.finder.now in
    let mask = c.free_digits-mask in
    let row = power_number args.basis.now (row_count sheet) in
    ap (λ (l : List ℕ). set l 2 1)
    (c.tabulate_halves.ensures row (λ from b r low gives. number-is args.basis.now (row_count sheet) from b mask.result r mask.ensures (search rules))
    ∙ ap (with_halves row (degree sheet))
    (back-is 544 2048 c.make_entries.new.entries finder finder (sheet_entries sheet) c.make_entries.ensures refl))
