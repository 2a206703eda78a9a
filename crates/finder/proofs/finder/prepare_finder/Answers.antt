-- `finder::prepare_finder` meets its contract: the tables are filled, then the part of the codewords is lent out and comes back filled.
use Rattle.std.proofs.Common.{◌≡◌, ℕ, ◌^◌, ◌≤◌, min, List, [], length, set, take, drop, arith, rules}
use mathlib.Core.Path.{subst⁻¹}
use Rattle.inner_code.specs.Reduction.{listed}
use Rattle.inner_code.specs.Sheet.{degree, row_of}
use Rattle.inner_code.proofs.Listings.{words-most, lists-few}
use Rattle.inner_code.proofs.SheetChecks.{sound}
use Rattle.finder.specs.Finding.{Finds, power_left, with_halves}
use Rattle.finder.proofs.Finding.{part-sized, back-is, filled_finder, preparable-sized, prepared-finds}
use Rattle.finder.proofs.finder.prepare_finder.Goals as goal
use Rattle.finder.proofs.finder.prepare_finder.Goals.{After-list_codewords-count}

pub bounds-sheet-0 : goal.bounds-sheet-0
bounds-sheet-0 c = omega (arith, (sound c.args.sheet.now [] c.requires.accepted).sized)

pub tabulate_halves-requires-clause-d_bound : goal.tabulate_halves-requires-clause-d_bound
unfolding degree
tabulate_halves-requires-clause-d_bound c = omega (arith, (sound c.args.sheet.now [] c.requires.accepted).degree-high)

-- there is room for the codewords of every sheet
room : (c : After-list_codewords-count) → 2 ^ min c.args.k 11 ≤ length (take 2048 (drop 2592 c.tabulate_halves.new.finder))
room c =
    let all : 4640 ≤ length c.tabulate_halves.new.finder = omega (arith, c.tabulate_halves.auto.finder, preparable-sized c.requires) in
    omega (arith, part-sized 2592 2048 c.tabulate_halves.new.finder all, words-most c.args.k)

pub overflow_cast-finder : goal.overflow_cast-finder
overflow_cast-finder c =
    omega (arith, lists-few _ _ c.list_codewords-count.ensures (room (goal.at.overflow_cast-finder c).After-list_codewords-count))

headed : {a b : List ℕ} {m n : ℕ} (d : ℕ) → a ≡ b → m ≡ n → set (set a 0 m) 1 d ≡ set (set b 0 n) 1 d
headed d list count = rw (list, count)

pub returns : goal.returns
unfolding filled_finder with_halves power_left degree
returns c =
    let args = c.args in
    let sheet = args.sheet.now in
    let row = power_left args.basis.now args.k in
    let listing = c.list_codewords-count.ensures.room (room (goal.at.returns c).After-list_codewords-count) in
    subst⁻¹ (Finds sheet)
    (headed (degree sheet)
    (back-is 2592 2048 c.list_codewords-count.new.words c.tabulate_halves.new.finder (with_halves row (degree sheet) args.finder.now)
    (listed (row_of sheet) (min args.k 11)) listing.1 (c.tabulate_halves.ensures row (λ from b r low gives. search rules)))
    listing.0)
    (prepared-finds c.requires)
