-- `finder::tabulate` meets its contract: after b turns the numbers of b digits are listed.
use Rattle.std.proofs.Common.{◌≡◌, ℕ, ◌+◌, ◌*◌, ◌^◌, ◌≤◌, List, refl, sym, ap, ◌∙◌, length, length-set, arith, add-one, pow-suc, set-set}
use Rattle.bits.proofs.Windows.{shifted_one}
use Rattle.inner_code.specs.Reduction.{doubled, listed, Doubles}
use Rattle.inner_code.proofs.Listings.{listed-one-more, listed-again}
use Rattle.finder.proofs.Finding.{count_fits}
use Rattle.finder.proofs.finder.tabulate.Goals as goal

-- one turn: what is listed, with one more row's number on it behind itself
listed-next : (row : ℕ → ℕ) (b count made : ℕ) (start before after : List ℕ) → count ≡ 2 ^ b → Doubles count made before after
    → 2 * count ≤ length before → before ≡ listed row b start → made ≡ row b → after ≡ listed row (b + 1) start
listed-next row b count made start before after count_is doubles room before_is made_is =
    let twice : after ≡ doubled count made count before = doubles.room room in
    cc (listed-one-more row b start)

pub loop-b-init : goal.loop-b-init
unfolding listed
loop-b-init g c = (refl, λ row powers. sym (set-set c.args.table.now 0 0 0))

pub loop-b-preserved : goal.loop-b-preserved
loop-b-preserved g c =
    let here = c.loop-b in
    let from = c.args.from in
    let table = c.args.table.now in
    let count = here.invariant.0 in
    let room : 2 * here.count ≤ length here.table = omega (arith, count_fits here.b here.count (omega arith) count, length-set table 0 0) in
    let power = shifted_one (from + here.b) 16 (omega arith) in (
      rw add-one (omega (arith, count, pow-suc 2 here.b)),
      λ row powers. listed-next (row from) here.b here.count c.of.result _ here.table _ count c.double.ensures room (here.invariant.1 row powers)
          (powers from here.b c.of.result (omega arith) (rw power at c.of.ensures)),
    )

pub returns : goal.returns
returns g c =
    let b = c.loop-b.b in
    let table = c.args.table.now in
    let all : b ≡ c.args.digits = omega arith in
    λ row powers. c.loop-b.invariant.1 row powers ∙ listed-again (row c.args.from) b table ∙ ap (λ (n : ℕ). listed (row c.args.from) n table) all
