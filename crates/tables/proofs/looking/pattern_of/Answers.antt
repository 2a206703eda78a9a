-- `tables::pattern_of` meets its contract.
use Rattle.std.proofs.Common.{◌≡◌, sym, ap, ◌∙◌, ℕ, ◌*◌, ◌%◌, ◌^◌, arith, Bool, cond, eq-eqb, ne_eqb}
use Rattle.bits.proofs.Windows.{shifted_one}
use Rattle.tables.specs.Classes.{tie_mark}
use Rattle.tables.proofs.looking.pattern_of.Goals as goal
use Rattle.tables.proofs.looking.pattern_of.Goals.{Else-entry-eq-MARK}

pub returns-then-entry-eq-MARK : goal.returns-then-entry-eq-MARK
unfolding tie_mark
returns-then-entry-eq-MARK c = sym (ap (λ (t : Bool). cond t 0 (c.args.entry % 2 ^ c.args.d)) (eq-eqb c.args.entry tie_mark c.if-entry-eq-MARK.true))

power : (c : Else-entry-eq-MARK) → (1 * 2 ^ c.args.d) % 2 ^ 32 ≡ 2 ^ c.args.d
power c = shifted_one c.args.d 32 (omega arith)

pub returns : goal.returns
unfolding tie_mark
returns c =
    let args = c.args in
    ap (λ (m : ℕ). args.entry % m) (power c)
    ∙ sym (ap (λ (t : Bool). cond t 0 (args.entry % 2 ^ args.d)) (ne_eqb args.entry tie_mark c.if-entry-eq-MARK.false))
