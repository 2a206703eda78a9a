-- `messages::unit_residues` meets its contract: after i turns the entries below i are filled.
use Rattle.std.proofs.Common.{◌≡◌, ℕ, ◌-◌, ◌^◌, ◌<◌, min, length, length-set, refl, ap, ◌∙◌, arith}
use Rattle.std.proofs.lemmas.List.Edits.{fill_by_more}
use Rattle.bits.specs.Window.{at}
use Rattle.bits.proofs.Windows.{shifted_one}
use Rattle.inner_code.specs.Reduction.{reduced_by}
use Rattle.messages.proofs.solver.unit_residues.Goals as goal

pub loop-i-init : goal.loop-i-init
loop-i-init c = record { sized = refl; filled = λ q l. absurd (omega arith) }

pub loop-i-preserved : goal.loop-i-preserved
loop-i-preserved c =
    let before = c.loop-i in
    let code = c.args.code in
    let left : ℕ → ℕ = reduced_by (at code.basis) (min code.k 11) in
    let unit = shifted_one (code.d - 1 - before.i) 16 (omega arith) in
    let room : before.i < length before.residues = omega arith in
    record {
      sized = simp length-set before.invariant.sized;
      filled = rw (c.residue.ensures ∙ ap left unit) (fill_by_more (λ q. left (2 ^ (code.d - 1 - q))) before.residues before.i 0 room before.invariant.filled);
    }

pub returns : goal.returns
returns c =
    let end : c.loop-i.i ≡ c.args.code.d = omega arith in
    record { each = rw end at c.loop-i.invariant.filled }
