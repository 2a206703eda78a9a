-- `messages::find_hits` meets its contract: after i turns the set has the rows that fail the check on the first i edges of the vertex.
use Rattle.std.proofs.Common.{◌≡◌, ◌∙◌, refl, arith}
use Rattle.bits.specs.Bit.{digit}
use Rattle.messages.specs.Columns.{no_rows}
use Rattle.messages.proofs.Pivots.{hits-none, hits-put, hits-kept}
use Rattle.messages.proofs.solver.find_hits.Goals as goal
use Rattle.messages.proofs.solver.find_hits.Goals.{else-residues-i-eq1, then-residues-i-eq1}

pub loop-i-init : goal.loop-i-init
unfolding no_rows
loop-i-init c = record { sized = refl; so_far = hits-none _ _ }

pub add_column-requires : goal.add_column-requires
add_column-requires c = omega (arith, c.bit_of.ensures, c.requires.bit-lt c.loop-i.i (omega arith), c.loop-i.invariant.sized)

pub loop-i-preserved : goal.loop-i-preserved
unfolding digit
loop-i-preserved c =
    let before = c.loop-i.invariant in
    (elim c.if-residues-i-eq1.branch [
      | then-residues-i-eq1 w ↦
          let more = hits-put _ _ _ _ before.so_far _ _ w.if-residues-i-eq1.true w.bit_of.ensures w.add_column.ensures in
          record { sized = rw w.hits-is (w.add_column.auto.to ∙ before.sized); so_far = rw w.hits-is more }
      | else-residues-i-eq1 w ↦
          let more = hits-kept _ _ _ _ before.so_far w.if-residues-i-eq1.false in
          record { sized = rw w.hits-is before.sized; so_far = rw w.hits-is more }
    ])

pub returns : goal.returns
returns c =
    let end : c.loop-i.i ≡ c.args.check.d = omega arith in
    rw end at c.loop-i.invariant.so_far
