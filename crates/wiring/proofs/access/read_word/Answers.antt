-- `wiring::read_word` meets its contract: a left vertex's bits are read in a row, a right vertex's bit by bit.
use Rattle.std.proofs.Common.{sym, ap, ◌∙◌}
use Rattle.wiring.specs.Plan.{side_bit, right}
use Rattle.wiring.specs.Access.{read_word, Readable}
use Rattle.wiring.specs.declared.side.SideName.{SideName}
use Rattle.wiring.proofs.VertexAccess.{read_left, read_right}
use Rattle.wiring.proofs.access.read_word.Goals as goal

pub gathered-requires : goal.gathered-requires
unfolding side_bit
gathered-requires c =
    let read : Readable right c.args.wiring.now c.args.d c.args.block.now c.args.v = rw c.in-Right.is at c.requires in
    record {
      d_bound = read.narrow;
      d_in_bounds = read.fits;
      edges_in_block = read.held;
    }

pub returns-in-Left : goal.returns-in-Left
returns-in-Left c =
    c.word_at.ensures ∙ read_left c.args.wiring.now c.args.d c.args.block.now c.args.v
    ∙ ap (λ (side : SideName). read_word side c.args.wiring.now c.args.d c.args.block.now c.args.v) (sym c.in-Left.is)

pub returns-in-Right : goal.returns-in-Right
returns-in-Right c =
    c.gathered.ensures ∙ read_right c.args.wiring.now c.args.d c.args.block.now c.args.v
    ∙ ap (λ (side : SideName). read_word side c.args.wiring.now c.args.d c.args.block.now c.args.v) (sym c.in-Right.is)
