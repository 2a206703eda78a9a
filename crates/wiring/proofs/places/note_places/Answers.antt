-- `wiring::note_places` meets its contract: after i turns the places of the first i entries' edges are noted, and no later entry has one of them.
use Rattle.std.proofs.Common.{◌≡◌, refl, ◌∙◌, ◌/◌, ◌<◌, arith, length, length-set}
use Rattle.bits.proofs.Lists.{kept-start, kept_set}
use Rattle.wiring.proofs.EdgePlaces.{places-more}
use Rattle.wiring.proofs.places.note_places.Goals as goal
use Rattle.wiring.proofs.places.note_places.Goals.{After-edge_at}

-- the edges stand at the entries, each once

pub loop-i-init : goal.loop-i-init
loop-i-init c = (refl, λ j l. absurd (omega arith), kept-start _ _)

edge-lt : (c : After-edge_at) → c.edge_at.result < length c.args.wiring.now / 2
edge-lt c = rw c.edge_at.ensures ((c.requires.permuted).edge-lt c.loop-i.i (omega arith))

pub offset_bounds-places-edge_at : goal.offset_bounds-places-edge_at
offset_bounds-places-edge_at c = omega (arith, edge-lt c, c.requires.wiring_len_bound)

pub bounds-places-edge_at : goal.bounds-places-edge_at
bounds-places-edge_at c = omega (arith, edge-lt c, c.requires.wiring_in_bounds, c.loop-i.invariant.0)

pub loop-i-preserved : goal.loop-i-preserved
loop-i-preserved c =
    let turn = c.loop-i in
    let once = (c.requires.permuted).edge-once in (
      length-set turn.places c.edge_at.result turn.i ∙ turn.invariant.0,
      places-more _ turn.places turn.i _ c.edge_at.ensures
          (omega (arith, edge-lt c, c.edge_at.ensures, c.requires.wiring_in_bounds, turn.invariant.0))
          (λ j l e. let same = once j turn.i (omega arith) (omega arith) e in omega arith)
          turn.invariant.1 refl,
      kept_set turn.invariant.2 c.edge_at.result turn.i (edge-lt c),
    )

pub shape_of-places : goal.shape_of-places
shape_of-places c = c.loop-i.invariant.0

pub returns : goal.returns
returns c =
    let end : c.loop-i.i ≡ length c.args.wiring.now / 2 = omega arith in record {
      places_noted = record { sized = omega (arith, c.requires.wiring_in_bounds, c.loop-i.invariant.0); each = rw end at c.loop-i.invariant.1 };
      kept_from = c.loop-i.invariant.2;
    }
