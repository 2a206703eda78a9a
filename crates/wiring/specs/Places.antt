-- How the code goes from a bit to the vertices that read it: none of this is needed to believe a contract of a service.
--   PlacesNoted wiring places   the list holds, at each edge, the entry of the wiring where it stands; it may be longer
--   Across wiring name places   what leads from a bit of this side to the vertex of the other side that reads it: from the left side the places of the
--                               edges; from the right side nothing is needed, since the bit's number tells its left vertex
use Rattle.std.specs.Prelude.{ℕ, ◌/◌, ◌≤◌, ◌<◌, List, ◌≡◌, length}
use Rattle.bits.specs.Window.{at}
use Rattle.wiring.specs.Plan.{edge_of, left}
use Rattle.wiring.specs.declared.side.SideName.{SideName}

pub record PlacesNoted (wiring places : List ℕ) : Type 0 where
  pub sized : length wiring / 2 ≤ length places
  pub each : (i : ℕ) → i < length wiring / 2 → at places (edge_of wiring i) ≡ i

pub record Across (wiring : List ℕ) (name : SideName) (places : List ℕ) : Type 0 where
  pub noted : name ≡ left → PlacesNoted wiring places
