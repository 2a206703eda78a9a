-- What the services of this layer answer.
--   piece_of plan v          the paper's piece of right vertex v, empty for a faulty plan or a v of nr or more
--   locate_answer plan block the locator: 1 to 10, 23, 11, 12, no value, or the side (0 left, 1 right) and the vertex
--   side_number name         the number by which a side is told
--   place_found found       a vertex that is found, as values: its side and number, no value where none is
--   locate_reply r           the paper's number, place and values for each case of the locator's answer in the code
use Rattle.std.specs.Prelude.{ℕ, ◌*◌, List, [], ◌∷◌, cond, take, drop, ltb, Option, Some, None, Result, Ok, Err}
use Rattle.inner_code.specs.Reply.{Reply, done, refused, and_then, if_done}
use Rattle.wiring.specs.Plan.{Plan, edge_count, right, side_of}
use Rattle.wiring.specs.Wiring.{plan_check}
use Rattle.wiring.specs.Block.{block_check, located}
use Rattle.wiring.specs.declared.side.SideName.{SideName}
use Rattle.inner_code.specs.Refusal.{number_of, place_of}
use Rattle.inner_code.specs.declared.refusal.Refusal.{Refusal}
use Rattle.wiring.specs.declared.side.Vertex.{Vertex}

unfoldable pub piece_of : Plan → ℕ → List ℕ
unfolding if_done plan_check
piece_of plan v =
    if_done (plan_check plan)
    (cond (ltb v (side_of plan right).n) (take (2 * (side_of plan right).d) (drop (2 * (v * (side_of plan right).d)) plan.wiring)) []) []

unfoldable pub locate_answer : Plan → List ℕ → Reply
unfolding and_then plan_check located
locate_answer plan block =
    and_then (plan_check plan) (and_then (block_check (edge_count plan) block) (done (located (side_of plan) block)))

abbrev pub side_number : SideName → ℕ
side_number SideName.Left = 0
side_number SideName.Right = 1

abbrev pub place_found : Option Vertex → List ℕ
place_found None = []
place_found (Some vertex) = side_number vertex.side ∷ vertex.v ∷ []

abbrev pub locate_reply : Result (Option Vertex) Refusal → Reply
locate_reply (Ok found) = done (place_found found)
locate_reply (Err r) = refused (number_of r) (place_of r)
