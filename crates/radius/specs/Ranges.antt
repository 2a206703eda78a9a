-- The margin's numbers where they are those of a plan: none of this is needed to believe a contract of a service.
--   distance_to p to          of a plan's nine numbers, the inner distance D of the side that is named
--   measures_by p             the measures that they give; dr, kl and kr do not enter
--   InRange p                nl and nr up to 2,048, dl up to 16, both D from 1 to 16, R up to 1,048,576: every accepted plan is in range
use Rattle.std.specs.Prelude.{ℕ, ◌*◌, ◌≤◌}
use Rattle.wiring.specs.declared.side.SideName.{SideName}
use Rattle.radius.specs.Margin.{Measures}
use Rattle.radius.specs.declared.numbers.PlanNumbers.{PlanNumbers}

abbrev pub distance_to : PlanNumbers → SideName → ℕ
distance_to p SideName.Left = p.left_distance
distance_to p SideName.Right = p.right_distance

abbrev pub measures_by : PlanNumbers → Measures
measures_by p = record { edges = p.nl * p.dl; n = p.nr; d = p.dl; distance = distance_to p; spread = p.spread }

pub record InRange (p : PlanNumbers) : Type 0 where
  pub nl-high : p.nl ≤ 2048
  pub nr-high : p.nr ≤ 2048
  pub dl-high : p.dl ≤ 16
  pub distance-low : (to : SideName) → 1 ≤ distance_to p to
  pub distance_high : (to : SideName) → distance_to p to ≤ 16
  pub spread-high : p.spread ≤ 1048576
