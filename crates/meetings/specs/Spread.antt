-- How evenly a wiring spreads the edges of its left vertices.
--   meeting sides u w         the paper's meeting number G of two left vertices
--   unevenness sides u        the sum over all left w, u included, of |nr·G - dl·dl|: n of the right side, d of the left
--   spread sides              the paper's spread R: the largest unevenness
--   size n S                  how many vertices below n are in the set S
--   edges_inside nl nr B S T   how many edges run between a set S of the nl left and a set T of the nr right vertices, with B u v of them between u and v
use Rattle.std.specs.Prelude.{ℕ, ◌*◌, Bool}
use Rattle.bits.specs.Sum.{sum, gap, flag}
use Rattle.bits.specs.Search.{largest}
use Rattle.wiring.specs.Plan.{Side, left, right}
use Rattle.wiring.specs.Wiring.{edges_between}
use Rattle.wiring.specs.declared.side.SideName.{SideName}

unfoldable pub meeting : (SideName → Side) → ℕ → ℕ → ℕ
unfolding sum edges_between
meeting sides u w = sum (sides right).n (λ v. edges_between sides u v * edges_between sides w v)

unfoldable pub unevenness : (SideName → Side) → ℕ → ℕ
unfolding sum gap meeting
unevenness sides u = sum (sides left).n (λ w. gap ((sides right).n * meeting sides u w) ((sides left).d * (sides left).d))

unfoldable pub spread : (SideName → Side) → ℕ
unfolding largest unevenness
spread sides = largest (sides left).n (λ u. unevenness sides u)

unfoldable pub size : ℕ → (ℕ → Bool) → ℕ
unfolding sum flag
size n S = sum n (λ i. flag (S i))

unfoldable pub edges_inside : ℕ → ℕ → (ℕ → ℕ → ℕ) → (ℕ → Bool) → (ℕ → Bool) → ℕ
unfolding sum flag
edges_inside nl nr B S T = sum nl (λ u. sum nr (λ v. flag (S u) * (flag (T v) * B u v)))
