-- How the code measures the spread: none of this is needed to believe a contract of a service.
-- `left i` is the left vertex of the edge at entry i, `right e` the right vertex of edge e. Left vertex u has the dl edges from u·dl on,
-- right vertex v the dr entries from v·dr on.
--   Ends nl nr dl dr lefts rights  what the walks need to know of those lists: a left vertex, below nl, for each of nr·dr entries, and a
--                                 right vertex, below nr, for each of nl·dl edges
--   arrivals left from m w        how many of the m entries from `from` on have the left vertex w
--   walked left right dr base m w  how many walks end at w that go by one of the m edges from `base` on, and then by any edge of the
--                                 right vertex met
--   Fresh n counts                the counts of n vertices are 0
--   Countable                     what the count of d entries needs to know
--   Counted more before after     what the count, and the walk by dl edges, do
--   Summable nl nr counts         what the sum over the counts needs to know
--   uneven_by count n d m          the sum over the first m vertices of |n·count - d·d|
--   walked_uneven, largest_walked   that sum over all nl vertices after the walk of u, and the largest for u below m
use Rattle.std.specs.Prelude.{ℕ, ◌+◌, ◌*◌, ◌≤◌, ◌<◌, ◌≡◌, List, eqb, length}
use Rattle.bits.specs.Window.{at}
use Rattle.bits.specs.Sum.{sum, gap, flag}
use Rattle.bits.specs.Search.{largest}

pub record Ends (nl nr dl dr : ℕ) (lefts rights : List ℕ) : Type 0 where
  pub nl-high : nl ≤ 2048
  pub nr-high : nr ≤ 2048
  pub dl-high : dl ≤ 16
  pub dr-high : dr ≤ 16
  pub lefts-sized : nr * dr ≤ length lefts
  pub rights-sized : nl * dl ≤ length rights
  pub left_lt : (i : ℕ) → i < nr * dr → at lefts i < nl
  pub right_lt : (e : ℕ) → e < nl * dl → at rights e < nr

unfoldable pub arrivals : (ℕ → ℕ) → ℕ → ℕ → ℕ → ℕ
unfolding sum flag
arrivals left from m w = sum m (λ i. flag (eqb (left (from + i)) w))

unfoldable pub walked : (ℕ → ℕ) → (ℕ → ℕ) → ℕ → ℕ → ℕ → ℕ → ℕ
unfolding sum arrivals
walked left right dr base m w = sum m (λ j. arrivals left (right (base + j) * dr) dr w)

pub record Fresh (n : ℕ) (counts : List ℕ) : Type 0 where
  pub sized : n ≤ length counts
  pub count_none : (w : ℕ) → w < n → at counts w ≡ 0

pub record Countable (lefts : List ℕ) (from d : ℕ) (counts : List ℕ) : Type 0 where
  pub d-high : d ≤ 16
  pub inside : from + d ≤ length lefts
  pub left_lt : (i : ℕ) → i < d → at lefts (from + i) < length counts
  pub count_low : (i : ℕ) → i < d → at counts (at lefts (from + i)) ≤ 256

-- `more w` is put on the count of each w
pub record Counted (more : ℕ → ℕ) (before after : List ℕ) : Type 0 where
  pub count-is : (w : ℕ) → w < length before → at after w ≡ at before w + more w

pub record Summable (nl nr : ℕ) (counts : List ℕ) : Type 0 where
  pub nl-high : nl ≤ 2048
  pub nr-high : nr ≤ 2048
  pub sized : nl ≤ length counts
  pub count_low : (w : ℕ) → w < nl → at counts w ≤ 256

unfoldable pub uneven_by : (ℕ → ℕ) → ℕ → ℕ → ℕ → ℕ
unfolding sum gap
uneven_by count n d m = sum m (λ w. gap (n * count w) (d * d))

unfoldable pub walked_uneven : (ℕ → ℕ) → (ℕ → ℕ) → ℕ → ℕ → ℕ → ℕ → ℕ → ℕ
unfolding uneven_by walked
walked_uneven left right nl nr dl dr u = uneven_by (walked left right dr (u * dl) dl) nr dl nl

unfoldable pub largest_walked : (ℕ → ℕ) → (ℕ → ℕ) → ℕ → ℕ → ℕ → ℕ → ℕ → ℕ
unfolding largest walked_uneven
largest_walked left right nl nr dl dr m = largest m (walked_uneven left right nl nr dl dr)
