-- The measure of the spread: the walk of a left vertex u counts, at each w, the meeting number of u and w.
-- The notions, of specs/Walk.antt but for Walkable:
--   Noted                          the lists of the left vertex of each entry and of the right vertex of each edge (wiring specs Ends)
--   Ends                           what the walk needs to know of those lists
--   arrivals, walked               how many of some entries, and of some walks of two edges, end at a vertex
--   Fresh, Countable, Counted, Summable  the counts before, during and after a walk
--   Walkable                       what the walk by dl edges needs to know
--   uneven_by, walked_uneven, largest_walked       the sum over the counts, after the walk of u, and the largest of these
-- Laws are named by their subject, then by the fact: `-none` and `-one-more` are the start of a loop and one turn of it, `-le` and
-- `-low` are bounds, `-walkable`, `-countable` and `-summable` lead to what the next step needs to know. The theorem is walked-spread: what
-- the walks give is the spread of specs/Spread.antt.
use Rattle.std.proofs.Common.{ℕ, zero, suc, ◌+◌, ◌*◌, ◌-◌, ◌≤◌, ◌<◌, max, List, ◌++◌, ◌≡◌, refl, sym, ap, ap₂, ◌∙◌, mul-le-mul}
use Rattle.std.proofs.Common.{mul-le-mul_left, mul-le-mul_right, le_refl, add-one, arith, eqb, length, set, get_or, length-append}
use Rattle.std.proofs.Common.{replicate, take, drop}
use native.Mathlib.Nat.{le_step}
use native.Mathlib.Decide.{ℕ_discrete}
use lib.ListN.{get_or-append, length-replicate, get_or-replicate}
use Rattle.std.proofs.lemmas.List.{length-take, length-drop, get_or-take, get_or-drop}
use Rattle.bits.specs.Window.{at}
use Rattle.bits.specs.Sum.{gap, flag}
use Rattle.bits.proofs.Sums.{count-le, flag-apart, flag-equal, sum-const, sum-ext, sum_mono, sum-one-more}
use Rattle.bits.specs.Search.{largest}
use Rattle.inner_code.specs.Sheet.{degree}
use Rattle.wiring.specs.Plan.{Plan, edge_count, edge_of, right, side_bit, side_of}
use Rattle.wiring.specs.Wiring.{edges_between}
use Rattle.wiring.specs.Checking.{WiredPlan}
use Rattle.wiring.specs.Ends.{Noted}
use Rattle.wiring.proofs.Permutation.{entry_lt, wired-even, wired-joined}
use Rattle.wiring.proofs.Edges.{vertex_of, vertex-of-lt, edges-from}
use Rattle.bits.proofs.Lists.{at_set_same, at_set_other}
use Rattle.wiring.proofs.EdgeEnds.{noted-right, noted-ends}
use Rattle.meetings.specs.Spread.{meeting, unevenness, spread}
use Rattle.meetings.specs.Walk.{Ends, arrivals, walked, Fresh, Countable, Counted, Summable, uneven_by, walked_uneven, largest_walked}
use lib.Arith.{digits_lt}

-- ---- d elements of a list, from one on

module _ (l : List ℕ) (from d : ℕ) where
  pub length-part : from + d ≤ length l → length (take (from + d - from) (drop from l)) ≡ d
  length-part room = omega (arith, length-take (from + d - from) (drop from l), length-drop from l)

  pub part-at : (i : ℕ) → i < d → get_or (take (from + d - from) (drop from l)) i 0 ≡ at l (from + i)
  unfolding at
  part-at i h = get_or-take (from + d - from) (drop from l) i 0 (omega arith) ∙ get_or-drop from l i 0

-- ---- the counts

pub degrees-le : (d e : ℕ) → d ≤ 16 → e ≤ 16 → d * e ≤ 256
degrees-le d e few few' = omega (arith, mul-le-mul few few')

arrivals-none : (left : ℕ → ℕ) (from w : ℕ) → arrivals left from 0 w ≡ 0
unfolding arrivals
arrivals-none left from w = refl

arrivals-one-more : (left : ℕ → ℕ) (from m w : ℕ) → arrivals left from (m + 1) w ≡ arrivals left from m w + flag (eqb (left (from + m)) w)
unfolding arrivals
arrivals-one-more left from m w = sum-one-more m _

arrivals-le : (left : ℕ → ℕ) (from m w : ℕ) → arrivals left from m w ≤ m
unfolding arrivals
arrivals-le left from m w = count-le m (λ i. eqb (left (from + i)) w)

walked_none : (left right : ℕ → ℕ) (d base w : ℕ) → walked left right d base 0 w ≡ 0
unfolding walked
walked_none left _ d base w = refl

walked-one-more : (left right : ℕ → ℕ) (d base m w : ℕ)
    → walked left right d base (m + 1) w ≡ walked left right d base m w + arrivals left (right (base + m) * d) d w
unfolding walked
walked-one-more left _ d base m w = sum-one-more m _

walked-le : (left right : ℕ → ℕ) (d base m w : ℕ) → walked left right d base m w ≤ m * d
unfolding walked
walked-le left right d base m w =
    omega (arith, sum-const m d, sum_mono m (λ j. arrivals left (right (base + j) * d) d w) (λ j. d) (λ j l. arrivals-le left _ d w))

pub counted_none : (left : ℕ → ℕ) (from : ℕ) (counts : List ℕ) → Counted (arrivals left from 0) counts counts
counted_none left from counts = record { count-is = λ w l. omega (arith, arrivals-none left from w) }

-- one more entry: the count at its left vertex rises, the others stay
pub counted-one-more : (left : ℕ → ℕ) (from m : ℕ) (before counts : List ℕ) → length counts ≡ length before → left (from + m) < length before
    → Counted (arrivals left from m) before counts
    → Counted (arrivals left from (m + 1)) before (set counts (left (from + m)) (at counts (left (from + m)) + 1))
counted-one-more left from m before counts sized inside r =
    let met : ℕ = left (from + m) in
    record {
      count-is = λ w l. elim (ℕ_discrete w met) [
        | yes e ↦
            rw e (at_set_same counts met _ (omega arith)
            ∙ omega (arith, r.count-is met inside, arrivals-one-more left from m met, flag-equal met met refl))
        | no h ↦
            at_set_other counts met w _ h
            ∙ omega (arith, r.count-is w l, arrivals-one-more left from m w, flag-apart met w (λ e. h (sym e)))
      ];
    }

-- before it rises, a count is at most what it was and the entries counted so far
pub counted-low : (lefts : List ℕ) (from d m : ℕ) (before counts : List ℕ) → Countable lefts from d before → m < d
    → Counted (arrivals (at lefts) from m) before counts → at counts (at lefts (from + m)) < 512
counted-low lefts from d m before counts fit l r =
    omega (arith, fit.d-high, fit.count_low m l, r.count-is _ (fit.left_lt m l), arrivals-le (at lefts) from m (at lefts (from + m)))

pub fresh-filled : (n : ℕ) (zeros rest : List ℕ) → zeros ≡ replicate n 0 → Fresh n (zeros ++ rest)
unfolding at
fresh-filled n zeros rest e =
    let sized : length zeros ≡ n = rw e (length-replicate n 0) in
    record {
      sized = rw (length-append zeros rest) (omega arith);
      count_none = λ w l. get_or-append zeros rest 0 w (omega arith) ∙ rw e (get_or-replicate n w 0 0 l);
    }

-- ---- the sum over the counts

pub uneven-none : (count : ℕ → ℕ) (n d : ℕ) → uneven_by count n d 0 ≡ 0
unfolding uneven_by
uneven-none count n d = refl

pub uneven-one-more : (count : ℕ → ℕ) (n d m : ℕ) → uneven_by count n d (m + 1) ≡ uneven_by count n d m + gap (n * count m) (d * d)
unfolding uneven_by
uneven-one-more count n d m = sum-one-more m _

uneven-ext : (count other : ℕ → ℕ) (n d m : ℕ) → ((w : ℕ) → w < m → count w ≡ other w) → uneven_by count n d m ≡ uneven_by other n d m
unfolding uneven_by
uneven-ext count other n d m same = sum-ext m _ _ (λ w l. ap (λ (x : ℕ). gap (n * x) (d * d)) (same w l))

module _ {nl nr : ℕ} {counts : List ℕ} (s : Summable nl nr counts) where
  pub met-le : (w : ℕ) → w < nl → nr * at counts w ≤ 524288
  met-le w l = omega (arith, mul-le-mul_left nr (s.count_low w l), s.nr-high)

  uneven-each : (d : ℕ) → d ≤ 16 → (w : ℕ) → w < nl → gap (nr * at counts w) (d * d) ≤ 524288
  unfolding gap
  uneven-each d few w l = omega (arith, met-le w l, degrees-le d d few few)

  pub uneven-le : (d : ℕ) → d ≤ 16 → (m : ℕ) → m ≤ nl → uneven_by (at counts) nr d m ≤ m * 524288
  unfolding uneven_by
  uneven-le d few m h =
      omega (arith, sum-const m 524288, sum_mono m (λ w. gap (nr * at counts w) (d * d)) (λ w. 524288) (λ w l. uneven-each d few w (omega arith)))

-- ---- the walk

pub record Walkable (lefts rights : List ℕ) (base dl dr : ℕ) (counts : List ℕ) : Type 0 where
  pub dl-high : dl ≤ 16
  pub dr-high : dr ≤ 16
  pub inside : base + dl ≤ length rights
  pub entries-inside : (j : ℕ) → j < dl → at rights (base + j) * dr + dr ≤ length lefts
  pub left_lt : (j i : ℕ) → j < dl → i < dr → at lefts (at rights (base + j) * dr + i) < length counts
  pub count_none : (j i : ℕ) → j < dl → i < dr → at counts (at lefts (at rights (base + j) * dr + i)) ≡ 0

module _ (lefts rights : List ℕ) (base dr : ℕ) where
  pub walk_none : (counts : List ℕ) → Counted (walked (at lefts) (at rights) dr base 0) counts counts
  walk_none counts = record { count-is = λ w l. omega (arith, walked_none (at lefts) (at rights) dr base w) }

  pub walk-one-more : (m : ℕ) (start before counts : List ℕ) → length before ≡ length start
      → Counted (walked (at lefts) (at rights) dr base m) start before
      → Counted (arrivals (at lefts) (at rights (base + m) * dr) dr) before counts
      → Counted (walked (at lefts) (at rights) dr base (m + 1)) start counts
  walk-one-more m start before counts sized r s =
      record { count-is = λ w l. omega (arith, r.count-is w l, s.count-is w (omega arith), walked-one-more (at lefts) (at rights) dr base m w) }

  -- the next right vertex met has its entries in the list, and their counts have room
  pub walk-countable : (dl m : ℕ) (start counts : List ℕ) → Walkable lefts rights base dl dr start → m < dl → length counts ≡ length start
      → Counted (walked (at lefts) (at rights) dr base m) start counts
      → Countable lefts (at rights (base + m) * dr) dr counts
  walk-countable dl m start counts fit l sized r =
      record {
        d-high = fit.dr-high;
        inside = fit.entries-inside m l;
        left_lt = λ i h. omega (arith, fit.left_lt m i l h);
        count_low = λ i h.
            let w : ℕ = at lefts (at rights (base + m) * dr + i) in
            omega (
              arith,
              r.count-is w (fit.left_lt m i l h),
              fit.count_none m i l h,
              walked-le (at lefts) (at rights) dr base m w,
              mul-le-mul_right dr l,
              degrees-le dl dr fit.dl-high fit.dr-high,
            );
      }

module _ {nl nr dl dr : ℕ} {lefts rights : List ℕ} (ends : Ends nl nr dl dr lefts rights) (u : ℕ) (l : u < nl) where
  pub ends-room : u * dl + dl ≤ length rights
  ends-room = omega (arith, ends.rights-sized, mul-le-mul_right dl l)

  module _ (counts : List ℕ) (fresh : Fresh nl counts) where
    pub ends-walkable : Walkable lefts rights (u * dl) dl dr counts
    ends-walkable =
        let right_lt : (j : ℕ) → j < dl → at rights (u * dl + j) < nr = λ j h. ends.right_lt _ (digits_lt l h) in
        let left_lt : (j i : ℕ) → j < dl → i < dr → at lefts (at rights (u * dl + j) * dr + i) < nl =
        λ j i h k. ends.left_lt _ (digits_lt (right_lt j h) k) in
        record {
          dl-high = ends.dl-high;
          dr-high = ends.dr-high;
          inside = ends-room;
          entries-inside = λ j h. omega (arith, ends.lefts-sized, mul-le-mul_right dr (right_lt j h));
          left_lt = λ j i h k. omega (arith, left_lt j i h k, fresh.sized);
          count_none = λ j i h k. fresh.count_none _ (left_lt j i h k);
        }

    module _ (after : List ℕ) (r : Counted (walked (at lefts) (at rights) dr (u * dl) dl) counts after) where
      -- the counts that the walk of u leaves
      walked-count : (w : ℕ) → w < nl → at after w ≡ walked (at lefts) (at rights) dr (u * dl) dl w
      walked-count w h = omega (arith, r.count-is w (omega (arith, fresh.sized)), fresh.count_none w h)

      pub walked-summable : nl ≤ length after → Summable nl nr after
      walked-summable room =
          record {
            nl-high = ends.nl-high;
            nr-high = ends.nr-high;
            sized = room;
            count_low = λ w h.
                omega (arith, walked-count w h, walked-le (at lefts) (at rights) dr (u * dl) dl w, degrees-le dl dr ends.dl-high ends.dr-high);
          }

      pub walked-uneven : uneven_by (at after) nr dl nl ≡ walked_uneven (at lefts) (at rights) nl nr dl dr u
      unfolding walked_uneven
      walked-uneven = uneven-ext (at after) _ nr dl nl walked-count

-- ---- the largest sum

largest-ext : (m : ℕ) (f g : ℕ → ℕ) → ((u : ℕ) → u < m → f u ≡ g u) → largest m f ≡ largest m g
unfolding largest
largest-ext zero f g same = refl
largest-ext (suc m) f g same = ap₂ max (largest-ext m f g (λ u l. same u (le_step l))) (same m (le_refl (suc m)))

module _ (left right : ℕ → ℕ) (nl nr dl dr : ℕ) where
  pub largest-none : largest_walked left right nl nr dl dr 0 ≡ 0
  unfolding largest_walked largest
  largest-none = refl

  pub largest-one-more : (u : ℕ) → largest_walked left right nl nr dl dr (u + 1) ≡ max (largest_walked left right nl nr dl dr u) (walked_uneven left right nl nr dl dr u)
  unfolding largest_walked largest
  largest-one-more u = rw add-one

-- ---- the spread

module _ (plan : Plan) (w : WiredPlan plan) {lefts rights : List ℕ}
    (noted : Noted (edge_of plan.wiring) (degree plan.left_sheet) (degree plan.right_sheet) (edge_count plan) lefts rights) where
  abbrev dl : ℕ
  dl = degree plan.left_sheet

  abbrev dr : ℕ
  dr = degree plan.right_sheet

  pub noted-walk : edge_count plan ≤ length lefts → edge_count plan ≤ length rights → Ends plan.nl plan.nr dl dr lefts rights
  noted-walk room room-right =
      let even = wired-even w in
      record {
        nl-high = w.left-fits.n-high;
        nr-high = w.right-fits.n-high;
        dl-high = w.left-fits.d-high;
        dr-high = w.right-fits.d-high;
        lefts-sized = rw (← even) room;
        rights-sized = room-right;
        left_lt = λ i l. (noted-ends w noted i (rw even l)).0;
        right_lt = λ e l. (noted-ends w noted e l).1;
      }

  -- the walk goes by edge u·dl + j to the right vertex of that edge, and from there to w as often as edges run between them
  walked-meeting : (u : ℕ) → u < plan.nl → (x : ℕ) → walked (at lefts) (at rights) dr (u * dl) dl x ≡ meeting (side_of plan) u x
  unfolding walked arrivals meeting edges_between side_bit
  walked-meeting u l x =
      let g = wired-joined plan w in
      let right_of : (e : ℕ) → e < edge_count plan → at rights e ≡ vertex_of (edge_count plan) (side_of plan right) e =
      noted-right (g.whole right) noted in
      sum-ext dl _ (λ j. edges_between (side_of plan) x (vertex_of (edge_count plan) (side_of plan right) (u * dl + j)))
      (λ j h. rw (right_of (u * dl + j) (digits_lt l h))
      (sum-ext dr _ _ (λ i k. ap (λ (y : ℕ). flag (eqb y x))
      (noted.left_is _ (entry_lt (g.whole right) _ _ (vertex-of-lt (g.whole right) _ (digits_lt l h)) k)))))
      ∙ sym (edges-from g (edges_between (side_of plan) x) u l)

  pub walked-spread : (r : ℕ) → r ≡ largest_walked (at lefts) (at rights) plan.nl plan.nr dl dr plan.nl → r ≡ spread (side_of plan)
  unfolding largest_walked walked_uneven uneven_by spread unevenness
  walked-spread r e =
      e ∙ largest-ext plan.nl _ _ (λ u l. uneven-ext _ (meeting (side_of plan) u) plan.nr dl plan.nl (λ x k. walked-meeting u l x))
