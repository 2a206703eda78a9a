-- Accepted wirings: every edge stands exactly once, so the entries of either side are all bits of a block, each at one place.
--   edge_of wiring i         entry i: the edge that stands there (specs Plan)
--   entry_check N edge i     entry i alone: its edge at or above N (9), else seen earlier (10) (specs Wiring)
--   entries_check N edge m   the refusal of the first faulty entry below m (specs Wiring)
--   count_faulty n           a number of vertices that no side has (specs Wiring)
--   wiring_check dl dr nl nr wiring  the wiring's place in the table: 7, 23, 8, 9, 10 (specs Wiring)
--   Fitted d n wiring       a side that fits a wiring (specs Checking)
--   Permuted N wiring       the entries of a wiring are the edges below N, each once (specs Checking)
--   Wired dl dr nl nr wiring  what an accepted wiring is (specs Checking)
--   Entries N edge m        the entries below m name edges below N, no edge twice
--   Whole N side            the entries of a side are the bits 0 .. N - 1, each once
--   Joined N sides          both sides have all N bits, the left one in their order
--   place_of N side e        the entry of a side at which bit e stands
-- Laws are named by their subject, then by the fact: `entry-` is about the test of one entry, `entries-` about that of all
-- entries below m, `edges-` about the number of edges, `count-` about a number of vertices, `wiring-` about the outcome of the whole check,
-- `wired` about a wiring that passes it, `fitted-` about a side of it, `place-` and `bit-` about a bit and its entry, `side-` about either side. At the end of a name, `-lt` and `-le`
-- are bounds, `-once` says that no two entries have one bit, `-passed` leads from a check to the facts and `-back` from the facts to the
-- check, `-onto` begins with every edge standing somewhere, `-tests` writes a check out.
use Rattle.std.proofs.Common.{ℕ, zero, suc, ◌+◌, ◌*◌, ◌≤◌, ◌<◌, true, false, not, ◌||◌, true≢false, List, [], ⊎_elim, ◌≡◌, refl, sym, ap}
use Rattle.std.proofs.Common.{◌∙◌, lt-suc_self, not-suc-le-zero, eq-or-lt_of_le, le_of_suc-le-suc, le_antisymm, ne_of_lt, mul-le-mul_left}
use Rattle.std.proofs.Common.{mul-le-mul_right, add-one, arith, ltb, leb, eqb, length, ltb-false, lt-ltb, le-ltb, leb-false, eqb-true}
use Rattle.std.proofs.Common.{eq-eqb, ne_eqb}
use mathlib.Core.Bool.{or-true}
use native.Mathlib.Nat.{le_step}
use native.Mathlib.Decide.{dec_le}
use borrow.Author.Tests.{lt-leb, eqb-false, not-false}
use Rattle.bits.proofs.Sums.{injective-onto}
use Rattle.bits.proofs.Tests.{or-neither}
use Rattle.inner_code.specs.Reply.{done, refused, refuse_if}
use Rattle.bits.specs.Search.{some_below, first_failing}
use Rattle.inner_code.proofs.Replies.{refuse-taken, refuse-passed, refuse-done, and_then-passed, and_then-refused, and_then-done}
use Rattle.inner_code.specs.Sheet.{degree}
use Rattle.wiring.specs.Plan.{Plan, Side, edge_count, edge_of, left, sheet_of, count_of, side_bit, side_of}
use Rattle.wiring.specs.Wiring.{count_faulty, entry_check, entries_check, wiring_check}
use Rattle.wiring.specs.Checking.{Fitted, Permuted, Wired, WiredPlan}
use Rattle.wiring.specs.declared.side.SideName.{SideName}
use lib.Arith.{digits_lt}
use Rattle.bits.proofs.Searches.{none_below, none-below-each, first-at, first-failed, first-le, first-all-each}

-- ---- the entries' check

pub record Entries (N : ℕ) (edge : ℕ → ℕ) (m : ℕ) : Type 0 where
  pub entry_lt : (i : ℕ) → i < m → edge i < N
  pub entry-once : (i j : ℕ) → i < m → j < m → edge i ≡ edge j → i ≡ j

entry-tests : (N : ℕ) (edge : ℕ → ℕ) (i : ℕ)
    → entry_check N edge i ≡ refuse_if (leb N (edge i)) 9 i (refuse_if (some_below i (λ j. eqb (edge j) (edge i))) 10 i (done []))
unfolding entry_check
entry-tests N edge i = refl

-- an entry passes exactly if its edge is below N and stands at no earlier entry
pub entry-passed : {values : List ℕ} (N : ℕ) (edge : ℕ → ℕ) (i : ℕ) → entry_check N edge i ≡ done values
    → (edge i < N) × ((j : ℕ) → j < i → edge j ≡ edge i → ⊥)
entry-passed {values} N edge i e =
    let (low, rest) = refuse-done _ 9 i _ values (sym (entry-tests N edge i) ∙ e) in
    let (fresh, end) = refuse-done _ 10 i _ values rest in
    (leb-false N (edge i) low, λ j l. eqb-false (edge j) (edge i) (none-below-each i _ fresh j l))

pub entry-back : (N : ℕ) (edge : ℕ → ℕ) (i : ℕ) → edge i < N → ((j : ℕ) → j < i → edge j ≡ edge i → ⊥) → entry_check N edge i ≡ done []
entry-back N edge i low fresh =
    entry-tests N edge i ∙ refuse-passed _ 9 i _ (lt-leb N (edge i) low)
    ∙ refuse-passed _ 10 i _ (none_below i _ (λ j l. ne_eqb (edge j) (edge i) (fresh j l)))

entries-each : {values : List ℕ} (N : ℕ) (edge : ℕ → ℕ) (m : ℕ) → entries_check N edge m ≡ done values → (i : ℕ) → i < m
    → (edge i < N) × ((j : ℕ) → j < i → edge j ≡ edge i → ⊥)
unfolding entries_check
entries-each {values} N edge zero e i l = absurd (not-suc-le-zero l)
entries-each {values} N edge (suc m) e i l =
    let ((passed, before), last) = and_then-done _ _ values e in
    ⊎_elim (λ (q : i ≡ m). rw q (entry-passed N edge m last)) (λ (k : i < m). entries-each {values = passed} N edge m before i k)
    (eq-or-lt_of_le (le_of_suc-le-suc l))

pub entries-passed : {values : List ℕ} (N : ℕ) (edge : ℕ → ℕ) (m : ℕ) → entries_check N edge m ≡ done values → Entries N edge m
entries-passed N edge m e =
    record {
      entry_lt = λ i l. (entries-each N edge m e i l).0;
      entry-once = λ i j k l q. le_antisymm (before i j k q) (before j i l (sym q));
    }
  where
    before : (i j : ℕ) → i < m → edge i ≡ edge j → i ≤ j
    before i j l q = elim (dec_le i j) [ yes h ↦ h | no h ↦ absurd ((entries-each N edge m e i l).1 j (omega arith) (sym q)) ]

pub entries-back : (N : ℕ) (edge : ℕ → ℕ) (m : ℕ) → Entries N edge m → entries_check N edge m ≡ done []
unfolding entries_check
entries-back N edge zero r = refl
entries-back N edge (suc m) r =
    and_then-passed _ _ []
    (entries-back N edge m
    (record { entry_lt = λ i l. r.entry_lt i (le_step l); entry-once = λ i j k l. r.entry-once i j (le_step k) (le_step l) }))
    ∙ entry-back N edge m (r.entry_lt m (lt-suc_self m)) (λ j l q. ne_of_lt l (r.entry-once j m (le_step l) (lt-suc_self m) q))

-- a loop that stops at entry i has the refusal of the whole
pub entries-refused : (N : ℕ) (edge : ℕ → ℕ) (m i a b : ℕ) → entries_check N edge i ≡ done [] → entry_check N edge i ≡ refused a b → i < m
    → entries_check N edge m ≡ refused a b
unfolding entries_check
entries-refused N edge zero i a b e f l = absurd (not-suc-le-zero l)
entries-refused N edge (suc m) i a b e f l =
    ⊎_elim (λ (q : i ≡ m). and_then-passed _ _ [] (rw q at e) ∙ rw q at f)
    (λ (k : i < m). and_then-refused _ _ a b (entries-refused N edge m i a b e f k)) (eq-or-lt_of_le (le_of_suc-le-suc l))

pub entries-one-more : (N : ℕ) (edge : ℕ → ℕ) (i : ℕ) → entries_check N edge i ≡ done [] → entry_check N edge i ≡ done []
    → entries_check N edge (i + 1) ≡ done []
unfolding entries_check
entries-one-more N edge i e f = rw add-one (and_then-passed _ _ [] e ∙ f)

-- where each of N edges stands at one of N entries, none stands at two and no other edge at any
pub entries-onto : (N : ℕ) (edge : ℕ → ℕ) → ((e : ℕ) → e < N → (i : ℕ) × (i < N) × (edge i ≡ e)) → Entries N edge N
entries-onto N edge onto =
    record { entry_lt = λ i l. (alone i l).0; entry-once = λ i j k l same. sym (alone i k).1 ∙ ap first same ∙ (alone j l).1 }
  where
    first : ℕ → ℕ
    first e = first_failing N (λ i. not (eqb (edge i) e))

    standing : (e : ℕ) → e < N → (first e < N) × (edge (first e) ≡ e)
    standing e l =
        let (i, k, q) = onto e l in
        let low : first e < N =
        ⊎_elim (λ (end : first e ≡ N). absurd (true≢false (sym (first-all-each N _ end i k) ∙ ap not (eq-eqb (edge i) e q))))
        (λ (h : first e < N). h) (eq-or-lt_of_le (first-le N _)) in
        (low, eqb-true _ _ (not-false _ (first-failed N _ low)))

    -- two edges have not the same first entry, so the first entries are all N: each entry is the first of its edge
    alone : (i : ℕ) → i < N → (edge i < N) × (first (edge i) ≡ i)
    alone i l =
        let apart : (a b : ℕ) → a < N → b < N → first a ≡ first b → a ≡ b =
        λ a b k m q. sym (standing a k).1 ∙ ap edge q ∙ (standing b m).1 in
        let (e, k, q) = injective-onto N first (λ a k. (standing a k).0) apart i l in
        let is : edge i ≡ e = ap edge (sym q) ∙ (standing e k).1 in
        (rw is k, ap first is ∙ q)

-- ---- the wiring's check

pub edges_le : (n d : ℕ) → n ≤ 2048 → d ≤ 16 → n * d ≤ 32768
edges_le n d few narrow = omega (arith, mul-le-mul_right d few, mul-le-mul_left 2048 narrow)

wiring-tests : (dl dr nl nr : ℕ) (wiring : List ℕ) → wiring_check dl dr nl nr wiring
    ≡ refuse_if (count_faulty nl || count_faulty nr) 7 0
    (refuse_if (not (eqb (nl * dl) (nr * dr))) 23 0
    (refuse_if (not (eqb (length wiring) (2 * (nl * dl)))) 8 0 (entries_check (nl * dl) (edge_of wiring) (nl * dl))))
unfolding wiring_check
wiring-tests dl dr nl nr wiring = refl

pub count_low : (n : ℕ) → n < 1 → true ≡ count_faulty n
unfolding count_faulty
count_low n few = rw (lt-ltb n 1 few)

-- a count that is not too low is faulty where it is too high
pub count-high : (n : ℕ) → 1 ≤ n → ltb 2048 n ≡ count_faulty n
unfolding count_faulty
count-high n low = rw (le-ltb n 1 low)

pub count-range : (n : ℕ) → count_faulty n ≡ false → (1 ≤ n) × (n ≤ 2048)
unfolding count_faulty
count-range n e = let (low, high) = or-neither (ltb n 1) (ltb 2048 n) e in (ltb-false n 1 low, ltb-false 2048 n high)

count-back : (n : ℕ) → 1 ≤ n → n ≤ 2048 → count_faulty n ≡ false
unfolding count_faulty
count-back n low high = rw (le-ltb n 1 low) (le-ltb 2048 n high)

-- the outcome of each test in turn
module _ (dl dr nl nr : ℕ) (wiring : List ℕ) where
  pub wiring-left-count : count_faulty nl ≡ true → wiring_check dl dr nl nr wiring ≡ refused 7 0
  wiring-left-count e = wiring-tests dl dr nl nr wiring ∙ refuse-taken _ 7 0 _ (rw e)

  pub wiring-right-count : count_faulty nr ≡ true → wiring_check dl dr nl nr wiring ≡ refused 7 0
  wiring-right-count e = wiring-tests dl dr nl nr wiring ∙ refuse-taken _ 7 0 _ (rw e (or-true (count_faulty nl)))

  module _ (counted-left : count_faulty nl ≡ false) (counted-right : count_faulty nr ≡ false) where
    past-counts : wiring_check dl dr nl nr wiring
        ≡ refuse_if (not (eqb (nl * dl) (nr * dr))) 23 0
        (refuse_if (not (eqb (length wiring) (2 * (nl * dl)))) 8 0 (entries_check (nl * dl) (edge_of wiring) (nl * dl)))
    past-counts = wiring-tests dl dr nl nr wiring ∙ refuse-passed _ 7 0 _ (rw (counted-left, counted-right))

    pub wiring-differing : (nl * dl ≡ nr * dr → ⊥) → wiring_check dl dr nl nr wiring ≡ refused 23 0
    wiring-differing other = past-counts ∙ refuse-taken _ 23 0 _ (ap not (ne_eqb _ _ other))

    module _ (even : nl * dl ≡ nr * dr) where
      past-edges : wiring_check dl dr nl nr wiring
          ≡ refuse_if (not (eqb (length wiring) (2 * (nl * dl)))) 8 0 (entries_check (nl * dl) (edge_of wiring) (nl * dl))
      past-edges = past-counts ∙ refuse-passed _ 23 0 _ (ap not (eq-eqb _ _ even))

      pub wiring-unsized : (length wiring ≡ 2 * (nl * dl) → ⊥) → wiring_check dl dr nl nr wiring ≡ refused 8 0
      wiring-unsized other = past-edges ∙ refuse-taken _ 8 0 _ (ap not (ne_eqb _ _ other))

      pub wiring-entries : length wiring ≡ 2 * (nl * dl) → wiring_check dl dr nl nr wiring ≡ entries_check (nl * dl) (edge_of wiring) (nl * dl)
      wiring-entries fits = past-edges ∙ refuse-passed _ 8 0 _ (ap not (eq-eqb _ _ fits))

-- a degree of a sound sheet
abbrev pub Degree : ℕ → Type 0
Degree d = (1 ≤ d) × (d ≤ 16)

pub wired : {values : List ℕ} (dl dr nl nr : ℕ) (wiring : List ℕ) → Degree dl → Degree dr → wiring_check dl dr nl nr wiring ≡ done values
    → Wired dl dr nl nr wiring
wired {values} dl dr nl nr wiring left-degree right-degree e =
    let (counted, rest) = refuse-done _ 7 0 _ values (sym (wiring-tests dl dr nl nr wiring) ∙ e) in
    let (left-count, right-count) = or-neither (count_faulty nl) (count_faulty nr) counted in
    let (same, last) = refuse-done _ 23 0 _ values rest in
    let (fits, entries) = refuse-done _ 8 0 _ values last in
    let even : nl * dl ≡ nr * dr = eqb-true _ _ (not-false _ same) in
    let sized : length wiring ≡ 2 * (nl * dl) = eqb-true _ _ (not-false _ fits) in
    let r = entries-passed (nl * dl) (edge_of wiring) (nl * dl) entries in
    record {
      left-fits = record {
        d-low = left-degree.0;
        d-high = left-degree.1;
        n-low = (count-range nl left-count).0;
        n-high = (count-range nl left-count).1;
        sized = sized;
      };
      right-fits = record {
        d-low = right-degree.0;
        d-high = right-degree.1;
        n-low = (count-range nr right-count).0;
        n-high = (count-range nr right-count).1;
        sized = sized ∙ ap (λ (m : ℕ). 2 * m) even;
      };
      permuted = record { edge-lt = r.entry_lt; edge-once = r.entry-once };
    }

-- both sides have as many entries
pub wired-even : {dl dr nl nr : ℕ} {wiring : List ℕ} → Wired dl dr nl nr wiring → nl * dl ≡ nr * dr
wired-even w = omega (arith, w.left-fits.sized, w.right-fits.sized)

pub wired-back : (dl dr nl nr : ℕ) (wiring : List ℕ) → Wired dl dr nl nr wiring → wiring_check dl dr nl nr wiring ≡ done []
wired-back dl dr nl nr wiring w =
    let l = w.left-fits in
    let r = w.right-fits in
    wiring-entries dl dr nl nr wiring (count-back nl l.n-low l.n-high) (count-back nr r.n-low r.n-high) (wired-even w) l.sized
    ∙ entries-back (nl * dl) (edge_of wiring) (nl * dl) (record { entry_lt = w.permuted.edge-lt; entry-once = w.permuted.edge-once })

-- the wiring holds all entries of a vertex
pub fitted-vertex : {d n : ℕ} {wiring : List ℕ} → Fitted d n wiring → (v : ℕ) → v < n → 2 * (v * d + d) ≤ length wiring
fitted-vertex {d} f v l = omega (arith, f.sized, mul-le-mul_right d l)

pub fitted-edges : {d n : ℕ} {wiring : List ℕ} → Fitted d n wiring → n * d ≤ 32768
fitted-edges f = edges_le _ _ f.n-high f.d-high

-- ---- the sides of an accepted plan

pub side-fits : (plan : Plan) → WiredPlan plan → (name : SideName) → Fitted (degree (sheet_of plan name)) (count_of plan name) plan.wiring
side-fits plan w SideName.Left = w.left-fits
side-fits plan w SideName.Right = w.right-fits

-- the entries of either side are the edges of the plan
pub side-edges : (plan : Plan) → WiredPlan plan → (name : SideName) → count_of plan name * degree (sheet_of plan name) ≡ edge_count plan
side-edges plan w SideName.Left = refl
side-edges plan w SideName.Right = sym (wired-even w)

-- ---- sides whose entries are all bits

pub record Whole (N : ℕ) (side : Side) : Type 0 where
  pub degree-pos : 0 < side.d
  pub entries : side.n * side.d ≡ N
  pub bit-lt : (i : ℕ) → i < N → side.bit i < N
  pub bit-once : (i j : ℕ) → i < N → j < N → side.bit i ≡ side.bit j → i ≡ j

pub record Joined (N : ℕ) (sides : SideName → Side) : Type 0 where
  pub whole : (name : SideName) → Whole N (sides name)
  pub in_order : (i : ℕ) → (sides left).bit i ≡ i

unfoldable pub place_of : ℕ → Side → ℕ → ℕ
unfolding first_failing
place_of N side e = first_failing N (λ i. not (eqb (side.bit i) e))

module _ {N : ℕ} {side : Side} (w : Whole N side) where
  pub place-bit : (i : ℕ) → i < N → place_of N side (side.bit i) ≡ i
  unfolding place_of
  place-bit i l =
      first-at N _ i l
      (λ j k. ap not (ne_eqb (side.bit j) (side.bit i) (λ q. ne_of_lt k (w.bit-once j i (omega arith) l q))))
      (ap not (eq-eqb (side.bit i) _ refl))

  -- N entries hold N bits, none twice, so every bit stands at one
  placed : (e : ℕ) → e < N → (place_of N side e < N) × (side.bit (place_of N side e) ≡ e)
  placed e l =
      let (i, k, q) = injective-onto N side.bit w.bit-lt w.bit-once e l in
      let at_i : place_of N side e ≡ i = ap (place_of N side) (sym q) ∙ place-bit i k in
      rw at_i (k, q)

  pub place-lt : (e : ℕ) → e < N → place_of N side e < N
  place-lt e l = (placed e l).0

  pub bit-place : (e : ℕ) → e < N → side.bit (place_of N side e) ≡ e
  bit-place e l = (placed e l).1

  -- entry j of vertex v is one of the N
  pub entry_lt : (v j : ℕ) → v < side.n → j < side.d → v * side.d + j < N
  entry_lt v j l k = rw (← w.entries) (digits_lt l k)

-- ---- the bits of the sides of an accepted wiring

pub side-lt : {N : ℕ} {wiring : List ℕ} → Permuted N wiring → (name : SideName) (i : ℕ) → i < N → side_bit name wiring i < N
unfolding side_bit
side-lt p SideName.Left i l = l
side-lt p SideName.Right i l = p.edge-lt i l

pub side-once : {N : ℕ} {wiring : List ℕ} → Permuted N wiring → (name : SideName) (i j : ℕ) → i < N → j < N
    → side_bit name wiring i ≡ side_bit name wiring j → i ≡ j
unfolding side_bit
side-once p SideName.Left i j k l q = q
side-once p SideName.Right i j k l q = p.edge-once i j k l q

pub wired-joined : (plan : Plan) → WiredPlan plan → Joined (edge_count plan) (side_of plan)
unfolding side_bit
wired-joined plan w =
    record {
      whole = λ name. record {
        degree-pos = (side-fits plan w name).d-low;
        entries = side-edges plan w name;
        bit-lt = side-lt w.permuted name;
        bit-once = side-once w.permuted name;
      };
      in_order = λ i. refl;
    }
