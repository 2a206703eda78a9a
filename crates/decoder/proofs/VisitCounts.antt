-- How many vertices are visited: the number as the code adds it up, one sweep after the other.
--   visits_in plan block i        how many vertices sweep i + 1 visits (specs Decode)
--   visits_made plan block made   how many are visited where so many sweeps are made (specs Decode)
--   added_visits visits i H more  the visits with those of sweep i + 1, where it is one of the H sweeps (specs Turns)
-- Laws are named `visits-` and then by the fact.
use Rattle.std.proofs.Common.{ℕ, ◌+◌, ◌-◌, ◌*◌, ◌≤◌, ◌<◌, min, List, ◌≡◌, sym, ap, ◌∙◌, le_trans, le_of_eq, arith, lt-ltb, le-ltb}
use native.Mathlib.Nat.{le_dest, min-eq_left, min-eq_right}
use native.Mathlib.Decide.{dec_le}
use Rattle.bits.specs.Sum.{sum, flag}
use Rattle.bits.proofs.Sums.{sum-zero, sum-one-more, sum-append, sum-none, sum_mono, sum-const, count-le, flag-false}
use Rattle.wiring.specs.Plan.{Plan, count_of, side_of}
use Rattle.wiring.specs.Block.{vertex_word, heard}
use Rattle.wiring.specs.declared.side.SideName.{SideName}
use Rattle.sweeps.specs.Sweep.{turn}
use Rattle.decoder.specs.Decode.{swept_block, visits_in, visits_made}
use Rattle.decoder.specs.Turns.{added_visits}
use Rattle.wiring.proofs.VertexWords.{heard-none}

module _ (plan : Plan) (block : List ℕ) where
  pub visits-zero : visits_made plan block 0 ≡ 0
  unfolding visits_made
  visits-zero = sum-zero (visits_in plan block)

  visits-one-more : (i : ℕ) → visits_made plan block (i + 1) ≡ visits_made plan block i + visits_in plan block i
  unfolding visits_made
  visits-one-more i = sum-one-more i (visits_in plan block)

  -- the first two sweeps go over their whole side
  pub visits-full : (i : ℕ) → i < 2 → visits_in plan block i ≡ count_of plan (turn i)
  unfolding visits_in
  visits-full i l = rw (lt-ltb i 2 l)

  pub visits-heard : (i : ℕ) → 2 ≤ i
      → visits_in plan block i
      ≡ sum (count_of plan (turn i)) (λ v. flag (heard (side_of plan (turn i)) (swept_block plan (i - 1) block) (swept_block plan i block) v))
  unfolding visits_in
  visits-heard i l = rw (le-ltb i 2 l)

  -- nobody hears of a sweep that changes nothing
  pub visits-none : (i : ℕ) → 2 ≤ i → swept_block plan (i - 1) block ≡ swept_block plan i block → visits_in plan block i ≡ 0
  visits-none i l same =
      visits-heard i l
      ∙ sum-none (count_of plan (turn i)) _ (λ v m.
      ap flag (heard-none (side_of plan (turn i)) _ _ v (ap (λ (b : List ℕ). vertex_word (side_of plan (turn i)) b v) same)) ∙ flag-false)

  -- one more sweep that is made, within the limit or not
  pub visits-added : (H i : ℕ) {visits more after : ℕ} → visits ≡ visits_made plan block (min i H) → more ≡ visits_in plan block i
      → after ≡ added_visits visits i H more → after ≡ visits_made plan block (min (i + 1) H)
  unfolding added_visits
  visits-added H i {visits} {more} so_far here e =
      elim (dec_le H i) [
        | yes past ↦
            let at-limit : min i H ≡ H = min-eq_right past in
            let next : min (i + 1) H ≡ H = min-eq_right (omega arith) in
            e ∙ rw (le-ltb i H past) (so_far ∙ ap (visits_made plan block) (at-limit ∙ sym next))
        | no within ↦
            let now-at : min i H ≡ i = min-eq_left (omega arith) in
            let next : min (i + 1) H ≡ i + 1 = min-eq_left (omega arith) in
            let before : visits ≡ visits_made plan block i = so_far ∙ ap (visits_made plan block) now-at in
            e ∙ rw (lt-ltb i H (omega arith)) (omega (arith, before, here, visits-one-more i) ∙ ap (visits_made plan block) (sym next))
      ]

  -- later sweeps visit nobody
  pub visits-still : (H i : ℕ) → ((j : ℕ) → i ≤ j → visits_in plan block j ≡ 0) → visits_made plan block (min i H) ≡ visits_made plan block H
  unfolding visits_made
  visits-still H i none =
      elim (dec_le H i) [
        | yes past ↦ ap (visits_made plan block) (min-eq_right past)
        | no within ↦
            let now-at : min i H ≡ i = min-eq_left (omega arith) in
            let below : i ≤ H = omega arith in
            let (m, is) = le_dest below in
            ap (visits_made plan block) now-at
            ∙ sym (ap (visits_made plan block) (sym is) ∙ sum-append i m (visits_in plan block)
            ∙ ap (λ (x : ℕ). visits_made plan block i + x) (sum-none m (λ j. visits_in plan block (i + j)) (λ j l. none (i + j) (omega arith)))
            ∙ omega arith)
      ]

  -- no sweep visits more vertices than its side has
  module _ (few : (name : SideName) → count_of plan name ≤ 2048) where
    pub visits-in-few : (i : ℕ) → visits_in plan block i ≤ 2048
    visits-in-few i = le_trans each (few (turn i))
      where
        each : visits_in plan block i ≤ count_of plan (turn i)
        each =
            elim (dec_le 2 i) [
              | yes later ↦ rw (visits-heard i later) (count-le (count_of plan (turn i)) (heard (side_of plan (turn i)) (swept_block plan (i - 1) block) (swept_block plan i block)))
              | no first ↦ le_of_eq (visits-full i (omega arith))
            ]

    pub visits-few : (made : ℕ) → visits_made plan block made ≤ made * 2048
    unfolding visits_made
    visits-few made = le_trans (sum_mono made _ (λ i. 2048) (λ i l. visits-in-few i)) (le_of_eq (sum-const made 2048))
