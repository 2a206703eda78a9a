-- How many vertices the decoder visits where no bit is lost and the flips are covered: a vertex that a sweep visits for news has a bit that
-- the sweep before changed, which was wrong before that sweep or is wrong after it, and the chain of b bounds both.
-- The notions, of specs/Demand.antt, specs/Margin.antt and decoder specs/Decode.antt:
--   heard side before after v    vertex v of a side has a bit in which two blocks differ
--   visits_in plan block i        how many vertices sweep i + 1 visits
--   visits_made plan block made   how many are visited where so many sweeps are made
--   bound m F i                  the paper's b after sweep i + 1
--   visits_bound plan F q         nl + nr and what the b allow for the sweeps from 3 to q
-- and, of the proofs,
--   Covered plan F q             the plan is accepted, F flips are covered, and q sweeps are named for them (Answers)
--   some_wrong side wrong v       some bit of vertex v is wrong (Convergence)
--   leaves sides wrong i v       sweep i + 1 leaves a wrong bit at vertex v of its side (Convergence)
--   differs_at a b i              bit i of two blocks differs (report specs Report)
-- Names: the subject first (heard, leaves, visits), then the fact. The theorems are visits-bounded, visits-limited for
-- the sweeps of a limit H, and visits-promised about a decoder call.
use Rattle.std.proofs.Common.{ℕ, suc, ◌+◌, ◌-◌, ◌*◌, ◌≤◌, ◌<◌, min, zero-le, Bool, true, false, not, List, [], ◌∷◌, ◌≡◌, refl, sym, ap, ◌∙◌}
use Rattle.std.proofs.Common.{le_trans, mul-le-mul_left, add-one, arith, eq-eqb, le-ltb, get_or}
use native.Mathlib.Nat.{min-eq_left, min-eq_right, min-le_left}
use native.Mathlib.Decide.{dec_le}
use Rattle.bits.specs.Bit.{flips}
use Rattle.bits.specs.Sum.{flag}
use Rattle.bits.proofs.Sums.{flag-le-one, sum-add, sum-append, sum_mono}
use Rattle.inner_code.specs.Reply.{Reply, done, refused}
use Rattle.wiring.specs.Plan.{Plan, Side, edge_count, side_of, other}
use Rattle.wiring.specs.Block.{Block, Codeword, heard}
use Rattle.wiring.proofs.Plans.{plan-joined}
use Rattle.wiring.proofs.VertexWords.{vertex-ext}
use Rattle.sweeps.specs.Sweep.{turn}
use Rattle.decoder.specs.Decode.{swept_block, settles_at, visits_in, visits_made}
use Rattle.decoder.specs.Answer.{decode_check, decode_visits}
use Rattle.decoder.proofs.Passes.{turn-again}
use Rattle.decoder.proofs.Settling.{decode-stopped, decode-settled, decode-unsettled}
use Rattle.decoder.proofs.Trials.{check-means}
use Rattle.report.specs.Report.{differs_at}
use Rattle.report.proofs.Runs.{differs_none}
use Rattle.meetings.specs.Spread.{size}
use Rattle.radius.specs.Margin.{bound}
use Rattle.radius.specs.Answer.{measures_of, margin_answer}
use Rattle.radius.specs.Demand.{visits_bound}
use Rattle.radius.proofs.Convergence.{some_wrong, leaves, wrong-each, wrong-crosses, leaves-bounded}
use Rattle.radius.proofs.Answers.{Covered, margin-means}
use Rattle.radius.proofs.Guarantee.{swept-mending, swept-restores, settles-by}

-- ---- a vertex that heard

flag-either : (h s t : Bool) → (s ≡ false → t ≡ false → h ≡ false) → flag h ≤ flag s + flag t
unfolding flag
flag-either h true t quiet = omega (arith, flag-le-one h)
flag-either h false true quiet = flag-le-one h
flag-either h false false quiet = rw (quiet refl refl) zero-le

module _ (side : Side) (before after sent : List ℕ) where
  -- a vertex whose bits are right before and after hears nothing
  heard-none : (v : ℕ) → some_wrong side (differs_at before sent) v ≡ false → some_wrong side (differs_at after sent) v ≡ false
      → heard side before after v ≡ false
  unfolding heard
  heard-none v then now =
      ap not (eq-eqb _ _ (vertex-ext side before after v (λ j l.
      differs_none before sent _ (wrong-each side (differs_at before sent) v then j l)
      ∙ sym (differs_none after sent _ (wrong-each side (differs_at after sent) v now j l)))))

  heard-le : size side.n (heard side before after)
      ≤ size side.n (some_wrong side (differs_at before sent)) + size side.n (some_wrong side (differs_at after sent))
  unfolding size
  heard-le =
      simp sum-add at (sum_mono side.n _ _ (λ v l.
      flag-either (heard side before after v) (some_wrong side (differs_at before sent) v) (some_wrong side (differs_at after sent) v) (heard-none v)))

-- ---- the visits of a sweep

module _ (plan : Plan) (received : List ℕ) where
  visits-first : visits_made plan received 2 ≡ plan.nl + plan.nr
  unfolding visits_made visits_in turn other
  visits-first = omega arith

  -- from the third sweep on, those who heard of the sweep before
  visits-news : (i : ℕ) → visits_in plan received (2 + i)
      ≡ size (side_of plan (turn i)).n (heard (side_of plan (turn i)) (swept_block plan (suc i) received) (swept_block plan (suc (suc i)) received))
  unfolding visits_in heard size
  visits-news i =
      let two : i + 2 ≡ suc (suc i) = omega arith in
      let third : 2 + i ≡ suc (suc i) = omega arith in
      let before : suc (suc i) - 1 ≡ suc i = omega arith in
      rw (third, ← (rw two at (turn-again i refl)), le-ltb (suc (suc i)) 2 (omega arith), before)

-- ---- the theorems

module _ (plan : Plan) (sent received : List ℕ) (F q : ℕ) (covered : Covered plan F q) (code : Codeword plan sent)
    (block : Block (edge_count plan) received) (few : flips (edge_count plan) sent received ≤ F) where
  -- the bits that are wrong after i sweeps
  abbrev wrong : ℕ → ℕ → Bool
  wrong i = differs_at (swept_block plan i received) sent

  abbrev b : ℕ → ℕ
  b = bound (measures_of plan) F

  leaves-le : (i : ℕ) → i < q → size (side_of plan (turn i)).n (leaves (side_of plan) wrong i) ≤ b i
  leaves-le i l = leaves-bounded (swept-mending plan received F q covered block sent code few) i (rw covered.named at l)

  -- a bit that sweep i + 2 changed was wrong before, then its vertex here was left wrong by sweep i + 1; or it became wrong, then it is one of
  -- the d bits of a vertex that sweep i + 2 left wrong
  visits-later : (i : ℕ) → i < q - 2 → visits_in plan received (2 + i) ≤ b i + (side_of plan (turn (i + 1))).d * b (i + 1)
  visits-later i l =
      let side : Side = side_of plan (turn i) in
      let across : Side = side_of plan (turn (suc i)) in
      rw add-one (omega (
        arith,
        visits-news plan received i,
        heard-le side (swept_block plan (suc i) received) (swept_block plan (suc (suc i)) received) sent,
        leaves-le i (omega arith),
        wrong-crosses (plan-joined plan covered.accepted) (wrong (suc (suc i))) (turn (suc i)) (turn i),
        mul-le-mul_left across.d (leaves-le (suc i) (omega arith)),
      ))

  pub visits-bounded : (made : ℕ) → made ≤ q → visits_made plan received made ≤ visits_bound plan F q
  unfolding visits_made visits_bound
  visits-bounded made l =
      let visits : ℕ → ℕ = visits_in plan received in
      let more : ℕ = 2 + (q - 2) - made in
      let all : made + more ≡ 2 + (q - 2) = omega arith in
      omega (
        arith,
        rw all at (sum-append made more visits),
        sum-append 2 (q - 2) visits,
        visits-first plan received,
        sum_mono (q - 2) (λ i. visits (2 + i)) _ visits-later,
      )

  pub visits-limited : (H : ℕ) → visits_made plan received (min (settles_at plan received H) H) ≤ visits_bound plan F q
  visits-limited H =
      visits-bounded _ (le_trans (min-le_left _ _)
      (settles-by plan received H q sent code (swept-restores plan received F q covered block sent code few)))

-- ---- the promise about a call, whatever its limit and whatever it is refused by

pub visits-promised : (plan : Plan) (sent received output : List ℕ) (F q H : ℕ)
    → Codeword plan sent
    → ((k : ℕ) → get_or received k 0 < 256)
    → flips (edge_count plan) sent received ≤ F
    → margin_answer plan F ≡ done (q ∷ [])
    → decode_visits plan received [] output H ≤ visits_bound plan F q
visits-promised plan sent received output F q H code bytes few margin =
    by (decode_check plan received [] output H) refl
  where
    by : (reply : Reply) → decode_check plan received [] output H ≡ reply → decode_visits plan received [] output H ≤ visits_bound plan F q
    by (refused number place) e = rw (decode-stopped plan received [] output H e).visited zero-le
    by (done values) e =
        let block : Block (edge_count plan) received =
        record { bytes = bytes; checked = (check-means plan received [] output H e).block-done } in
        let limited = visits-limited plan sent received F q (margin-means plan F q margin) code block few H in
        elim (dec_le (settles_at plan received H) H) [
          | yes in-time ↦
              let made : min (settles_at plan received H) H ≡ settles_at plan received H = min-eq_left in-time in
              rw (decode-settled plan received output H e (settles_at plan received H) refl in-time).visited (rw made at limited)
          | no late ↦
              let past : H < settles_at plan received H = omega arith in
              let made : min (settles_at plan received H) H ≡ H = min-eq_right (omega arith) in
              rw (decode-unsettled plan received output H e past).visited (rw made at limited)
        ]
