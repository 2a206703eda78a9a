-- Sweeps in turn as the code makes them: each sweep's number of changed bits is its sum, and with the ties that it left tells whether the block
-- was settled.
--   SideSwept side before tally after      one sweep as the code makes it (sweeps specs Sweeping)
--   settled_after plan block i              the block after i sweeps is a codeword (specs Decode)
--   settles_at plan block H                 the first count from 0 to H after which it is, H + 1 where none is (specs Decode)
--   sweep_sum, sweep_sums                    how many bits a sweep changes, and the sums of those that are made (specs Decode)
--   Pass plan received i tally after       sweep i + 1 leaves `after`; `tally` has its sum and how many ties it left
--   Told plan received H i sums visits     the sums and the visits of the first i sweeps, of H at most
--   Swept plan received H count block sums visits   the block after `count` sweeps, at no count before which it was settled, their sums and their visits
--   Tried, Opened, Midway                  a trial, its first two sweeps, and where it stands later, as the code makes them (specs Turns)
-- Laws are named by their subject, then by the fact: `turn-` is about the side of a sweep, `settled-` about settled blocks, `pass-` about one
-- sweep of the code, `told-` about sums and visits, `swept-` about all sweeps so far, `ended-` about a sweep that changes nothing; `open-` gives what
-- the first two sweeps come to at one way out each: where neither changes anything (-first), where the second does not (-second), at a limit
-- below 2 (-limit), settled (-settled), and where a third is made (-going); `midway-` is about the sweeps from the third on.
use Rattle.std.proofs.Common.{ℕ, ◌+◌, ◌-◌, ◌≤◌, ◌<◌, zero-le, min, true, false, true≢false, List, [], ◌≡◌, refl, sym, ap, ap₂, ◌∙◌, le_refl}
use Rattle.std.proofs.Common.{add-one, arith, below_more, eq-eqb, ne_eqb, length, replicate}
use mathlib.Mathlib.Data.Bool.Basic.{eq-false_of_not-eq-true}
use native.Mathlib.Nat.{le_dest, min-eq_left, min-eq_right}
use native.Mathlib.Decide.{ℕ_discrete, dec_le}
use Rattle.bits.proofs.Flips.{flips-none}
use Rattle.bits.specs.Bit.{flips}
use Rattle.bits.specs.Sum.{flag}
use Rattle.bits.proofs.Searches.{first-all}
use Rattle.bits.proofs.Sums.{sum-ext}
use Rattle.inner_code.specs.Reply.{done}
use Rattle.wiring.specs.Plan.{Plan, Side, edge_count, left, right, count_of, side_of, other}
use Rattle.wiring.specs.Wiring.{plan_check}
use Rattle.wiring.specs.Block.{vertex_word, satisfied, first_unsatisfied, is_codeword_block, block_check, heard}
use Rattle.wiring.specs.declared.side.SideName.{SideName}
use Rattle.wiring.proofs.Permutation.{Joined, fitted-edges}
use Rattle.wiring.proofs.CodewordBlocks.{codeword-block-each}
use Rattle.wiring.proofs.Plans.{plan-sound, plan-joined}
use Rattle.sweeps.specs.Sweep.{sweep, turn}
use Rattle.decoder.specs.Decode.{swept_block, settled_after, sweep_sum, sweep_sums, visits_in, visits_made}
use Rattle.sweeps.specs.Sweeping.{changed_by, tied_at, ties_by, SideSwept, Hears, NewsSwept}
use Rattle.decoder.specs.Turns.{Tried, noted, added_visits, ended_to, Midway, Opened}
use Rattle.words.specs.Marks.{Listening}
use Rattle.decoder.specs.declared.settle.Opening.{Opening}
use Rattle.sweeps.specs.declared.sweep.News.{News}
use Rattle.sweeps.specs.declared.sweep.Tally.{Tally}
use Rattle.sweeps.proofs.Sweeping.{Mends, sheet-mends, sweep-fixed, sweep-flips, sweep-satisfied, sweep-stays, sweep-tied}
use Rattle.sweeps.proofs.Sweeping.{length-after, after-one-more, after-stays, after_block, after-ended, other-side}
use Rattle.decoder.proofs.Settling.{settles-at, settles-none}
use Rattle.decoder.proofs.SweepSums.{length-sums, sum-le, sums-zero, noted_more, noted-still}
use Rattle.sweeps.proofs.Visiting.{changed-zero, ties-none, ties-some}
use Rattle.wiring.proofs.Sides.{other-twice}
use Rattle.decoder.proofs.VisitCounts.{visits-zero, visits-heard, visits-none, visits-added, visits-still}

pub turn-zero : left ≡ turn 0
unfolding turn
turn-zero = refl

pub turn_one : right ≡ turn 1
unfolding turn other
turn_one = refl

pub turn_two : left ≡ turn 2
unfolding turn other
turn_two = refl

pub turn_more : (i : ℕ) {name : SideName} → name ≡ turn i → other name ≡ turn (i + 1)
unfolding turn
turn_more i e = rw add-one (ap other e)

-- the side of every second sweep is the same
pub turn-again : (i : ℕ) {name : SideName} → name ≡ turn i → name ≡ turn (i + 2)
unfolding other
turn-again i {name} e =
    let two : i + 1 + 1 ≡ i + 2 = omega arith in
    sym (other-twice name) ∙ rw two at (turn_more (i + 1) (turn_more i e))

-- ---- one sweep

pub record Pass (plan : Plan) (received : List ℕ) (i : ℕ) (tally : Tally) (after : List ℕ) : Type 0 where
  pub leaves : after ≡ swept_block plan (i + 1) received
  pub counted : tally.changed ≡ sweep_sum plan received i
  pub same : tally.changed ≡ 0 → swept_block plan (i + 1) received ≡ swept_block plan i received
  pub satisfied-side : tally.ties ≡ 0
      → first_unsatisfied (side_of plan (turn i)) (swept_block plan (i + 1) received) ≡ count_of plan (turn i)
  pub tied-before : (tally.ties ≡ 0 → ⊥) → settled_after plan received i ≡ false
  pub tied-after : (tally.ties ≡ 0 → ⊥) → settled_after plan received (i + 1) ≡ false

pub record Told (plan : Plan) (received : List ℕ) (H i : ℕ) (sums : List ℕ) (visits : ℕ) : Type 0 where
  pub sums-are : sums ≡ sweep_sums plan received (min i H)
  pub visits-are : visits ≡ visits_made plan received (min i H)

pub record Swept (plan : Plan) (received : List ℕ) (H count : ℕ) (block sums : List ℕ) (visits : ℕ) : Type 0 where
  pub block-is : block ≡ swept_block plan count received
  pub unsettled : (j : ℕ) → j < count → settled_after plan received j ≡ false
  pub told : Told plan received H count sums visits

-- plan and received block have passed their checks
pub record Begun (plan : Plan) (received : List ℕ) : Type 0 where
  pub plan-done : plan_check plan ≡ done []
  pub block-done : block_check (edge_count plan) received ≡ done []

module _ {plan : Plan} {received : List ℕ} (b : Begun plan received) where
  mends : (name : SideName) → Mends (side_of plan name)
  mends = sheet-mends plan (plan-sound plan b.plan-done).0

  joined : Joined (edge_count plan) (side_of plan)
  joined = plan-joined plan b.plan-done

  -- ---- one sweep

  -- the bits that a defined sweep changes are those that its vertices change
  sum-changed : (i : ℕ) → sweep_sum plan received i ≡ changed_by (side_of plan (turn i)) (count_of plan (turn i)) (swept_block plan i received)
  unfolding sweep_sum
  sum-changed i =
      ap (flips (edge_count plan) (swept_block plan i received)) (after-one-more (side_of plan) i received)
      ∙ sweep-flips (joined.whole (turn i)) _ (after_block (side_of plan) joined.whole i received b.block-done) (mends (turn i))

  -- a vertex that reads no codeword
  missed : (i : ℕ) (name : SideName) (v : ℕ) → v < count_of plan name → satisfied (side_of plan name) (swept_block plan i received) v ≡ false
      → settled_after plan received i ≡ false
  missed i name v l e = eq-false_of_not-eq-true (λ q. true≢false (sym (codeword-block-each (side_of plan) _ q name v l) ∙ e))

  pub pass : {i : ℕ} {name : SideName} {block : List ℕ} {tally : Tally} {after : List ℕ}
      → SideSwept (side_of plan name) block tally after → name ≡ turn i → block ≡ swept_block plan i received → Pass plan received i tally after
  unfolding satisfied
  pass {i} {name} {block} {tally} swept at e =
      record {
        leaves = swept.leaves ∙ ap₂ (λ (s : SideName) (l : List ℕ). sweep (side_of plan s) l) at e ∙ sym (after-one-more (side_of plan) i received);
        counted = counted;
        same = λ none.
            after-one-more (side_of plan) i received
            ∙ sweep-fixed side before (changed-zero side before side.n (sym (sum-changed i) ∙ sym counted ∙ none));
        satisfied-side = λ none.
            ap (first_unsatisfied side) (after-one-more (side_of plan) i received)
            ∙ sweep-satisfied (joined.whole (turn i)) before begun (mends (turn i)) (ties-none side before side.n (sym waiting ∙ none));
        tied-before = λ some. let (v, l, t) = found some in missed i (turn i) v l ((mends (turn i)).tied-missed _ t);
        tied-after = λ some.
            let (v, l, t) = found some in
            missed (i + 1) (turn i) v l (ap (λ (b : List ℕ). satisfied side b v) (after-one-more (side_of plan) i received)
            ∙ sweep-tied (joined.whole (turn i)) before begun (mends (turn i)) v l t);
      }
    where
      side : Side
      side = side_of plan (turn i)

      before : List ℕ
      before = swept_block plan i received

      begun : block_check (edge_count plan) before ≡ done []
      begun = after_block (side_of plan) joined.whole i received b.block-done

      counted : tally.changed ≡ sweep_sum plan received i
      counted = swept.counted ∙ ap₂ (λ (s : SideName) (l : List ℕ). changed_by (side_of plan s) (count_of plan s) l) at e ∙ sym (sum-changed i)

      waiting : tally.ties ≡ ties_by side side.n before
      waiting = swept.waiting ∙ ap₂ (λ (s : SideName) (l : List ℕ). ties_by (side_of plan s) (count_of plan s) l) at e

      found : (tally.ties ≡ 0 → ⊥) → (v : ℕ) × (v < side.n) × (tied_at side (vertex_word side before v) ≡ true)
      found some = ties-some side before side.n (λ none. some (waiting ∙ none))

  -- it fits in 16 bits
  pub pass-few : {i : ℕ} {tally : Tally} {after : List ℕ} → Pass plan received i tally after → tally.changed < 65536
  pass-few {i} a =
      let w = (plan-sound plan b.plan-done).1 in
      omega (arith, a.counted, sum-le plan received i, fitted-edges w.left-fits)

  -- ---- sums and visits

  pub told-start : (H : ℕ) {sums : List ℕ} → sums ≡ replicate 64 0 → Told plan received H 0 sums 0
  told-start H e =
      let none : min 0 H ≡ 0 = min-eq_left zero-le in
      record {
        sums-are = e ∙ sums-zero plan received ∙ ap (sweep_sums plan received) (sym none);
        visits-are = sym (ap (visits_made plan received) none ∙ visits-zero plan received);
      }

  pub told_more : {H i : ℕ} {tally : Tally} {sums more after : List ℕ} {visits here with : ℕ} → Told plan received H i sums visits
      → Pass plan received i tally after → more ≡ noted sums i H tally.changed → here ≡ visits_in plan received i
      → with ≡ added_visits visits i H here → Told plan received H (i + 1) more with
  told_more {H} {i} so_far a e seen added =
      record {
        sums-are = noted_more plan received H i so_far.sums-are a.counted e;
        visits-are = visits-added plan received H i so_far.visits-are seen added;
      }

  pub told-sized : {H i : ℕ} {sums : List ℕ} {visits : ℕ} → Told plan received H i sums visits → length sums ≡ 64
  told-sized {H} {i} so_far = ap length so_far.sums-are ∙ length-sums plan received (min i H)

  -- ---- settled blocks

  settled-stays : (i j : ℕ) → settled_after plan received i ≡ true → swept_block plan (i + j) received ≡ swept_block plan i received
  settled-stays i j e = after-stays (side_of plan) mends i j received e

  settled_before : (i j : ℕ) → settled_after plan received (i + j) ≡ false → settled_after plan received i ≡ false
  settled_before i j e =
      eq-false_of_not-eq-true (λ q. true≢false (sym q ∙ ap (is_codeword_block (side_of plan)) (sym (settled-stays i j q)) ∙ e))

  -- before a sweep that changes something the block was not settled
  pass-unsettled : {i : ℕ} {tally : Tally} {after : List ℕ} → Pass plan received i tally after → (tally.changed ≡ 0 → ⊥)
      → settled_after plan received i ≡ false
  unfolding sweep_sum
  pass-unsettled {i} a some =
      eq-false_of_not-eq-true (λ q. some (a.counted
      ∙ ap (flips (edge_count plan) (swept_block plan i received)) (settled-stays i 1 q) ∙ flips-none (edge_count plan) (swept_block plan i received)))

  -- ---- all sweeps so far

  pub swept-two : {H : ℕ} {second : Tally} {two-left sums : List ℕ} {visits : ℕ} → Pass plan received 1 second two-left
      → (second.changed ≡ 0 → ⊥) → Told plan received H 2 sums visits → Swept plan received H 2 two-left sums visits
  swept-two two some told =
      let last = pass-unsettled two some in
      record {
        block-is = two.leaves;
        unsettled = below_more _ 1 (below_more _ 0 (λ j l. absurd (omega arith)) (settled_before 0 1 last)) last;
        told = told;
      }

  swept-more : {H count : ℕ} {tally : Tally} {block after sums more : List ℕ} {visits with : ℕ} → Swept plan received H count block sums visits
      → Pass plan received count tally after → (tally.changed ≡ 0 → ⊥) → Told plan received H (count + 1) more with
      → Swept plan received H (count + 1) after more with
  swept-more {count = count} so_far a some told =
      record { block-is = a.leaves; unsettled = below_more _ count so_far.unsettled (pass-unsettled a some); told = told }

  -- ---- a sweep that changes nothing

  -- no later one does, from the second on
  ended_same : {i : ℕ} {tally : Tally} {after : List ℕ} → 1 ≤ i → Pass plan received i tally after → tally.changed ≡ 0
      → (j : ℕ) → swept_block plan (i + j) received ≡ swept_block plan i received
  ended_same {i} low a none =
      after-ended (side_of plan) joined.whole mends i received low b.block-done (sym (after-one-more (side_of plan) i received) ∙ a.same none)

  -- both sides satisfied
  both-satisfied : (i : ℕ) → first_unsatisfied (side_of plan (turn i)) (swept_block plan i received) ≡ count_of plan (turn i)
      → first_unsatisfied (side_of plan (other (turn i))) (swept_block plan i received) ≡ count_of plan (other (turn i))
      → settled_after plan received i ≡ true
  both-satisfied i here there = other-side (side_of plan) (swept_block plan i received) (turn i) here ∙ eq-eqb _ _ there

  -- the block that is left is as long as the one received
  left-length : {left : List ℕ} (i : ℕ) → left ≡ swept_block plan i received → length left ≡ length received
  left-length i e = ap length e ∙ length-after (side_of plan) i received

  still : (i : ℕ) → ((j : ℕ) → swept_block plan (i + j) received ≡ swept_block plan i received) → (j : ℕ) → i ≤ j
      → swept_block plan j received ≡ swept_block plan i received
  still i same j l = let (m, is) = le_dest l in ap (λ (x : ℕ). swept_block plan x received) (sym is) ∙ same m

  -- later sweeps that change nothing have the sum 0
  still-sums : (i : ℕ) → ((j : ℕ) → swept_block plan (i + j) received ≡ swept_block plan i received) → (j : ℕ) → i ≤ j → sweep_sum plan received j ≡ 0
  unfolding sweep_sum
  still-sums i same j l =
      ap₂ (flips (edge_count plan)) (still i same j l) (still i same (j + 1) (omega arith)) ∙ flips-none (edge_count plan) (swept_block plan i received)

  -- and nobody hears of them
  still-visits : (i : ℕ) → ((j : ℕ) → swept_block plan (i + j) received ≡ swept_block plan i received) → (j : ℕ) → 2 ≤ j → i + 1 ≤ j
      → visits_in plan received j ≡ 0
  still-visits i same j low l = visits-none plan received j low (still i same (j - 1) (omega arith) ∙ sym (still i same j (omega arith)))

  -- a block that is settled at no count up to here, and does not change any more
  never : (count : ℕ) → ((j : ℕ) → swept_block plan (count + j) received ≡ swept_block plan count received)
      → ((j : ℕ) → j < count → settled_after plan received j ≡ false) → settled_after plan received count ≡ false
      → (j : ℕ) → settled_after plan received j ≡ false
  never count same unsettled missed j =
      elim (dec_le count j) [
        | yes l ↦ ap (is_codeword_block (side_of plan)) (still count same j l) ∙ missed
        | no l ↦ unsettled j (omega arith)
      ]

  -- no sweep from `count` on changes anything: the block settled there, or it never does
  module _ {H count : ℕ} {sums : List ℕ} {visits : ℕ}
      (same : (j : ℕ) → swept_block plan (count + j) received ≡ swept_block plan count received)
      (unsettled : (j : ℕ) → j < count → settled_after plan received j ≡ false) (high : count ≤ H + 1)
      (told : sums ≡ sweep_sums plan received (min count H)) where
    found : {left : List ℕ} → settled_after plan received count ≡ true → (more : ℕ) → left ≡ swept_block plan (count + more) received
        → visits ≡ visits_made plan received (min count H) → Tried plan received H count sums visits left
    found settled more e seen =
        record {
          counted = elim (dec_le count H) [
            | yes l ↦ settles-at plan received H count l settled unsettled
            | no l ↦
                let past : count ≡ H + 1 = omega arith in
                settles-none plan received H (λ i q. unsettled i (omega arith)) ∙ sym past
          ];
          told = told;
          visited = seen;
          leaves = λ l. e ∙ same more;
          kept = left-length (count + more) e;
        }

    -- the visits of some sweeps more are all that there are
    lost : {left : List ℕ} → settled_after plan received count ≡ false → (through more : ℕ) → 2 ≤ through → count + 1 ≤ through
        → left ≡ swept_block plan (count + more) received → visits ≡ visits_made plan received (min through H)
        → Tried plan received H (H + 1) sums visits left
    lost missed through more low l e seen =
        let all : min (H + 1) H ≡ H = min-eq_right (omega arith) in
        record {
          counted = settles-none plan received H (λ j q. never count same unsettled missed j);
          told = told ∙ noted-still plan received H count (still-sums count same) ∙ ap (sweep_sums plan received) (sym all);
          visited = seen ∙ visits-still plan received H through (λ j m. still-visits count same j (omega arith) (omega arith))
              ∙ ap (visits_made plan received) (sym all);
          leaves = λ q. absurd (omega arith);
          kept = left-length (count + more) e;
        }

  -- ---- the first two sweeps

  -- one of two outcomes, as the code tells them apart
  closed-by : {H count ties : ℕ} {sums kept left : List ℕ} {visits both : ℕ} {r : Opening}
      → (ties ≡ 0 → Tried plan received H count sums visits left) → ((ties ≡ 0 → ⊥) → Tried plan received H (H + 1) sums both left)
      → r ≡ ended_to H count ties sums visits both → Opened plan received H r kept left
  unfolding ended_to
  closed-by {H} {count} {ties} {sums} {kept} {left} {visits} {both} {r} settled not-settled e =
      elim (ℕ_discrete ties 0) [
        | yes none ↦ closed (e ∙ rw (eq-eqb ties 0 none)) (settled none)
        | no some ↦ closed (e ∙ rw (ne_eqb ties 0 some)) (not-settled some)
      ]
    where
      closed : {c v : ℕ} → r ≡ record { limit = H; ended = true; count = c; sums = sums; visits = v } → Tried plan received H c sums v left
          → Opened plan received H r kept left
      closed is t =
          rw is (record { limit_is = refl; closed = λ _. t; going = λ no. absurd (true≢false no) })

  module _ {first second : Tally} {one_left two-left : List ℕ} (one : Pass plan received 0 first one_left) (two : Pass plan received 1 second two-left)
    where
      -- neither changes anything
      pub open-first : {H : ℕ} {sums kept : List ℕ} {with : ℕ} {r : Opening} → first.changed ≡ 0 → second.changed ≡ 0
          → sums ≡ sweep_sums plan received (min 1 H) → with ≡ visits_made plan received (min 2 H)
          → r ≡ ended_to H 0 (first.ties + second.ties) sums 0 with → Opened plan received H r kept two-left
      unfolding turn
      open-first {H} {sums} none quiet told seen =
          closed-by
          (λ free. found same (λ j l. absurd (omega arith)) zero-le told_none
          (both-satisfied 0
          (ap (first_unsatisfied (side_of plan (turn 0))) (sym (one.same none)) ∙ one.satisfied-side (omega arith))
          (ap (first_unsatisfied (side_of plan (turn 1))) (sym (two.same quiet ∙ one.same none)) ∙ two.satisfied-side (omega arith)))
          2 two.leaves (sym (ap (visits_made plan received) no-sweep ∙ visits-zero plan received)))
          (λ tied. lost same (λ j l. absurd (omega arith)) zero-le told_none (missed tied) 2 2 (omega arith) (omega arith) two.leaves seen)
        where
          no-sweep : min 0 H ≡ 0
          no-sweep = min-eq_left zero-le

          same : (j : ℕ) → swept_block plan (0 + j) received ≡ swept_block plan 0 received
          same j =
              let whole : 0 + j ≡ j = omega arith in
              ap (λ (x : ℕ). swept_block plan x received) whole
              ∙ elim (dec_le 1 j) [
                | yes l ↦ still 1 (ended_same (le_refl 1) two quiet) j l ∙ one.same none
                | no l ↦ let none_made : j ≡ 0 = omega arith in ap (λ (x : ℕ). swept_block plan x received) none_made
              ]

          -- the first sum, which is noted, is 0
          told_none : sums ≡ sweep_sums plan received (min 0 H)
          told_none =
              told ∙ noted-still plan received H 1 (λ j l. still-sums 0 same j zero-le) ∙ sym (noted-still plan received H 0 (still-sums 0 same))

          missed : (first.ties + second.ties ≡ 0 → ⊥) → settled_after plan received 0 ≡ false
          missed tied =
              elim (ℕ_discrete first.ties 0) [
                | no some ↦ one.tied-before some
                | yes free ↦
                    ap (is_codeword_block (side_of plan)) (sym (one.same none)) ∙ two.tied-before (λ free'. tied (omega arith))
              ]

      -- the second does not
      pub open-second : {H : ℕ} {sums kept : List ℕ} {visits with : ℕ} {r : Opening} → (first.changed ≡ 0 → ⊥) → second.changed ≡ 0
          → Told plan received H 1 sums visits → with ≡ visits_made plan received (min 2 H)
          → r ≡ ended_to H 1 (first.ties + second.ties) sums visits with → Opened plan received H r kept two-left
      unfolding turn
      open-second {H} {sums} some quiet told seen =
          closed-by
          (λ free. found same unsettled (omega arith) told.sums-are
          (both-satisfied 1
          (ap (first_unsatisfied (side_of plan (turn 1))) (sym (two.same quiet)) ∙ two.satisfied-side (omega arith))
          (rw (other-twice (turn 0)) (one.satisfied-side (omega arith))))
          1 two.leaves told.visits-are)
          (λ tied. lost same unsettled (omega arith) told.sums-are (missed tied) 2 1 (omega arith) (omega arith) two.leaves seen)
        where
          same : (j : ℕ) → swept_block plan (1 + j) received ≡ swept_block plan 1 received
          same = ended_same (le_refl 1) two quiet

          unsettled : (j : ℕ) → j < 1 → settled_after plan received j ≡ false
          unsettled = below_more _ 0 (λ j l. absurd (omega arith)) (pass-unsettled one some)

          missed : (first.ties + second.ties ≡ 0 → ⊥) → settled_after plan received 1 ≡ false
          missed tied =
              elim (ℕ_discrete first.ties 0) [
                | no waiting ↦ one.tied-after waiting
                | yes free ↦ two.tied-before (λ free'. tied (omega arith))
              ]

  module _ {H : ℕ} {two-left sums : List ℕ} {visits : ℕ} (so_far : Swept plan received H 2 two-left sums visits) where
    -- no third sweep is within the limit
    pub open-limit : H < 2 → Tried plan received H (H + 1) sums visits two-left
    open-limit low =
        let made : min 2 H ≡ min (H + 1) H = min-eq_right (omega arith) ∙ sym (min-eq_right (omega arith)) in
        record {
          counted = settles-none plan received H (λ j l. so_far.unsettled j (omega arith));
          told = so_far.told.sums-are ∙ ap (sweep_sums plan received) made;
          visited = so_far.told.visits-are ∙ ap (visits_made plan received) made;
          leaves = λ l. absurd (omega arith);
          kept = left-length 2 so_far.block-is;
        }

    -- the second left no tie, and the left side is satisfied
    pub open-settled : {second : Tally} → Pass plan received 1 second two-left → second.ties ≡ 0 → 2 ≤ H
        → ((v : ℕ) → v < count_of plan left → satisfied (side_of plan left) two-left v ≡ true) → Tried plan received H 2 sums visits two-left
    unfolding turn other first_unsatisfied
    open-settled two free high all =
        record {
          counted = settles-at plan received H 2 high
              (both-satisfied 2 (first-all (count_of plan left) _ (λ v l. rw so_far.block-is at (all v l))) (two.satisfied-side free))
              so_far.unsettled;
          told = so_far.told.sums-are;
          visited = so_far.told.visits-are;
          leaves = λ l. so_far.block-is;
          kept = left-length 2 so_far.block-is;
        }

    pub open-going : {one_left kept : List ℕ} → one_left ≡ swept_block plan 1 received → Listening plan left one_left two-left kept
        → Midway plan received H 2 sums visits kept two-left
    unfolding turn other
    open-going before listening =
        record {
          begun = b.block-done;
          two_made = le_refl 2;
          block-is = so_far.block-is;
          unsettled = so_far.unsettled;
          told = so_far.told.sums-are;
          visited = so_far.told.visits-are;
          listening = rw before at listening;
        }

  -- ---- the sweeps from the third on

  module _ {H count : ℕ} {sums : List ℕ} {visits : ℕ} {kept block : List ℕ} (m : Midway plan received H count sums visits kept block) where
    pub midway-told : Told plan received H count sums visits
    midway-told = record { sums-are = m.told; visits-are = m.visited }

    midway-swept : Swept plan received H count block sums visits
    midway-swept = record { block-is = m.block-is; unsettled = m.unsettled; told = midway-told }

    -- a vertex of the side to be swept that has no news was visited two sweeps before
    pub midway-hears : Hears plan (turn count) block kept
    midway-hears =
        record {
          since = swept_block plan (count - 1) received;
          listening = m.listening;
          stays = λ v l.
              let back : count - 2 + 2 ≡ count = omega (arith, m.two_made) in
              let one : count - 2 + 1 ≡ count - 1 = omega (arith, m.two_made) in
              let side : turn (count - 2) ≡ turn count = turn-again (count - 2) refl ∙ ap turn back in
              let swept : swept_block plan (count - 1) received ≡ sweep (side_of plan (turn count)) (swept_block plan (count - 2) received) =
              ap (λ (i : ℕ). swept_block plan i received) (sym one) ∙ after-one-more (side_of plan) (count - 2) received
              ∙ ap (λ (s : SideName). sweep (side_of plan s) (swept_block plan (count - 2) received)) side in
              rw swept (sweep-stays (joined.whole (turn count)) (swept_block plan (count - 2) received)
              (after_block (side_of plan) joined.whole (count - 2) received b.block-done) (mends (turn count)) v l);
        }

    module _ {news : News} {after told : List ℕ} (swept : NewsSwept plan (turn count) block kept news after told) where
      midway-pass : Pass plan received count (record { changed = news.changed; ties = ties_by (side_of plan (turn count)) (count_of plan (turn count)) block }) after
      midway-pass = pass swept.swept refl m.block-is

      -- its visits are those of the definition
      pub midway-visits : news.visits ≡ visits_in plan received count
      midway-visits =
          swept.visited
          ∙ sum-ext (count_of plan (turn count)) _ _ (λ v l.
          m.listening.news.each v l
          ∙ ap (λ (k : List ℕ). flag (heard (side_of plan (turn count)) (swept_block plan (count - 1) received) k v)) m.block-is)
          ∙ sym (visits-heard plan received count m.two_made)

      pub midway-few : news.changed < 65536
      midway-few = pass-few midway-pass

      -- it changes something
      pub midway-more : {more : List ℕ} {with : ℕ} → (news.changed ≡ 0 → ⊥) → more ≡ noted sums count H news.changed
          → with ≡ added_visits visits count H news.visits → Midway plan received H (count + 1) more with told after
      unfolding turn
      midway-more some noted-is added =
          let next = swept-more midway-swept midway-pass some (told_more midway-told midway-pass noted-is midway-visits added) in
          let back : count + 1 - 1 ≡ count = omega arith in
          record {
            begun = b.block-done;
            two_made = omega (arith, m.two_made);
            block-is = next.block-is;
            unsettled = next.unsettled;
            told = next.told.sums-are;
            visited = next.told.visits-are;
            listening = rw (back, add-one) (rw m.block-is at swept.listening);
          }

      -- it does not, and the block is a codeword or not
      pub midway-settled : news.changed ≡ 0 → is_codeword_block (side_of plan) after ≡ true → count ≤ H → Tried plan received H count sums visits after
      midway-settled none settled high =
          found (ended_same (omega (arith, m.two_made)) midway-pass none) m.unsettled (omega arith) m.told
          (sym (ap (is_codeword_block (side_of plan)) (midway-pass.leaves ∙ midway-pass.same none)) ∙ settled) 1 midway-pass.leaves m.visited

      pub midway-lost : {with : ℕ} → news.changed ≡ 0 → is_codeword_block (side_of plan) after ≡ false → count ≤ H
          → with ≡ added_visits visits count H news.visits → Tried plan received H (H + 1) sums with after
      midway-lost none missed high added =
          lost (ended_same (omega (arith, m.two_made)) midway-pass none) m.unsettled (omega arith) m.told
          (sym (ap (is_codeword_block (side_of plan)) (midway-pass.leaves ∙ midway-pass.same none)) ∙ missed)
          (count + 1) 1 (omega (arith, m.two_made)) (le_refl _) midway-pass.leaves
          (visits-added plan received H count m.visited midway-visits added)

    -- past the limit
    pub midway-never : H < count → Tried plan received H (H + 1) sums visits block
    midway-never past =
        let made : min count H ≡ min (H + 1) H = min-eq_right (omega arith) ∙ sym (min-eq_right (omega arith)) in
        record {
          counted = settles-none plan received H (λ i l. m.unsettled i (omega arith));
          told = m.told ∙ ap (sweep_sums plan received) made;
          visited = m.visited ∙ ap (visits_made plan received) made;
          leaves = λ l. absurd (omega arith);
          kept = left-length count m.block-is;
        }
