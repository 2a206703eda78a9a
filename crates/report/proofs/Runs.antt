-- The correction report: runs of bits that pass a test, and what the report answers and leaves.
--   run_start test i        where the run of bits that ends before i begins; i itself where bit i - 1 is in no run (specs Report)
--   ends_at test i          a run ends before i: bit i is not in it, and bit i - 1 is (specs Report)
--   run_count test m        the number of runs that end before some i below m (specs Report)
--   run_bytes test m        these runs in order, offset and length of each as two bytes each (specs Report)
--   covered test m e       bit e is in a run that ends before some i below m
--   differs_at a b i        bit i of the two blocks differs (specs Report)
--   report_answer, report_list   what the service answers, and its list at exit (specs Answer)
--   Reported .. reply left     the service answers `reply` and leaves the list `left`
-- A run is a stretch of bits that pass the test, as long as it can be: from run_start test i to i - 1, for an i at which one ends.
-- Laws are named by their subject, then by the fact: `start-` is about where a run begins, `ends-` about where one ends, `runs-`
-- about all runs, `run_count-` and `run_bytes-` about their number and their bytes, `differs-` and `flips-` about the bits of two blocks, and
-- `report-` gives answer and list at one outcome each, from the checks before it that have passed and the one that holds:
--   report-plan (1 to 10, 23), report-received and report-settled-block (11, 12), report-short (16), report-done
-- `report-tests` is the answer as these checks in their order.
-- At the end of a name, `-zero` and `-one-more` are a loop's start and step: a bit in the run (-inside) or not (-outside), a run
-- that ends there (-ends) or none (-none).
use Rattle.std.proofs.Common.{ℕ, zero, suc, ◌+◌, ◌-◌, ◌*◌, ◌≤◌, ◌<◌, Bool, true, false, not, ◌&&◌, true≢false, List, [], ◌∷◌, ◌++◌}
use Rattle.std.proofs.Common.{append-nil, ◌⊎◌, inl, inr, ◌≡◌, refl, sym, ap, ◌∙◌, le_refl, not-suc-le-zero, eq-or-lt_of_le}
use Rattle.std.proofs.Common.{le_of_suc-le-suc, add-one, arith, bit_xor, ltb, leb, eqb, length, get_or, length-append, ltb-true, lt-ltb}
use Rattle.std.proofs.Common.{le-ltb, leb-true, le-leb, eqb-true, eq-eqb, ne_eqb}
use Prim.Native.Nat.{pred}
use mathlib.Core.Bool.{and-false}
use native.Mathlib.Nat.{le_step}
use native.Mathlib.Decide.{dec_le, ℕ_discrete}
use borrow.Author.Tests.{not-true, not-false}
use Rattle.bits.proofs.Tests.{and_both}
use Rattle.bits.specs.Bit.{bit_at, written, flips}
use Rattle.bits.specs.Sum.{sum, flag}
use Rattle.bits.proofs.Sums.{sum-one-more, sum-ext, sum-append, flag_true, flag-false}
use Rattle.bits.proofs.Xor.{xor-cancel, xor-bits-parity}
use Rattle.bits.proofs.Bytes.{bit_at_lt}
use Rattle.inner_code.specs.Reply.{Reply, done, refused, refuse_if, and_then}
use Rattle.bits.specs.Search.{some_below}
use Rattle.bits.proofs.Searches.{some-below, some-found}
use Rattle.inner_code.proofs.Replies.{refuse-taken, refuse-passed, and_then-passed, and_then-refused, if_done-done, if_done-refused}
use Rattle.wiring.specs.Wiring.{plan_check}
use Rattle.wiring.specs.Block.{block_check}
use Rattle.wiring.proofs.Blocks.{block-clear}
use Rattle.report.specs.Report.{differs_at, run_start, ends_at, run_count, pair_bytes, run_bytes}
use Rattle.report.specs.Answer.{report_answer, report_list}
use Rattle.wiring.specs.Plan.{Plan, edge_count}

pub holds-or-not : (b : Bool) → (b ≡ true) ⊎ (b ≡ false)
holds-or-not true = inl refl
holds-or-not false = inr refl

-- one test has one outcome
opposite : {b : Bool} → b ≡ true → b ≡ false → ⊥
opposite e q = true≢false (sym e ∙ q)

append-lt : (a b : List ℕ) → ((k : ℕ) → get_or a k 0 < 256) → ((k : ℕ) → get_or b k 0 < 256) → (k : ℕ) → get_or (a ++ b) k 0 < 256
append-lt [] b low high k = high k
append-lt (x ∷ a) b low high zero = low zero
append-lt (x ∷ a) b low high (suc k) = append-lt a b (λ i. low (suc i)) high k

pair_lt : (a b : ℕ) → a < 65536 → b < 65536 → (k : ℕ) → get_or (pair_bytes a b) k 0 < 256
unfolding pair_bytes
pair_lt a b l h zero = omega arith
pair_lt a b l h (suc zero) = omega arith
pair_lt a b l h (suc (suc zero)) = omega arith
pair_lt a b l h (suc (suc (suc zero))) = omega arith
pair_lt a b l h (suc (suc (suc (suc k)))) = omega arith

unfoldable pub covered : (ℕ → Bool) → ℕ → ℕ → Bool
unfolding some_below ends_at run_start
covered test m e = some_below m (λ i. ends_at test i && (leb (run_start test i) e && ltb e i))

module _ (test : ℕ → Bool) where
  -- ---- where a run begins

  pub start-zero : run_start test 0 ≡ 0
  unfolding run_start
  start-zero = refl

  pub start-one-more-inside : (i : ℕ) → test i ≡ true → run_start test (i + 1) ≡ run_start test i
  unfolding run_start
  start-one-more-inside i e = rw (add-one, e)

  pub start-one-more-outside : (i : ℕ) → test i ≡ false → run_start test (i + 1) ≡ i + 1
  unfolding run_start
  start-one-more-outside i e = rw (add-one, e)

  pub start-le : (i : ℕ) → run_start test i ≤ i
  unfolding run_start
  start-le zero = le_refl 0
  start-le (suc i) = elim (holds-or-not (test i)) [ inl e ↦ rw e (le_step (start-le i)) | inr e ↦ rw e (le_refl (suc i)) ]

  -- every bit from there on passes
  pub start-inside : (i j : ℕ) → run_start test i ≤ j → j < i → test j ≡ true
  unfolding run_start
  start-inside zero j h l = absurd (not-suc-le-zero l)
  start-inside (suc i) j h l =
      elim (holds-or-not (test i)) [
        | inl e ↦ elim (eq-or-lt_of_le (le_of_suc-le-suc l)) [ inl q ↦ rw q e | inr k ↦ start-inside i j (rw e at h) k ]
        | inr e ↦ let past : suc i ≤ j = rw e at h in absurd (omega arith)
      ]

  -- the bit before does not: a run goes on as far as it can to the left
  pub start-before : (i : ℕ) → 0 < run_start test i → test (pred (run_start test i)) ≡ false
  unfolding run_start
  start-before zero h = absurd (not-suc-le-zero h)
  start-before (suc i) h = elim (holds-or-not (test i)) [ inl e ↦ rw e (start-before i (rw e at h)) | inr e ↦ rw e e ]

  -- with one more bit a run begins where it did, or later
  start-mono : (i : ℕ) → run_start test i ≤ run_start test (i + 1)
  start-mono i =
      elim (holds-or-not (test i)) [
        | inl e ↦ omega (arith, start-one-more-inside i e)
        | inr e ↦ omega (arith, start-one-more-outside i e, start-le i)
      ]

  -- ---- where a run ends

  -- a run goes on as far as it can to the right, and is not empty
  pub ends-after : (i : ℕ) → ends_at test i ≡ true → (test i ≡ false) × (run_start test i < i)
  unfolding ends_at
  ends-after i e =
      let (out, some) = and_both (not (test i)) _ e in
      (not-true (test i) out, ltb-true _ i some)

  pub ends-back : (i : ℕ) → test i ≡ false → run_start test i < i → ends_at test i ≡ true
  unfolding ends_at
  ends-back i e l = rw e (lt-ltb _ i l)

  pub ends-inside : (i : ℕ) → test i ≡ true → ends_at test i ≡ false
  unfolding ends_at
  ends-inside i e = rw e

  pub ends-empty : (i : ℕ) → i ≤ run_start test i → ends_at test i ≡ false
  unfolding ends_at
  ends-empty i l = rw (le-ltb (run_start test i) i l) (and-false (not (test i)))

  -- runs are sorted and disjoint, and between two of them a bit is in none
  pub runs-sorted : (i j : ℕ) → ends_at test i ≡ true → ends_at test j ≡ true → i < j → i < run_start test j
  runs-sorted i j e q l =
      elim (dec_le (run_start test j) i) [
        | yes h ↦ absurd (opposite (start-inside j i h l) (ends-after i e).0)
        | no h ↦ omega arith
      ]

  -- ---- the bits that runs cover

  -- bit e, which passes, is in a run that has ended before m or in the one that ends there
  ended-or-open : (m e : ℕ) → test e ≡ true → e < m
      → ((i : ℕ) × (i < m) × (ends_at test i ≡ true) × (run_start test i ≤ e) × (e < i)) ⊎ (run_start test m ≤ e)
  unfolding run_start
  ended-or-open zero e p l = absurd (not-suc-le-zero l)
  ended-or-open (suc m) e p l =
      elim (eq-or-lt_of_le (le_of_suc-le-suc l)) [
        | inl q ↦ inr (rw (← q, p) (start-le e))
        | inr k ↦ elim (ended-or-open m e p k) [
          | inl t ↦ inl (t.0, le_step t.1, t.2, t.3, t.4)
          | inr h ↦ elim (holds-or-not (test m)) [
            | inl on ↦ inr (rw on h)
            | inr off ↦ inl (m, le_refl (suc m), ends-back m off (omega arith), h, k)
          ]
        ]
      ]

  covered-by : (m e i : ℕ) → i < m → ends_at test i ≡ true → run_start test i ≤ e → e < i → covered test m e ≡ true
  unfolding covered
  covered-by m e i l ends h k = some-below m _ i l (rw (ends, le-leb _ e h) (lt-ltb e i k))

  covered-passes : (m e : ℕ) → covered test m e ≡ true → test e ≡ true
  unfolding covered
  covered-passes m e c =
      let (i, l, q) = some-found m (λ i. ends_at test i && (leb (run_start test i) e && ltb e i)) c in
      let (low, high) = and_both (leb (run_start test i) e) (ltb e i) (and_both (ends_at test i) _ q).1 in
      start-inside i e (leb-true _ e low) (ltb-true e i high)

  -- the runs cover the bits that pass, and no other
  pub runs-cover : (m e : ℕ) → test m ≡ false → e < m → covered test (m + 1) e ≡ test e
  runs-cover m e off l =
      elim (holds-or-not (test e)) [
        | inl p ↦ elim (ended-or-open m e p l) [
          | inl t ↦ covered-by (m + 1) e t.0 (omega arith) t.2 t.3 t.4 ∙ sym p
          | inr h ↦ covered-by (m + 1) e m (omega arith) (ends-back m off (omega arith)) h l ∙ sym p
        ]
        | inr p ↦ elim (holds-or-not (covered test (m + 1) e)) [
          | inl c ↦ absurd (opposite (covered-passes (m + 1) e c) p)
          | inr c ↦ c ∙ sym p
        ]
      ]

  -- ---- how many runs

  pub run_count-zero : run_count test 0 ≡ 0
  unfolding run_count
  run_count-zero = refl

  pub run_count-one-more-ends : (m : ℕ) → ends_at test m ≡ true → run_count test (m + 1) ≡ run_count test m + 1
  unfolding run_count
  run_count-one-more-ends m e = sum-one-more m _ ∙ rw e

  pub run_count-one-more-none : (m : ℕ) → ends_at test m ≡ false → run_count test (m + 1) ≡ run_count test m
  unfolding run_count
  run_count-one-more-none m e = sum-one-more m _ ∙ rw e (omega arith)

  pub run_count-mono : (m n : ℕ) → m ≤ n → run_count test m ≤ run_count test n
  unfolding run_count
  run_count-mono m n l =
      let rest : m + (n - m) ≡ n = omega arith in
      omega (arith, rw rest at (sum-append m (n - m) (λ i. flag (ends_at test i))))

  -- each run that has ended has a bit, and a bit after it, before the run that is open
  run_count-start : (m : ℕ) → 2 * run_count test m ≤ run_start test m
  run_count-start zero = omega (arith, run_count-zero)
  run_count-start (suc m) = rw (← add-one m) (elim (holds-or-not (ends_at test m)) [
    | inl e ↦
        let (off, some) = ends-after m e in
        omega (arith, run_count-start m, run_count-one-more-ends m e, start-one-more-outside m off)
    | inr e ↦ omega (arith, run_count-start m, run_count-one-more-none m e, start-mono m)
  ])

  pub run_count-le : (m : ℕ) → 2 * run_count test m ≤ m
  run_count-le m = omega (arith, run_count-start m, start-le m)

  -- ---- the runs as bytes

  pub run_bytes-zero : run_bytes test 0 ≡ []
  unfolding run_bytes
  run_bytes-zero = refl

  pub run_bytes-one-more-ends : (m : ℕ) → ends_at test m ≡ true
      → run_bytes test (m + 1) ≡ run_bytes test m ++ pair_bytes (run_start test m) (m - run_start test m)
  unfolding run_bytes
  run_bytes-one-more-ends m e = rw (add-one, e)

  pub run_bytes-one-more-none : (m : ℕ) → ends_at test m ≡ false → run_bytes test (m + 1) ≡ run_bytes test m
  unfolding run_bytes
  run_bytes-one-more-none m e = rw (add-one, e) (append-nil (run_bytes test m))

  pub length-run_bytes : (m : ℕ) → length (run_bytes test m) ≡ 4 * run_count test m
  unfolding pair_bytes
  length-run_bytes zero = rw (run_bytes-zero, run_count-zero)
  length-run_bytes (suc m) = rw (← add-one m) (elim (holds-or-not (ends_at test m)) [
    | inl e ↦ rw (run_bytes-one-more-ends m e, run_count-one-more-ends m e, length-append, length-run_bytes m) (omega arith)
    | inr e ↦ rw (run_bytes-one-more-none m e, run_count-one-more-none m e) (length-run_bytes m)
  ])

  pub run_bytes-lt : (m : ℕ) → m ≤ 65536 → (k : ℕ) → get_or (run_bytes test m) k 0 < 256
  run_bytes-lt zero h = rw run_bytes-zero (omega arith)
  run_bytes-lt (suc m) h = rw (← add-one m) (elim (holds-or-not (ends_at test m)) [
    | inl e ↦ rw (run_bytes-one-more-ends m e)
        (append-lt (run_bytes test m) _ (run_bytes-lt m (omega arith))
        (pair_lt (run_start test m) (m - run_start test m) (omega (arith, start-le m)) (omega arith)))
    | inr e ↦ rw (run_bytes-one-more-none m e) (run_bytes-lt m (omega arith))
  ])

-- ---- the difference of two blocks

flag-xor : (a b : ℕ) → a < 2 → b < 2 → flag (not (eqb a b)) ≡ bit_xor a b
flag-xor a b p q =
    elim (ℕ_discrete a b) [
      | yes e ↦ rw (eq-eqb a b e, flag-false) (omega (arith, xor-bits-parity a b p q))
      | no u ↦ rw (ne_eqb a b u, flag_true) (omega (arith, xor-bits-parity a b p q))
    ]

-- a bit with its difference from another on it is the other
bit-restored : (a b : ℕ) → a < 2 → b < 2 → b ≡ bit_xor a (flag (not (eqb a b)))
bit-restored a b ha hb = sym (ap (bit_xor a) (flag-xor a b ha hb) ∙ xor-cancel a b)

pub differs-bits : (a b : List ℕ) (i : ℕ) → differs_at a b i ≡ not (eqb (bit_at a i) (bit_at b i))
unfolding differs_at
differs-bits a b i = refl

pub differs-agree : (a b : List ℕ) (i : ℕ) → bit_at a i ≡ bit_at b i → differs_at a b i ≡ false
differs-agree a b i e = differs-bits a b i ∙ ap not (eq-eqb _ _ e)

module _ (a b : List ℕ) where
  pub differs-flag : (i : ℕ) → flag (differs_at a b i) ≡ bit_xor (bit_at a i) (bit_at b i)
  unfolding differs_at
  differs-flag i = flag-xor (bit_at a i) (bit_at b i) (bit_at_lt a i) (bit_at_lt b i)

  pub differs_none : (i : ℕ) → differs_at a b i ≡ false → bit_at a i ≡ bit_at b i
  unfolding differs_at
  differs_none i e = eqb-true _ _ (not-false _ e)

  pub flips-differ : (N : ℕ) → flips N a b ≡ sum N (λ i. flag (differs_at a b i))
  unfolding flips
  flips-differ N = sum-ext N _ _ (λ i l. sym (differs-flag i))

module _ (N : ℕ) (received settled : List ℕ) {first second : List ℕ}
    (pass-r : block_check N received ≡ done first) (pass-s : block_check N settled ≡ done second) where
  -- past the last bit two blocks do not differ, so every run has ended before N + 1
  pub differs-past : (i : ℕ) → N ≤ i → differs_at received settled i ≡ false
  differs-past i h =
      differs-agree received settled i (block-clear N received pass-r i h ∙ sym (block-clear N settled pass-s i h))

  -- to change the received bits that the runs cover is to get the settled block
  pub runs-apply : (e : ℕ) → e < N → bit_at settled e ≡ bit_xor (bit_at received e) (flag (covered (differs_at received settled) (N + 1) e))
  runs-apply e l =
      bit-restored (bit_at received e) (bit_at settled e) (bit_at_lt received e) (bit_at_lt settled e)
      ∙ ap (λ (t : Bool). bit_xor (bit_at received e) (flag t))
      (sym (runs-cover (differs_at received settled) N e (differs-past N (le_refl N)) l ∙ differs-bits received settled e))

-- ---- what the report answers and leaves

pub record Reported (plan : Plan) (received settled list : List ℕ) (reply : Reply) (left : List ℕ) : Type 0 where
  pub answer : report_answer plan received settled list ≡ reply
  pub leaves : report_list plan received settled list ≡ left

module _ (plan : Plan) (received settled list : List ℕ) where
  -- the number of runs of bits at which the two blocks differ
  abbrev count : ℕ
  count = run_count (differs_at received settled) (edge_count plan + 1)

  pub report-tests : report_answer plan received settled list
      ≡ and_then (plan_check plan)
      (and_then (block_check (edge_count plan) received)
      (and_then (block_check (edge_count plan) settled) (refuse_if (ltb (length list) (4 * count)) 16 0 (done (count ∷ [])))))
  unfolding report_answer
  report-tests = refl

  -- a refusal leaves the list as it is
  reported-refused : (number place : ℕ) → report_answer plan received settled list ≡ refused number place
      → Reported plan received settled list (refused number place) list
  unfolding report_list
  reported-refused number place e = record { answer = e; leaves = if_done-refused _ _ list number place e }

  pub report-plan : (number place : ℕ) → plan_check plan ≡ refused number place
      → Reported plan received settled list (refused number place) list
  report-plan number place e = reported-refused number place (report-tests ∙ and_then-refused _ _ number place e)

  module _ {values : List ℕ} (accepted : plan_check plan ≡ done values) where
    pub report-received : (number place : ℕ) → block_check (edge_count plan) received ≡ refused number place
        → Reported plan received settled list (refused number place) list
    report-received number place e =
        reported-refused number place (report-tests ∙ and_then-passed _ _ values accepted ∙ and_then-refused _ _ number place e)

    module _ {first : List ℕ} (pass-r : block_check (edge_count plan) received ≡ done first) where
      pub report-settled-block : (number place : ℕ) → block_check (edge_count plan) settled ≡ refused number place
          → Reported plan received settled list (refused number place) list
      report-settled-block number place e =
          reported-refused number place
          (report-tests ∙ and_then-passed _ _ values accepted ∙ and_then-passed _ _ first pass-r ∙ and_then-refused _ _ number place e)

      module _ {second : List ℕ} (pass-s : block_check (edge_count plan) settled ≡ done second) where
        -- the checks of plan and blocks have passed
        report-count : report_answer plan received settled list ≡ refuse_if (ltb (length list) (4 * count)) 16 0 (done (count ∷ []))
        report-count =
            report-tests ∙ and_then-passed _ _ values accepted ∙ and_then-passed _ _ first pass-r ∙ and_then-passed _ _ second pass-s

        pub report-short : length list < 4 * run_count (differs_at received settled) (edge_count plan + 1)
            → Reported plan received settled list (refused 16 0) list
        report-short short = reported-refused 16 0 (report-count ∙ refuse-taken _ 16 0 _ (lt-ltb _ _ short))

        pub report-done : 4 * run_count (differs_at received settled) (edge_count plan + 1) ≤ length list
            → Reported plan received settled list (done (run_count (differs_at received settled) (edge_count plan + 1) ∷ []))
            (written (run_bytes (differs_at received settled) (edge_count plan + 1)) list)
        unfolding report_list
        report-done room =
            let answers = report-count ∙ refuse-passed _ 16 0 _ (le-ltb _ _ room) in
            record { answer = answers; leaves = if_done-done _ _ list (count ∷ []) answers }
