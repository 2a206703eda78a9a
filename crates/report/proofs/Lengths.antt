-- The lengths of the runs that the correction report lists: they add up to the number of bits in which the two blocks differ.
--   pair_at bytes at        the two-byte number at the index `at`, high byte first (bits specs Bit)
--   written front l        the list l with `front` at its beginning (bits specs Bit)
--   flips N a b            the number of bits 0 .. N - 1 in which two byte strings differ (bits specs Bit)
--   run_start, ends_at, run_count, run_bytes, pair_bytes   where runs begin and end, their number and their bytes (specs Report)
--   differs_at a b i        bit i of the two blocks differs (specs Report)
--   report_answer, report_list   what the service answers, and its list at exit (specs Answer)
--   lengths m bytes        the sum of the lengths in the first m pairs of a list of runs: offset and length, two bytes each
--   ended test m           the sum of the lengths of the runs that end before some i below m
-- At every bit, the runs that have ended and the run that is open have as many bits as have passed the test so far. Blocks of N bits do not
-- differ at bit N, so behind it no run is open.
-- Laws are named by their subject, then by the fact: `pair_at-` is about a two-byte number, `lengths-` about the lengths in a list, `ended-`
-- about those of the runs that have ended, and `report-` about what the service answers and leaves. At the end of a name, `-front` is a list
-- with more behind it; `-one-more` is as in Runs.
use Rattle.std.proofs.Common.{ℕ, zero, suc, ◌+◌, ◌-◌, ◌*◌, ◌≤◌, Bool, true, false, List, [], ◌∷◌, ◌++◌, inl, inr, ◌≡◌, sym, ap, ap₂, ◌∙◌}
use Rattle.std.proofs.Common.{le_refl, add-one, arith, length, drop}
use native.Mathlib.Decide.{dec_le}
use Rattle.bits.specs.Bit.{pair_at, written, flips}
use Rattle.bits.specs.Sum.{sum, flag}
use Rattle.bits.proofs.Bytes.{pair_at-front, pair_at-behind}
use Rattle.bits.proofs.Sums.{sum-zero, sum-one-more, sum-ext, flag_true, flag-false}
use Rattle.inner_code.specs.Reply.{done}
use Rattle.inner_code.proofs.Replies.{and_then-done, refuse-done, if_done-done}
use Rattle.wiring.specs.Plan.{Plan, edge_count}
use Rattle.report.specs.Report.{differs_at, run_start, ends_at, run_count, pair_bytes, run_bytes}
use Rattle.report.specs.Answer.{report_answer, report_list}
use Rattle.report.proofs.Runs.{holds-or-not, start-one-more-inside, start-one-more-outside, start-le, ends-inside, ends-back, ends-empty}
use Rattle.report.proofs.Runs.{run_count-zero, run_count-one-more-ends, run_count-one-more-none, run_bytes-zero, run_bytes-one-more-ends}
use Rattle.report.proofs.Runs.{run_bytes-one-more-none, length-run_bytes, differs-past, flips-differ, report-tests}

-- ---- two-byte numbers

-- the second of two numbers that are written as bytes
pair_at-second : (a b : ℕ) → pair_at (pair_bytes a b) 2 ≡ b
unfolding pair_at pair_bytes
pair_at-second a b = omega arith

-- ---- the lengths in a list of runs

abbrev lengths : ℕ → List ℕ → ℕ
lengths m bytes = sum m (λ p. pair_at bytes (4 * p + 2))

lengths-front : (m : ℕ) (front rest : List ℕ) → 4 * m ≤ length front → lengths m (front ++ rest) ≡ lengths m front
lengths-front m front rest h = sum-ext m _ _ (λ p l. pair_at-front front rest (4 * p + 2) (omega arith))

lengths-written : (m : ℕ) (front l : List ℕ) → 4 * m ≤ length front → lengths m (written front l) ≡ lengths m front
unfolding written
lengths-written m front l = lengths-front m front (drop (length front) l)

-- a run that is appended adds its length
lengths-one-more : (m a b : ℕ) (front : List ℕ) → length front ≡ 4 * m → lengths (m + 1) (front ++ pair_bytes a b) ≡ lengths m front + b
lengths-one-more m a b front e =
    sum-one-more m _
    ∙ ap₂ ◌+◌ (lengths-front m front (pair_bytes a b) (omega arith)) (rw (← e) (pair_at-behind front (pair_bytes a b) 2) ∙ pair_at-second a b)

module _ (test : ℕ → Bool) where
  -- the lengths of the runs that end before some i below m
  abbrev ended : ℕ → ℕ
  ended m = lengths (run_count test m) (run_bytes test m)

  ended-one-more-ends : (m : ℕ) → ends_at test m ≡ true → ended (m + 1) ≡ ended m + (m - run_start test m)
  ended-one-more-ends m e =
      rw (run_count-one-more-ends test m e, run_bytes-one-more-ends test m e)
      (lengths-one-more (run_count test m) (run_start test m) (m - run_start test m) (run_bytes test m) (length-run_bytes test m))

  ended-one-more-none : (m : ℕ) → ends_at test m ≡ false → ended (m + 1) ≡ ended m
  ended-one-more-none m e = ap₂ lengths (run_count-one-more-none test m e) (run_bytes-one-more-none test m e)

  -- a bit that fails the test ends the run that is open, if there is one
  ended-one-more-outside : (m : ℕ) → test m ≡ false → ended (m + 1) ≡ ended m + (m - run_start test m)
  ended-one-more-outside m off =
      elim (dec_le m (run_start test m)) [
        | yes none ↦ omega (arith, ended-one-more-none m (ends-empty test m none))
        | no some ↦ ended-one-more-ends m (ends-back test m off (omega arith))
      ]

  -- each bit that passes is in a run that has ended or in the one that is open
  ended-open : (m : ℕ) → ended m + (m - run_start test m) ≡ sum m (λ i. flag (test i))
  ended-open zero = omega (arith, ap₂ lengths (run_count-zero test) (run_bytes-zero test) ∙ sum-zero _, sum-zero (λ i. flag (test i)))
  ended-open (suc m) = rw (← add-one m, sum-one-more) (elim (holds-or-not (test m)) [
    | inl on ↦ rw (on, flag_true, start-one-more-inside test m on)
        (omega (arith, ended-open m, start-le test m, ended-one-more-none m (ends-inside test m on)))
    | inr off ↦ rw (off, flag-false, start-one-more-outside test m off)
        (omega (arith, ended-open m, ended-one-more-outside m off))
  ])

  -- behind a bit that fails no run is open
  ended-all : (m : ℕ) → test m ≡ false → ended (m + 1) ≡ sum m (λ i. flag (test i))
  ended-all m off = ended-one-more-outside m off ∙ ended-open m

-- ---- the list that the report leaves

-- where the report answers a number, the blocks agree past their last bit and the number is that of their runs
report-means : (plan : Plan) (received settled list : List ℕ) (pairs : ℕ) → report_answer plan received settled list ≡ done (pairs ∷ [])
    → (differs_at received settled (edge_count plan) ≡ false) × (run_count (differs_at received settled) (edge_count plan + 1) ≡ pairs)
report-means plan received settled list pairs e =
    let ((values, accepted), blocks) = and_then-done _ _ (pairs ∷ []) (sym (report-tests plan received settled list) ∙ e) in
    let ((first, pass-r), other) = and_then-done _ _ (pairs ∷ []) blocks in
    let ((second, pass-s), tests) = and_then-done _ _ (pairs ∷ []) other in
    let (roomy, last) = refuse-done _ 16 0 _ (pairs ∷ []) tests in
    (differs-past (edge_count plan) received settled pass-r pass-s (edge_count plan) (le_refl _), cc last)

-- the lengths of the runs that the report lists add up to the bits in which the two blocks differ
pub report-lengths : (plan : Plan) (received settled list : List ℕ) (pairs : ℕ)
    → report_answer plan received settled list ≡ done (pairs ∷ [])
    → sum pairs (λ p. pair_at (report_list plan received settled list) (4 * p + 2)) ≡ flips (edge_count plan) received settled
unfolding report_list
report-lengths plan received settled list pairs e =
    let N : ℕ = edge_count plan in
    let test : ℕ → Bool = differs_at received settled in
    let runs : List ℕ = run_bytes test (N + 1) in
    let (agree, counted) = report-means plan received settled list pairs e in
    ap (lengths pairs) (if_done-done _ _ list (pairs ∷ []) e)
    ∙ lengths-written pairs runs list (omega (arith, length-run_bytes test (N + 1)))
    ∙ ap (λ (m : ℕ). lengths m runs) (sym counted) ∙ ended-all test N agree ∙ sym (flips-differ received settled N)
