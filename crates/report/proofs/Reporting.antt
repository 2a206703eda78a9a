-- The report as the code makes it: what two blocks say of a stretch of bits, runs that are passed a stretch at a time, runs that are stored
-- one behind the other, and the outcomes at the number of bits that the code has.
--   Held a b N           the bytes of both blocks hold N bits, 32,768 at most (specs Agreement)
--   Agreeing a b N i m   the m bits from bit i on agree, and where m is 0 bit i differs; they end before N + 1 (specs Agreement)
--   differs_at a b i      bit i of the two blocks differs (specs Report)
--   run_start, ends_at, run_count, run_bytes, pair_bytes   where runs begin and end, their number and their bytes (specs Report)
--   written front l      the list l with `front` at its beginning (bits specs Bit)
--   sets l i vs          the list l with `vs` stored from index i on (lib.Seq)
--   Outcome .. reply left   `reply` is what the service answers and `left` is the list that it leaves, by the names of its clauses
-- A stretch is m bits from bit i on, at least one, that all fail the test: a run may end before it, and none begins in it.
-- Laws are named by their subject, then by the fact: `agreeing-` is about what two blocks say, `inside-` about runs after one bit that
-- passes, `stretch-` about runs after a stretch, `written-` about the list with the runs that have ended, `outcome-` about the service, one
-- outcome each, in the order of its checks. At the end of a name, `-ends` is a run that ends before the stretch, `-none` no such run.
-- `stored-pair` is about the stores of one run; `blocks-held` leads from the checks to what a walk over the bits needs.
use Rattle.std.proofs.Common.{ℕ, zero, suc, ◌+◌, ◌-◌, ◌*◌, ◌/◌, ◌%◌, ◌≤◌, ◌<◌, Bool, true, false, not, List, [], ◌∷◌, ◌++◌, ◌≡◌, refl, sym}
use Rattle.std.proofs.Common.{ap, ◌∙◌, add-zero, add-suc, lt-suc_self, not-suc-le-zero, add-one, arith, length, get_or, set, eqb, eqb-true}
use Rattle.std.proofs.Common.{ne_eqb}
use native.Mathlib.Nat.{le_step}
use lib.Seq.{sets}
use borrow.Author.Tests.{eqb-false}
use mir.Val.{bool_byte}
use Rattle.bits.specs.Bit.{bit_at, written}
use Rattle.inner_code.specs.Reply.{Reply, done, refused}
use Rattle.wiring.specs.Wiring.{plan_check}
use Rattle.wiring.specs.Block.{block_bytes, block_check}
use Rattle.wiring.proofs.Blocks.{block-sized}
use Rattle.report.specs.Report.{differs_at, run_start, ends_at, run_count, pair_bytes, run_bytes}
use Rattle.report.specs.Answer.{report_answer, report_list}
use Rattle.wiring.specs.Plan.{Plan, edge_count}
use Rattle.report.specs.Agreement.{Held, Agreeing}
use Rattle.bits.proofs.Fronts.{length-written, written-more}
use Rattle.report.proofs.Runs.{start-one-more-outside, ends-back, ends-inside, ends-empty, differs-bits, differs-agree, run_count-mono, length-run_bytes}
use Rattle.report.proofs.Runs.{run_count-one-more-ends, run_count-one-more-none, run_bytes-one-more-ends, run_bytes-one-more-none}
use Rattle.report.proofs.Runs.{Reported, report-plan, report-received, report-settled-block, report-short, report-done}

-- ---- what two blocks say of a stretch

module _ (a b : List ℕ) where
  bits-differ : (i : ℕ) → (bit_at a i ≡ bit_at b i → ⊥) → differs_at a b i ≡ true
  bits-differ i e = differs-bits a b i ∙ ap not (ne_eqb _ _ e)

  -- bits of equal bytes are equal
  byte-agrees : (i j : ℕ) → i % 8 ≡ 0 → get_or a (i / 8) 0 ≡ get_or b (i / 8) 0 → j < 8 → bit_at a (i + j) ≡ bit_at b (i + j)
  unfolding bit_at
  byte-agrees i j border e l = let same : (i + j) / 8 ≡ i / 8 = omega arith in rw (same, e)

  module _ (N i : ℕ) where
    pub agreeing-byte : i % 8 ≡ 0 → i + 8 ≤ N → get_or a (i / 8) 0 ≡ get_or b (i / 8) 0 → Agreeing a b N i 8
    agreeing-byte border inside e =
        record {
          within = omega arith;
          none = λ z. absurd (omega arith);
          each = λ j l. differs-agree a b (i + j) (byte-agrees i j border e l);
        }

    module _ (x y : ℕ) (read_a : x ≡ bit_at a i) (read-b : y ≡ bit_at b i) (inside : i ≤ N) where
      agreeing-bit : x ≡ y → Agreeing a b N i 1
      agreeing-bit e =
          record {
            within = omega arith;
            none = λ z. absurd (omega arith);
            each = λ j l. let same : i + j ≡ i = omega arith in rw same (differs-agree a b i (sym read_a ∙ e ∙ read-b));
          }

      agreeing-none : (x ≡ y → ⊥) → Agreeing a b N i 0
      agreeing-none e =
          record {
            within = omega arith;
            none = λ z. bits-differ i (λ q. e (read_a ∙ q ∙ sym read-b));
            each = λ j l. absurd (not-suc-le-zero l);
          }

      pub agreeing-flag : (t : Bool) → eqb x y ≡ t → Agreeing a b N i (bool_byte t)
      agreeing-flag true e = agreeing-bit (eqb-true x y e)
      agreeing-flag false e = agreeing-none (eqb-false x y e)

-- ---- runs after a bit and after a stretch

module _ (test : ℕ → Bool) (i : ℕ) where
  pub inside-count : test i ≡ true → run_count test (i + 1) ≡ run_count test i
  inside-count e = run_count-one-more-none test i (ends-inside test i e)

  pub inside-bytes : test i ≡ true → run_bytes test (i + 1) ≡ run_bytes test i
  inside-bytes e = run_bytes-one-more-none test i (ends-inside test i e)

  -- the m bits from bit i on fail the test
  abbrev Fails : ℕ → Type 0
  Fails m = (j : ℕ) → j < m → test (i + j) ≡ false

  pub stretch-start : (m : ℕ) → 0 < m → Fails m → run_start test (i + m) ≡ i + m
  stretch-start zero some fails = absurd (not-suc-le-zero some)
  stretch-start (suc m) some fails = rw (add-suc, ← add-one (i + m)) (start-one-more-outside test (i + m) (fails m (lt-suc_self m)))

  -- after its first bit a stretch ends no run
  after_first : (m : ℕ) → 0 < m → Fails m
      → (run_count test (i + m) ≡ run_count test (i + 1)) × (run_bytes test (i + m) ≡ run_bytes test (i + 1))
  after_first zero some fails = absurd (not-suc-le-zero some)
  after_first (suc zero) some fails = (refl, refl)
  after_first (suc (suc m)) some fails =
      let shorter : Fails (suc m) = λ j l. fails j (le_step l) in
      let (count, bytes) = after_first (suc m) (omega arith) shorter in
      let none : ends_at test (i + suc m) ≡ false = ends-empty test _ (omega (arith, stretch-start (suc m) (omega arith) shorter)) in
      let one_more : i + suc (suc m) ≡ i + suc m + 1 = omega arith in
      rw one_more (run_count-one-more-none test _ none ∙ count, run_bytes-one-more-none test _ none ∙ bytes)

  module _ (m : ℕ) (some : 0 < m) (fails : Fails m) where
    first-fails : test i ≡ false
    first-fails = rw add-zero at (fails 0 some)

    pub stretch-count-ends : run_start test i < i → run_count test (i + m) ≡ run_count test i + 1
    stretch-count-ends open-run =
        (after_first m some fails).0 ∙ run_count-one-more-ends test i (ends-back test i first-fails open-run)

    pub stretch-count-none : i ≤ run_start test i → run_count test (i + m) ≡ run_count test i
    stretch-count-none no_run = (after_first m some fails).0 ∙ run_count-one-more-none test i (ends-empty test i no_run)

    pub stretch-bytes-ends : run_start test i < i → run_bytes test (i + m) ≡ run_bytes test i ++ pair_bytes (run_start test i) (i - run_start test i)
    stretch-bytes-ends open-run =
        (after_first m some fails).1 ∙ run_bytes-one-more-ends test i (ends-back test i first-fails open-run)

    pub stretch-bytes-none : i ≤ run_start test i → run_bytes test (i + m) ≡ run_bytes test i
    stretch-bytes-none no_run = (after_first m some fails).1 ∙ run_bytes-one-more-none test i (ends-empty test i no_run)

-- ---- runs stored one behind the other

-- four stores behind each other store a pair
pub stored-pair : (l : List ℕ) (at a b : ℕ)
    → set (set (set (set l at (a / 256)) (at + 1) (a % 256)) (at + 2) (b / 256)) (at + 3) (b % 256) ≡ sets l at (pair_bytes a b)
unfolding pair_bytes
stored-pair l at a b =
    let second : at + 1 ≡ suc at = omega arith in
    let third : at + 2 ≡ suc (suc at) = omega arith in
    let fourth : at + 3 ≡ suc (suc (suc at)) = omega arith in
    rw (second, third, fourth)

length-pair : (a b : ℕ) → length (pair_bytes a b) ≡ 4
unfolding pair_bytes
length-pair a b = refl

module _ (test : ℕ → Bool) (N : ℕ) (l : List ℕ) (room : 4 * run_count test (N + 1) ≤ length l) where
  pub written-length : (i : ℕ) → i ≤ N + 1 → length (written (run_bytes test i) l) ≡ length l
  written-length i h = length-written _ l (omega (arith, length-run_bytes test i, run_count-mono test i (N + 1) h))

  module _ (i m : ℕ) (some : 0 < m) (fails : Fails test i m) (inside : i + m ≤ N + 1) (ends : run_start test i < i) where
    -- there is room for the run that ends
    pub written-room : 4 * run_count test i + 4 ≤ length l
    written-room = omega (arith, stretch-count-ends test i m some fails ends, run_count-mono test (i + m) (N + 1) inside)

    pub written-ends : (start at : ℕ) (list : List ℕ) → start ≡ run_start test i → at ≡ 4 * run_count test i → list ≡ written (run_bytes test i) l
        → sets list at (pair_bytes start (i - start)) ≡ written (run_bytes test (i + m)) l
    written-ends start at list from place left =
        let front : List ℕ = run_bytes test i in
        let run : List ℕ = pair_bytes (run_start test i) (i - run_start test i) in
        let behind : 4 * run_count test i ≡ length front = sym (length-run_bytes test i) in
        rw (from, place, left, behind)
        (written-more front run l (omega (arith, written-room, length-run_bytes test i, length-pair (run_start test i) (i - run_start test i)))
        ∙ ap (λ (bytes : List ℕ). written bytes l) (sym (stretch-bytes-ends test i m some fails ends)))

-- ---- what the service answers and leaves, at the bits that the code counts

-- blocks that pass their check hold the bits
pub blocks-held : (N : ℕ) (received settled : List ℕ) → N ≤ 32768 → block_check N received ≡ done [] → block_check N settled ≡ done []
    → Held received settled N
unfolding block_bytes
blocks-held N received settled few pass-r pass-s =
    record { few = few; first = omega (arith, block-sized N received pass-r); second = omega (arith, block-sized N settled pass-s) }

module _ (plan : Plan) (received settled list : List ℕ) where
  abbrev Outcome : Reply → List ℕ → Type 0
  Outcome reply left = record {
    result_value : reply ≡ report_answer plan received settled list;
    list_after : left ≡ report_list plan received settled list;
  }

  outcome : {reply : Reply} {left : List ℕ} → Reported plan received settled list reply left → Outcome reply left
  outcome r = record { result_value = sym r.answer; list_after = sym r.leaves }

  pub outcome-plan : (number place : ℕ) → plan_check plan ≡ refused number place → Outcome (refused number place) list
  outcome-plan number place e = outcome (report-plan plan received settled list number place e)

  -- `edges` is what the code has for the number of bits
  module _ (accepted : plan_check plan ≡ done []) {edges : ℕ} (edges_are : edges ≡ edge_count plan) where
    pub outcome-received : (number place : ℕ) → block_check edges received ≡ refused number place → Outcome (refused number place) list
    outcome-received number place e =
        outcome (report-received plan received settled list accepted number place (rw edges_are at e))

    module _ (pass-r : block_check edges received ≡ done []) where
      pub outcome-settled : (number place : ℕ) → block_check edges settled ≡ refused number place → Outcome (refused number place) list
      outcome-settled number place e =
          outcome (report-settled-block plan received settled list accepted (rw edges_are at pass-r) number place (rw edges_are at e))

      module _ (pass-s : block_check edges settled ≡ done []) (count : ℕ)
          (counted : count ≡ run_count (differs_at received settled) (edges + 1)) where
        pub outcome-short : length list < 4 * count → Outcome (refused 16 0) list
        outcome-short short =
            outcome (report-short plan received settled list accepted (rw edges_are at pass-r) (rw edges_are at pass-s)
            (rw (counted, edges_are) at short))

        pub outcome-done : (left : List ℕ) → 4 * count ≤ length list → left ≡ written (run_bytes (differs_at received settled) (edges + 1)) list
            → Outcome (done (count ∷ [])) left
        outcome-done left room e =
            rw (e, counted, edges_are)
            (outcome (report-done plan received settled list accepted (rw edges_are at pass-r) (rw edges_are at pass-s)
            (rw (counted, edges_are) at room)))
