-- The checks of a graph: a block is a codeword exactly if its bits pass n·d parity checks of each side, one for every vertex and every
-- digit of what the echelon form leaves of the vertex's word. The reduction is additive, so each such digit is a parity of the word's
-- digits, and the digit at edge i counts where the reduction of 2^(d - 1 - i) has a 1. The sides may differ.
--   mask side j i               1 where digit j of a reduced word depends on the word's digit at edge i (specs Elimination)
--   vertex_check side v j        the coefficients of digit j at vertex v of a side (specs Elimination)
--   side_check side i            check i of a side: digit i % d at vertex i / d (specs Elimination)
--   graph_check sides m          check m of a graph: the checks of the left side first and then those of the right (specs Elimination)
--   plan_checks plan             the checks of a plan (specs Elimination)
--   check_number sides name v j  the number of the check of digit j at vertex v of a side
--   reduced row k w             the word w reduced by the echelon form of the rows (inner_code specs Reduction)
--   parity, Solution            a check's value, and vectors that pass (Elimination)
-- Laws are named by their subject, then by the fact: `vertex-` and `side-` are about the checks of one vertex and one side, `check-` about
-- the numbering, `codeword-` and `solves-` lead from codewords to checks and back. `-residue` leads to what the reduction leaves.
use Rattle.std.proofs.Common.{ℕ, zero, suc, ◌+◌, ◌-◌, ◌*◌, ◌/◌, ◌%◌, ◌^◌, ◌≤◌, ◌<◌, true, List, ◌≡◌, refl, sym, ap, ap₂, ◌∙◌, mul_assoc}
use Rattle.std.proofs.Common.{mul-one, mul-zero, pow-suc, div-lt_iff_lt-mul, lt_of_le_of_lt, not-suc-le-zero, lt-suc_self, arith, bit_xor}
use Rattle.std.proofs.Common.{pow_pos, eqb, lt-ltb, le-ltb}
use mathlib.Core.Logic.{◌↔◌}
use native.Mathlib.Nat.{le_step}
use native.Mathlib.Decide.{dec_le}
use lib.Arith.{digits_lt, digits_div, digits_mod}
use lib.Bits.{xor_shifted}
use Rattle.bits.specs.Bit.{digit, word, bit_at}
use Rattle.bits.specs.Sum.{sum, flag}
use Rattle.bits.proofs.Sums.{sum-ext, sum-swap, sum-scale-right, sum-at, flag_same}
use Rattle.bits.proofs.Xor.{digit_lt, digit-zero, digit-ext, xor-digit, xor-pow, xor-bits-parity}
use Rattle.bits.proofs.Bytes.{bit_at_lt}
use Rattle.inner_code.specs.Reply.{done}
use Rattle.inner_code.specs.Code.{is_codeword}
use Rattle.inner_code.specs.Reduction.{reduced}
use Rattle.inner_code.proofs.EchelonForm.{reduced-le, reduced-xor, reduced-zero, codeword-reduced, reduced-codeword}
use Rattle.wiring.specs.Plan.{Plan, Side, edge_count, left, right, side_of}
use Rattle.wiring.specs.Wiring.{plan_check}
use Rattle.wiring.specs.Block.{vertex_word, satisfied, is_codeword_block}
use Rattle.wiring.specs.declared.side.SideName.{SideName}
use Rattle.wiring.proofs.Permutation.{Whole, entry_lt}
use Rattle.wiring.proofs.Plans.{plan-joined}
use Rattle.wiring.proofs.VertexWords.{vertex-lt}
use Rattle.wiring.proofs.CodewordBlocks.{codeword-block-each, codeword-block-back}
use Rattle.messages.specs.Elimination.{parity, mask, vertex_check, side_check, graph_check, plan_checks}
use Rattle.messages.proofs.Elimination.{Bits, Solution, parity-suc, parity-ext, parity-none}

-- ---- the digits of an additive map

-- T takes an exclusive-or to the exclusive-or of its values, so a digit of its value is a parity of the word's digits
additive-digit : (d : ℕ) (T : ℕ → ℕ) → ((x y : ℕ) → T (bit_xor x y) ≡ bit_xor (T x) (T y)) → T 0 ≡ 0
    → (f : ℕ → ℕ) → Bits d f → (j : ℕ)
    → digit (T (word d f)) j ≡ parity d (λ i. digit (T (2 ^ (d - 1 - i))) j) f
unfolding word
additive-digit zero T add none f bits j = ap (λ (x : ℕ). digit x j) none ∙ digit-zero j ∙ sym (parity-none 0 _ f (λ i l. absurd (not-suc-le-zero l)))
additive-digit (suc d) T add none f bits j =
    ap (λ (x : ℕ). digit (T x) j) (sym (xor_shifted (word d f) 1 (f d) last))
    ∙ ap (λ (x : ℕ). digit x j) (add (word d f * 2) (f d))
    ∙ xor-digit (T (word d f * 2)) (T (f d)) j
    ∙ xor-bits-parity _ _ (digit_lt _ j) (digit_lt _ j)
    ∙ ap₂ (λ (x y : ℕ). (x + y) % 2)
    (additive-digit d (λ x. T (x * 2)) (λ x y. ap T (sym (xor-pow x y 1)) ∙ add (x * 2) (y * 2)) none f (λ i l. bits i (le_step l)) j
    ∙ parity-ext d _ _ f f (λ i l. ap (λ (x : ℕ). digit (T x) j * f i) (shifted i l)))
    (lowest (f d) last)
    ∙ sym (parity-suc d _ f)
  where
    last : f d < 2
    last = bits d (lt-suc_self d)

    shifted : (i : ℕ) → i < d → 2 ^ (d - 1 - i) * 2 ≡ 2 ^ (suc d - 1 - i)
    shifted i l = let more : suc d - 1 - i ≡ suc (d - 1 - i) = omega arith in rw (more, pow-suc)

    lowest : (b : ℕ) → b < 2 → digit (T b) j ≡ digit (T (2 ^ (suc d - 1 - d))) j * b
    lowest zero l = ap (λ (x : ℕ). digit x j) none ∙ digit-zero j ∙ sym (mul-zero _)
    lowest (suc zero) l = let first : suc d - 1 - d ≡ 0 = omega arith in rw first (sym (mul-one _))
    lowest (suc (suc b)) l = absurd (omega arith)

-- ---- a sum of which some terms count

-- a sum over all bits, of which only the d bits b i count
sum-gather : (N d : ℕ) (b c f : ℕ → ℕ) → ((i : ℕ) → i < d → b i < N)
    → sum N (λ e. sum d (λ i. flag (eqb (b i) e) * c i) * f e) ≡ sum d (λ i. c i * f (b i))
sum-gather N d b c f inside =
    sum-ext N _ _ (λ e l. sym (sum-scale-right d (f e) _))
    ∙ sum-swap N d (λ e i. flag (eqb (b i) e) * c i * f e)
    ∙ sum-ext d _ _ (λ i l.
    sum-ext N _ _ (λ e k. rw (flag_same (b i) e e (b i) sym sym) (mul_assoc _ (c i) (f e))) ∙ sum-at N (b i) (λ e. c i * f e) (inside i l))

-- ---- one vertex

module _ (side : Side) where
  -- a check of a vertex looks at the bits of its d edges alone
  pub vertex-parity : (N : ℕ) (f : ℕ → ℕ) (v j : ℕ) → ((i : ℕ) → i < side.d → side.bit (v * side.d + i) < N)
      → parity N (vertex_check side v j) f ≡ parity side.d (mask side j) (λ i. f (side.bit (v * side.d + i)))
  unfolding vertex_check parity
  vertex-parity N f v j inside =
      ap (λ (x : ℕ). x % 2) (sum-gather N side.d (λ i. side.bit (v * side.d + i)) (mask side j) f inside)

  -- on a block's bits it is a digit of what the reduction leaves of the vertex's word
  pub vertex-residue : (N : ℕ) (block : List ℕ) (f : ℕ → ℕ) (v j : ℕ)
      → ((i : ℕ) → i < side.d → side.bit (v * side.d + i) < N) → ((e : ℕ) → e < N → bit_at block e ≡ f e)
      → parity N (vertex_check side v j) f ≡ digit (reduced side.row side.k (vertex_word side block v)) j
  unfolding vertex_word mask
  vertex-residue N block f v j inside same =
      vertex-parity N f v j inside
      ∙ parity-ext side.d (mask side j) _ _ _ (λ i l. ap (λ (x : ℕ). mask side j i * x) (sym (same _ (inside i l))))
      ∙ sym
      (additive-digit side.d (reduced side.row side.k) (reduced-xor side.row side.k) (reduced-zero side.row side.k)
      (λ i. bit_at block (side.bit (v * side.d + i))) (λ i l. bit_at_lt block _) j)

  satisfied-is : (block : List ℕ) (v : ℕ) → satisfied side block v ≡ is_codeword side.row side.k (vertex_word side block v)
  unfolding satisfied
  satisfied-is block v = refl

  -- a vertex of whose word the reduction leaves no digit is satisfied
  residue-none : (block : List ℕ) (v : ℕ)
      → ((j : ℕ) → j < side.d → digit (reduced side.row side.k (vertex_word side block v)) j ≡ 0) → satisfied side block v ≡ true
  residue-none block v none =
      satisfied-is block v
      ∙ reduced-codeword side.row side.k _
      (digit-ext side.d _ 0 (lt_of_le_of_lt (reduced-le side.row side.k _) (vertex-lt side block v)) (pow_pos side.d)
      (λ j l. none j l ∙ sym (digit-zero j)))

  side-check : (v j : ℕ) → j < side.d → side_check side (v * side.d + j) ≡ vertex_check side v j
  side-check v j l = ap₂ (λ (x y : ℕ). vertex_check side x y) (digits_div v l) (digits_mod v l)

-- ---- the numbers of the checks

abbrev pub check_number : (SideName → Side) → SideName → ℕ → ℕ → ℕ
check_number sides SideName.Left v j = v * (sides left).d + j
check_number sides SideName.Right v j = (sides left).n * (sides left).d + (v * (sides right).d + j)

module _ (sides : SideName → Side) where
  pub check-left : (m : ℕ) → m < (sides left).n * (sides left).d → graph_check sides m ≡ side_check (sides left) m
  unfolding graph_check
  check-left m l = rw (lt-ltb m _ l)

  check-right : (m : ℕ) → (sides left).n * (sides left).d ≤ m
      → graph_check sides m ≡ side_check (sides right) (m - (sides left).n * (sides left).d)
  unfolding graph_check
  check-right m l = rw (le-ltb m _ l)

  pub check-past : (i : ℕ) → graph_check sides ((sides left).n * (sides left).d + i) ≡ side_check (sides right) i
  check-past i =
      let past : (sides left).n * (sides left).d + i - (sides left).n * (sides left).d ≡ i = omega arith in
      check-right _ (omega arith) ∙ ap (side_check (sides right)) past

  pub check-at : (name : SideName) (v j : ℕ) → v < (sides name).n → j < (sides name).d
      → graph_check sides (check_number sides name v j) ≡ vertex_check (sides name) v j
  check-at SideName.Left v j hv hj = check-left _ (digits_lt hv hj) ∙ side-check (sides left) v j hj
  check-at SideName.Right v j hv hj = check-past _ ∙ side-check (sides right) v j hj

-- ---- codewords and solutions

module _ {N : ℕ} {sides : SideName → Side} (whole : (name : SideName) → Whole N (sides name)) where
  pub check-lt : (name : SideName) (v j : ℕ) → v < (sides name).n → j < (sides name).d → check_number sides name v j < 2 * N
  check-lt SideName.Left v j hv hj = omega (arith, entry_lt (whole left) v j hv hj)
  check-lt SideName.Right v j hv hj = omega (arith, entry_lt (whole right) v j hv hj, (whole left).entries)

  module _ (block : List ℕ) (f : ℕ → ℕ) (same : (e : ℕ) → e < N → bit_at block e ≡ f e) where
    side-residue : (name : SideName) (v j : ℕ) → v < (sides name).n
        → parity N (vertex_check (sides name) v j) f ≡ digit (reduced (sides name).row (sides name).k (vertex_word (sides name) block v)) j
    side-residue name v j hv =
        vertex-residue (sides name) N block f v j (λ i l. (whole name).bit-lt _ (entry_lt (whole name) v i hv l)) same

    -- a codeword passes every check of a side
    side-solves : is_codeword_block sides block ≡ true → (name : SideName) (i : ℕ) → i < N → parity N (side_check (sides name) i) f ≡ 0
    side-solves e name i l =
        let inside : i / (sides name).d < (sides name).n = (div-lt_iff_lt-mul (whole name).degree-pos).1 (rw (whole name).entries l) in
        let read = sym (satisfied-is (sides name) block _) ∙ codeword-block-each sides block e name _ inside in
        side-residue name (i / (sides name).d) (i % (sides name).d) inside
        ∙ ap (λ (x : ℕ). digit x (i % (sides name).d)) (codeword-reduced (sides name).row (sides name).k _ read)
        ∙ digit-zero (i % (sides name).d)

    pub codeword-solves : is_codeword_block sides block ≡ true → Solution N (graph_check sides) (2 * N) f
    codeword-solves e m l =
        elim (dec_le (suc m) ((sides left).n * (sides left).d)) [
          | yes h ↦ ap (λ (a : ℕ → ℕ). parity N a f) (check-left sides m h) ∙ side-solves e left m (omega (arith, (whole left).entries))
          | no h ↦
              ap (λ (a : ℕ → ℕ). parity N a f) (check-right sides m (omega arith))
              ∙ side-solves e right _ (omega (arith, (whole left).entries))
        ]

    pub solves-codeword : Solution N (graph_check sides) (2 * N) f → is_codeword_block sides block ≡ true
    solves-codeword solves =
        codeword-block-back sides block (λ name v hv. residue-none (sides name) block v (λ j hj.
        sym (side-residue name v j hv) ∙ ap (λ (a : ℕ → ℕ). parity N a f) (sym (check-at sides name v j hv hj))
        ∙ solves _ (check-lt name v j hv hj)))

-- the checks of an accepted plan: a block is a codeword exactly if its bits pass them all
pub codeword-checks : {values : List ℕ} (plan : Plan) → plan_check plan ≡ done values
    → (block : List ℕ) (f : ℕ → ℕ) → ((e : ℕ) → e < edge_count plan → bit_at block e ≡ f e)
    → (is_codeword_block (side_of plan) block ≡ true) ↔ Solution (edge_count plan) (plan_checks plan) (2 * edge_count plan) f
unfolding plan_checks
codeword-checks plan accepted block f same =
    let whole = (plan-joined plan accepted).whole in
    (codeword-solves whole block f same, solves-codeword whole block f same)
