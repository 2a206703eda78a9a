-- What docs/GUARANTEE.md promises of flipped and lost bits, of other codewords and of the vertices visited, each once more in the papers' words
-- and from the theorem alone: a theorem that says less, or asks for more, is refused here. tests/weaker has such theorems.
-- The calls are those that a host makes: the plan is accepted, since the margin answers, the received block is one of its blocks, the output has
-- room for a block, and the limit is at least the sweeps named for F and at most 4,096.
--   Codeword plan block, Block N block  a block of this plan that is a codeword, and a block of N bits (wiring specs Block)
--   flips N a b                 the number of bits 0 .. N - 1 in which two blocks differ (bits specs Bit)
--   is_lost lost i, flips_outside N lost a b  bit i is in a span, and the bits outside in which two blocks differ (spans specs Spans)
--   margin_answer plan F         what the margin answers for F flips (radius specs Answer)
--   swept_block plan i block     the block after i sweeps (decoder specs Decode)
-- and here
--   Returned plan sent received lost output H  a decoder call settles, and its output has the sent block at the front and is else untouched
--   b₁, b₂, b₃                  the margin's b: after sweep 1, 2 and 3 at most so many vertices are left with a wrong bit
use Rattle.std.proofs.Common.{ℕ, ◌+◌, ◌-◌, ◌*◌, ◌/◌, ◌≤◌, ◌<◌, true, false, List, [], ◌∷◌, ◌++◌, ◌≡◌, refl, ap, ◌∙◌, arith, lit≤, length}
use Rattle.std.proofs.Common.{drop}
use lib.Count.{ones, ones_in}
use Rattle.bits.specs.Bit.{digit, pair_at, written, flips}
use Rattle.bits.specs.Sum.{sum, gap, flag}
use Rattle.bits.specs.Search.{some_below, first_failing, least, largest}
use Rattle.inner_code.specs.Reply.{done, refuse_if, and_then}
use Rattle.inner_code.specs.Code.{combination, is_codeword, distance}
use Rattle.inner_code.specs.Sheet.{degree, row_count, row_of, row_check, rows_check, sheet_check}
use Rattle.wiring.specs.Plan.{Plan, edge_count, edge_of, left, right, side_bit, side_of}
use Rattle.wiring.specs.Wiring.{entry_check, entries_check, count_faulty, wiring_check, plan_check, edges_between}
use Rattle.wiring.specs.Block.{block_bytes, is_codeword_block, Block, Codeword}
use Rattle.wiring.specs.declared.side.SideName.{SideName}
use Rattle.wiring.proofs.Blocks.{block-sized}
use Rattle.spans.specs.Spans.{spans_check, is_lost, lost_bits, flips_outside}
use Rattle.spans.proofs.Checking.{spans-none}
use Rattle.spans.proofs.Outside.{outside-none, lost-bits-none}
use Rattle.sweeps.specs.Sweep.{turn}
use Rattle.decoder.specs.Decode.{swept_block}
use Rattle.decoder.specs.Answer.{decode_answer, decode_visits, decode_output}
use Rattle.meetings.specs.Spread.{meeting, unevenness, spread}
use Rattle.radius.specs.Margin.{slack, step_covered, next_bound, bound, chain_end, sweeps_named}
use Rattle.radius.specs.Answer.{distance_of, measures_of, margin_answer}
use Rattle.radius.specs.Demand.{Restored, Mended, visits_bound}
use Rattle.radius.proofs.Calls.{call-free}
use Rattle.radius.proofs.Answers.{margin-means}
use Rattle.radius.proofs.Guarantee.{demand3, demand3-alone}
use Rattle.radius.proofs.Distance.{codewords-apart}
use Rattle.radius.proofs.LostSpans.{lost-restored}
use Rattle.radius.proofs.VisitsBound.{visits-promised}
use Rattle.known_answers.specs.Table.{triple_plan}
use Rattle.known_answers.proofs.PanelRestored.{named-few}

abbrev pub Returned : Plan → List ℕ → List ℕ → List ℕ → List ℕ → ℕ → Type 0
Returned plan sent received lost output H =
    (count : ℕ) × (decode_answer plan received lost output H ≡ done (count ∷ []))
    × (decode_output plan received lost output H ≡ sent ++ drop (block_bytes (edge_count plan)) output)

-- ---- each part of what a call is promised, by itself

sent_front : (plan : Plan) (sent output : List ℕ) → Codeword plan sent → written sent output ≡ sent ++ drop (block_bytes (edge_count plan)) output
unfolding written
sent_front plan sent output code = ap (λ (m : ℕ). sent ++ drop m output) (block-sized (edge_count plan) sent code.block-of.checked)

module _ {plan : Plan} {sent received output : List ℕ} {H q : ℕ} (call : Restored plan sent received output H q) where
  restored-answer : decode_answer plan received [] output H ≡ done (call.count ∷ [])
  restored-answer = call.answer

  restored-within : call.count ≤ q
  restored-within = call.within

  restored-settled : is_codeword_block (side_of plan) (swept_block plan call.count received) ≡ true
  restored-settled = call.settled

  restored-first : (i : ℕ) → i < call.count → is_codeword_block (side_of plan) (swept_block plan i received) ≡ false
  restored-first i l = call.first i l

  restored-block : Codeword plan sent → decode_output plan received [] output H ≡ sent ++ drop (block_bytes (edge_count plan)) output
  restored-block code = call.restored ∙ sent_front plan sent output code

module _ {plan : Plan} {sent received lost output : List ℕ} {H : ℕ} (call : Mended plan sent received lost output H) where
  mended-answer : decode_answer plan received lost output H ≡ done (call.count ∷ [])
  mended-answer = call.answer

  mended-block : Codeword plan sent → decode_output plan received lost output H ≡ sent ++ drop (block_bytes (edge_count plan)) output
  mended-block code = call.restored ∙ sent_front plan sent output code

-- ---- a host's call

module _ (plan : Plan) (sent received : List ℕ) (F q : ℕ) (code : Codeword plan sent) (block : Block (edge_count plan) received)
    (margin : margin_answer plan F ≡ done (q ∷ [])) where
  abbrev N : ℕ
  N = edge_count plan

  accepted : plan_check plan ≡ done []
  accepted = (margin-means plan F q margin).accepted

  module _ (output : List ℕ) (H : ℕ) (room : block_bytes N ≤ length output) (enough : q ≤ H) (limited : H ≤ 4096) where
    flipped-restored : flips N sent received ≤ F → Restored plan sent received output H q
    flipped-restored few =
        demand3 plan sent received output F q H code block.bytes few margin enough
        (call-free plan received [] output H accepted block (spans-none N) room limited)

    -- the first promise: at most F bits are flipped
    pub flipped-returns : flips N sent received ≤ F
        → (count : ℕ) × (decode_answer plan received [] output H ≡ done (count ∷ []))
        × (count ≤ q)
        × (is_codeword_block (side_of plan) (swept_block plan count received) ≡ true)
        × ((i : ℕ) → i < count → is_codeword_block (side_of plan) (swept_block plan i received) ≡ false)
        × (decode_output plan received [] output H ≡ sent ++ drop (block_bytes N) output)
    flipped-returns few =
        let call = flipped-restored few in
        (call.count, restored-answer call, restored-within call, restored-settled call, restored-first call, restored-block call code)

    lost-mended : (lost : List ℕ) → spans_check N lost ≡ done [] → 2 * flips_outside N lost sent received + lost_bits N lost ≤ 2 * F
        → Mended plan sent received lost output H
    lost-mended lost listed few =
        lost-restored plan sent received lost output F q H code block.bytes few margin enough
        (call-free plan received lost output H accepted block listed room limited)

    -- the fourth: f bits are lost and e of the others are flipped, and 2e + f is at most 2F
    pub lost-returns : (lost : List ℕ) → spans_check N lost ≡ done []
        → 2 * flips_outside N lost sent received + sum N (λ i. flag (is_lost lost i)) ≤ 2 * F → Returned plan sent received lost output H
    unfolding lost_bits
    lost-returns lost listed few = let call = lost-mended lost listed few in (call.count, mended-answer call, mended-block call code)

    -- with no flip outside the spans, twice as many bits may be lost as may be flipped
    pub only-lost-returns : (lost : List ℕ) → spans_check N lost ≡ done [] → flips_outside N lost sent received ≡ 0
        → sum N (λ i. flag (is_lost lost i)) ≤ 2 * F → Returned plan sent received lost output H
    only-lost-returns lost listed none few = lost-returns lost listed (omega arith)

    -- with an empty list, it is the first promise's block
    pub none-lost-returns : flips N sent received ≤ F → Returned plan sent received [] output H
    unfolding lost_bits
    none-lost-returns few = lost-returns [] (spans-none N) (omega (arith, outside-none N sent received, lost-bits-none N))

  -- no plan names more than 1,024 sweeps, so that limit is enough for whatever is covered
  pub longest-returns : (output : List ℕ) → block_bytes N ≤ length output → flips N sent received ≤ F → Returned plan sent received [] output 1024
  longest-returns output room few = none-lost-returns output 1024 room (named-few plan F q margin) (lit≤ tt) few

  -- the second: every codeword but the sent one is more than F bits away from the received block
  pub others-further : flips N sent received ≤ F → (other : List ℕ) → Codeword plan other → (other ≡ sent → ⊥) → F < flips N other received
  others-further few other code' differs = omega (arith, demand3-alone plan sent received other F q code block few margin code' differs)

-- ---- the third: two codewords of a plan that covers F flips differ in more than 2F bits

pub codewords-further : (plan : Plan) (a b : List ℕ) (F q : ℕ) → Codeword plan a → Codeword plan b → margin_answer plan F ≡ done (q ∷ [])
    → (a ≡ b → ⊥) → 2 * F < flips (edge_count plan) a b
codewords-further plan a b F q code-a code-b margin differ = omega (arith, codewords-apart plan a b F q code-a code-b margin differ)

-- on a plan at hand: it covers one flip, so its two codewords differ in all three bits

triple-margin : margin_answer triple_plan 1 ≡ done (1 ∷ [])
unfolding
    margin_answer plan_check sheet_check rows_check row_check wiring_check count_faulty entries_check entry_check and_then refuse_if edge_of side_bit edges_between
    degree row_count row_of pair_at digit combination is_codeword some_below first_failing least largest distance ones ones_in sum gap flag meeting
    unevenness spread slack step_covered next_bound bound chain_end sweeps_named turn
triple-margin = refl

triple-edges : edge_count triple_plan ≡ 3
unfolding degree
triple-edges = refl

pub triple-apart : (a b : List ℕ) → Codeword triple_plan a → Codeword triple_plan b → (a ≡ b → ⊥) → 3 ≤ flips 3 a b
triple-apart a b code-a code-b differ = rw triple-edges at (codewords-apart triple_plan a b 1 1 code-a code-b triple-margin differ)

-- ---- the fifth, for any number of sweeps named, and written out for two, three and four

module _ (plan : Plan) (F : ℕ) where
  abbrev dl : ℕ
  dl = degree plan.left_sheet

  abbrev dr : ℕ
  dr = degree plan.right_sheet

  abbrev D : SideName → ℕ
  D name = distance_of (side_of plan name)

  -- the next b of a step with this A
  abbrev stepped : ℕ → ℕ → ℕ
  stepped A b = 4 * plan.nr * spread (side_of plan) * b / (A * A)

  abbrev b₁ : ℕ
  b₁ = 2 * F / D left

  abbrev b₂ : ℕ
  b₂ = stepped (D right * plan.nr - 2 * dl * b₁) b₁

  abbrev b₃ : ℕ
  b₃ = stepped (D left * plan.nr - 2 * dl * b₂) b₂

  module _ (sent received output : List ℕ) (H : ℕ) (code : Codeword plan sent) (block : Block (edge_count plan) received)
      (few : flips (edge_count plan) sent received ≤ F) where
    abbrev visits : ℕ
    visits = decode_visits plan received [] output H

    promised : (q : ℕ) → margin_answer plan F ≡ done (q ∷ []) → visits ≤ visits_bound plan F q
    promised q margin = visits-promised plan sent received output F q H code block.bytes few margin

    pub visits-of-any : (q : ℕ) → margin_answer plan F ≡ done (q ∷ [])
        → visits
        ≤ plan.nl + plan.nr
        + sum (q - 2) (λ i. bound (measures_of plan) F i + (side_of plan (turn (i + 1))).d * bound (measures_of plan) F (i + 1))
    unfolding visits_bound
    visits-of-any q margin = promised q margin

    pub visits-of-two : margin_answer plan F ≡ done (2 ∷ []) → visits ≤ plan.nl + plan.nr
    unfolding visits_bound sum
    visits-of-two margin = omega (arith, promised 2 margin)

    pub visits-of-three : margin_answer plan F ≡ done (3 ∷ []) → visits ≤ plan.nl + plan.nr + (b₁ + dr * b₂)
    unfolding visits_bound sum turn bound next_bound slack
    visits-of-three margin = omega (arith, promised 3 margin)

    pub visits-of-four : margin_answer plan F ≡ done (4 ∷ []) → visits ≤ plan.nl + plan.nr + (b₁ + dr * b₂) + (b₂ + dl * b₃)
    unfolding visits_bound sum turn bound next_bound slack
    visits-of-four margin = omega (arith, promised 4 margin)
