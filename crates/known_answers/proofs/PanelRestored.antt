-- Demand 3 for a panel: a codeword with at most F flips, where F is covered, is loaded into a state and swept call by call. The codeword stands
-- in the state after at most as many calls as sweeps are named for F, and stays.
--   Block N block, Codeword plan block   a block of N bits, and one of this plan that is a codeword (wiring specs Block)
--   flips N a b                          the number of bits 0 .. N - 1 in which two byte strings differ (bits specs Bit)
--   margin_answer plan F                  what the margin answers for F flips: the sweeps named for them where F is covered (radius specs Answer)
--   Covered plan F q                     the plan is accepted, F flips are covered, and q sweeps are named for them (radius proofs Answers)
--   first_bound m F                       the first b of the margin's chain: 2F/D with the left D, rounded down (radius proofs MarginChain)
--   loaded_state plan block               the state that loading gives (panel specs State)
--   SweptHome plan state settled count   each of the first `count` sweep calls makes a sweep, none before the last of them settles the state,
--                                        and from it on the state stays, with the settled block (panel specs Calls)
-- and here
--   zeros plan                           an output of a block's length: where the decoder call writes that the sweep calls are compared with
-- Laws are named by their subject, then by the fact: `first-` about the first b, `named-` about the sweeps that are named.
-- The theorem is panel-restored. It sets no limit on q: by named-few no plan names more sweeps than the 4,096 that a state counts.
use Rattle.std.proofs.Common.{ℕ, ◌*◌, ◌≤◌, ◌<◌, List, [], ◌∷◌, inl, inr, ◌≡◌, sym, ap, ◌∙◌, eq-zero-or-pos, le_refl, mul-le-mul_left}
use Rattle.std.proofs.Common.{mul-le-mul_right, arith, length, take, replicate}
use native.Mathlib.Decide.{dec_le}
use lib.ListN.{length-replicate}
use Rattle.bits.specs.Bit.{flips}
use Rattle.bits.proofs.Fronts.{written-part}
use Rattle.inner_code.specs.Reply.{done}
use Rattle.inner_code.specs.Sheet.{degree}
use Rattle.wiring.specs.Plan.{Plan, edge_count, right}
use Rattle.wiring.specs.Block.{block_bytes, Block, Codeword}
use Rattle.wiring.proofs.Blocks.{block-sized}
use Rattle.wiring.proofs.Permutation.{wired-even}
use Rattle.wiring.proofs.Plans.{plan-sound}
use Rattle.spans.proofs.Checking.{spans-none}
use Rattle.decoder.specs.Answer.{decode_output}
use Rattle.radius.specs.Margin.{Measures, slack}
use Rattle.radius.specs.Answer.{measures_of, margin_answer}
use Rattle.radius.proofs.Calls.{call-free}
use Rattle.radius.proofs.Answers.{Covered, margin-means}
use Rattle.radius.proofs.MarginChain.{first_bound, covered-slack, chain_next, named-is, named-le}
use Rattle.radius.proofs.PlanRanges.{distance_most}
use Rattle.radius.proofs.Guarantee.{demand3}
use Rattle.panel.specs.State.{loaded_state}
use Rattle.panel.specs.Calls.{SweptHome}
use Rattle.panel.proofs.Stepping.{steps-settle}

-- ---- the sweeps that are named are few

module _ (plan : Plan) (F q : ℕ) (c : Covered plan F q) where
  abbrev first : ℕ
  first = first_bound (measures_of plan) F

  -- A first b that is not 0 has a covered step after it, which goes right. So 2·dl·b is below D·nr with the right D, and this is at most
  -- dr·nr, which is nl·dl.
  first-low : 0 < first → 2 * first < plan.nl
  unfolding slack
  first-low pos =
      let m : Measures = measures_of plan in
      let (sheets, wired) = plan-sound plan c.accepted in
      let step = (chain_next m right first pos (λ none. c.some (c.named ∙ named-is m F c.within ∙ none))).0 in
      let below = (covered-slack m right first step).0 in
      let most = mul-le-mul_right plan.nr (distance_most plan.right_sheet (sheets right)) in
      elim (dec_le plan.nl (2 * first)) [
        | yes high ↦ absurd (omega (arith, wired-even wired, mul-le-mul_left (degree plan.left_sheet) high))
        | no low ↦ omega arith
      ]

  -- there are at most 2,048 left vertices
  first-few : first ≤ 1023
  first-few =
      elim (eq-zero-or-pos first) [
        | inl none ↦ omega arith
        | inr pos ↦ omega (arith, first-low pos, (plan-sound plan c.accepted).1.left-fits.n-high)
      ]

pub named-few : (plan : Plan) (F q : ℕ) → margin_answer plan F ≡ done (q ∷ []) → q ≤ 1024
named-few plan F q margin =
    let covered = margin-means plan F q margin in
    omega (arith, covered.named, named-le (measures_of plan) F, first-few plan F q covered)

-- the decoder call that the sweep calls are compared with writes into as many bytes as a block has

abbrev zeros : Plan → List ℕ
zeros plan = replicate (block_bytes (edge_count plan)) 0

-- ---- demand 3 for a panel

pub panel-restored : (plan : Plan) (sent received : List ℕ) (F q : ℕ)
    → Codeword plan sent
    → Block (edge_count plan) received
    → flips (edge_count plan) sent received ≤ F
    → margin_answer plan F ≡ done (q ∷ [])
    → (count : ℕ) × (count ≤ q) × SweptHome plan (loaded_state plan received) sent count
panel-restored plan sent received F q code block few margin =
    let size : ℕ = block_bytes (edge_count plan) in
    let enough : q ≤ 4096 = omega (arith, named-few plan F q margin) in
    let accepted = (margin-means plan F q margin).accepted in
    let room : size ≤ length (zeros plan) = rw length-replicate (le_refl _) in
    let free = call-free plan received [] (zeros plan) 4096 accepted block (spans-none (edge_count plan)) room (le_refl 4096) in
    let call = demand3 plan sent received (zeros plan) F q 4096 code block.bytes few margin enough free in
    let sized : size ≡ length sent = sym (block-sized (edge_count plan) sent code.block-of.checked) in
    let home : take size (decode_output plan received [] (zeros plan) 4096) ≡ sent =
    ap (take size) call.restored ∙ written-part sent (zeros plan) size sized in
    (call.count, call.within, rw home at (steps-settle plan received (zeros plan) call.count call.answer))
