-- The answer 15: no test before a decoding refuses with it, so that a decoder call which answers 15 has decoded, and its block does not settle.
--   sheet_check, wiring_check, plan_check   the refusals 1 to 10 and 23 of a plan (inner_code specs Sheet, wiring specs Wiring)
--   block_check, spans_check, decode_check  the refusals of a block, of lost spans, and of a decoder call before it decodes (wiring specs Block, spans
--                                        specs Spans, decoder specs Answer)
--   settles_at plan block H               the first count from 0 to H after which the block is a codeword, H + 1 where none is (decoder specs Decode)
--   Passed ..                            what a call knows that nothing stops before it decodes (decoder specs Turns)
--   Not15 reply                          the reply is no refusal with 15
-- Laws are named by their subject, then by the fact: each `-not15` says Not15 of a check; unsettled-means leads from the answer 15 to what it says.
use Rattle.std.proofs.Common.{ℕ, zero, suc, ◌+◌, ◌*◌, ◌^◌, ◌<◌, Bool, true, false, not, ◌||◌, List, [], ⊎_elim, ◌≡◌, refl, sym, ◌∙◌, arith}
use Rattle.std.proofs.Common.{ltb, leb, eqb, length}
use mathlib.Core.Logic.{◌≢◌}
use native.Mathlib.Decide.{dec_le}
use Rattle.bits.specs.Search.{some_below}
use Rattle.inner_code.specs.Code.{is_codeword}
use Rattle.inner_code.specs.Reply.{Reply, done, refused, refuse_if, and_then}
use Rattle.inner_code.specs.Sheet.{degree, row_count, row_of, row_check, rows_check, sheet_check}
use Rattle.wiring.specs.Plan.{Plan, edge_count, edge_of}
use Rattle.wiring.specs.Wiring.{count_faulty, entry_check, entries_check, wiring_check, plan_check}
use Rattle.wiring.specs.Block.{block_bytes, block_check}
use Rattle.wiring.proofs.Blocks.{bits-number}
use Rattle.spans.specs.Spans.{spans_check}
use Rattle.spans.proofs.Checking.{spans-number}
use Rattle.decoder.specs.Decode.{settles_at}
use Rattle.decoder.specs.Answer.{decode_check, decode_answer}
use Rattle.decoder.specs.Turns.{Passed}
use Rattle.decoder.proofs.Settling.{decode-stopped, decode-settled}
use Rattle.decoder.proofs.Trials.{check-means}

abbrev Not15 : Reply → Type 0
Not15 reply = (place : ℕ) → reply ≡ refused 15 place → ⊥

done-not15 : (values : List ℕ) → Not15 (done values)
done-not15 values place e = let z : ◌≡◌ {A = ℕ} 0 1 = cc in omega arith

refuse-not15 : (t : Bool) (n p : ℕ) (next : Reply) → n ≢ 15 → Not15 next → Not15 (refuse_if t n p next)
unfolding refuse_if
refuse-not15 true n p next other rest place e = other (cc)
refuse-not15 false n p next other rest place e = rest place e

then-not15 : (first next : Reply) → Not15 first → Not15 next → Not15 (and_then first next)
unfolding and_then
then-not15 (done values) next one two = two
then-not15 (refused n p) next one two = one

-- ---- the checks of a plan

row-not15 : (d : ℕ) (row : ℕ → ℕ) (i : ℕ) → Not15 (row_check d row i)
unfolding row_check
row-not15 d row i =
    refuse-not15 (leb (2 ^ d) (row i)) 5 i _ (omega arith) (refuse-not15 (is_codeword row i (row i)) 6 i _ (omega arith) (done-not15 []))

rows-not15 : (d : ℕ) (row : ℕ → ℕ) (n : ℕ) → Not15 (rows_check d row n)
unfolding rows_check
rows-not15 d row zero = done-not15 []
rows-not15 d row (suc i) = then-not15 (rows_check d row i) (row_check d row i) (rows-not15 d row i) (row-not15 d row i)

sheet-not15 : (sheet : List ℕ) → Not15 (sheet_check sheet)
unfolding sheet_check
sheet-not15 sheet =
    let d : ℕ = degree sheet in
    let k : ℕ = row_count sheet in
    refuse-not15 (ltb (length sheet) 2) 1 0 _ (omega arith)
    (refuse-not15 (ltb d 2 || ltb 16 d) 2 0 _ (omega arith)
    (refuse-not15 (ltb k 1 || (ltb 11 k || ltb d k)) 3 0 _ (omega arith)
    (refuse-not15 (not (eqb (length sheet) (2 + 2 * k))) 4 0 _ (omega arith) (rows-not15 d (row_of sheet) k))))

entry-not15 : (N : ℕ) (edge : ℕ → ℕ) (i : ℕ) → Not15 (entry_check N edge i)
unfolding entry_check
entry-not15 N edge i =
    refuse-not15 (leb N (edge i)) 9 i _ (omega arith)
    (refuse-not15 (some_below i (λ j. eqb (edge j) (edge i))) 10 i _ (omega arith) (done-not15 []))

entries-not15 : (N : ℕ) (edge : ℕ → ℕ) (m : ℕ) → Not15 (entries_check N edge m)
unfolding entries_check
entries-not15 N edge zero = done-not15 []
entries-not15 N edge (suc i) =
    then-not15 (entries_check N edge i) (entry_check N edge i) (entries-not15 N edge i) (entry-not15 N edge i)

wiring-not15 : (dl dr nl nr : ℕ) (wiring : List ℕ) → Not15 (wiring_check dl dr nl nr wiring)
unfolding wiring_check
wiring-not15 dl dr nl nr wiring =
    refuse-not15 (count_faulty nl || count_faulty nr) 7 0 _ (omega arith)
    (refuse-not15 (not (eqb (nl * dl) (nr * dr))) 23 0 _ (omega arith)
    (refuse-not15 (not (eqb (length wiring) (2 * (nl * dl)))) 8 0 _ (omega arith) (entries-not15 (nl * dl) (edge_of wiring) (nl * dl))))

plan-not15 : (plan : Plan) → Not15 (plan_check plan)
unfolding plan_check
plan-not15 plan =
    then-not15 _ _ (sheet-not15 plan.left_sheet)
    (then-not15 _ _ (sheet-not15 plan.right_sheet) (wiring-not15 _ _ plan.nl plan.nr plan.wiring))

-- ---- a decoder call

block-not15 : (N : ℕ) (block : List ℕ) → Not15 (block_check N block)
block-not15 N block place e = ⊎_elim (λ (q : 15 ≡ 11). omega arith) (λ (q : 15 ≡ 12). omega arith) (bits-number 11 12 N block e)

module _ (plan : Plan) (received output : List ℕ) (H : ℕ) where
  check-not15 : Not15 (decode_check plan received [] output H)
  unfolding decode_check
  check-not15 =
      then-not15 _ _ (plan-not15 plan)
      (then-not15 _ _ (block-not15 (edge_count plan) received)
      (then-not15 (spans_check (edge_count plan) []) _ (λ place e. omega (arith, (spans-number (edge_count plan) [] e).0))
      (refuse-not15 (ltb (length output) (block_bytes (edge_count plan))) 13 0 _ (omega arith)
      (refuse-not15 (ltb 4096 H) 14 0 _ (omega arith) (done-not15 [])))))

  pub unsettled-means : decode_answer plan received [] output H ≡ refused 15 0 → Passed plan received [] output H × (H < settles_at plan received H)
  unsettled-means e = go (decode_check plan received [] output H) refl
    where
      go : (reply : Reply) → decode_check plan received [] output H ≡ reply → Passed plan received [] output H × (H < settles_at plan received H)
      go (refused number place) stops =
          let same = sym (decode-stopped plan received [] output H stops).answer ∙ e in
          let number_is : number ≡ 15 = cc same in
          absurd (check-not15 place (rw number_is at stops))
      go (done values) pass = (
        check-means plan received [] output H pass,
        elim (dec_le (settles_at plan received H) H) [
          | yes in-time ↦
              let clash = sym (decode-settled plan received output H pass _ refl in-time).answer ∙ e in
              let z : ◌≡◌ {A = ℕ} 0 1 = cc clash in
              absurd (omega arith)
          | no late ↦ omega arith
        ],
      )
