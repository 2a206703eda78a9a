-- Message positions: the live positions of the elimination over the checks of an accepted plan.
--   is_position plan j        some codeword has its last 1 at j (specs Position)
--   positions_before plan j   the number of message positions below j (specs Position)
--   message_bits plan         the paper's K, the number of message positions (specs Position)
--   codeword_number plan x    the block of number x is a codeword (specs Position)
--   final_state plan          the state after all checks of the plan (specs Elimination)
--   rank t j                 how many numbers below j pass the test t (Ranks)
-- Laws are named by their subject, then by the fact: `final-` is about the last state, `codeword-number` about the digits of a codeword,
-- `position-` about one message position, `positions-` and `message-bits-` about their number. `-live` leads to the final state, `-rank`
-- to a count.
use Rattle.std.proofs.Common.{ℕ, suc, ◌*◌, ◌^◌, ◌≤◌, ◌<◌, Bool, true, false, ◌&&◌, [], ◌≡◌, refl, sym, ap, ◌∙◌, arith, pow_mono, leb, ltb}
use Rattle.std.proofs.Common.{ltb-true, leb-true, lt-ltb, le-leb}
use mathlib.Core.Bool.{and-eq-true_iff}
use mathlib.Core.Logic.{◌↔◌}
use native.Mathlib.Decide.{dec_le}
use Rattle.bits.specs.Bit.{digit}
use Rattle.bits.specs.Sum.{flag}
use Rattle.bits.proofs.Sums.{sum-ext}
use Rattle.bits.proofs.Xor.{digit_lt}
use Rattle.inner_code.specs.Reply.{done}
use Rattle.bits.specs.Search.{some_below}
use Rattle.bits.proofs.Searches.{some-below, some-found}
use Rattle.wiring.specs.Plan.{Plan, edge_count, side_of}
use Rattle.wiring.specs.Wiring.{plan_check}
use Rattle.wiring.specs.Block.{is_codeword_block}
use Rattle.messages.specs.Position.{block_of, codeword_number, is_position, positions_before, message_bits}
use Rattle.messages.specs.Elimination.{plan_checks, final_state}
use Rattle.messages.proofs.Elimination.{Bits, Solution, Reduced, LastOne, after-reduced, live-last, last-live}
use Rattle.messages.proofs.Checks.{codeword-checks}
use Rattle.messages.proofs.Numbers.{number_of, number_lt, number-digit, number-last, digit-last, last-low, last-high, block_of-bit}
use Rattle.messages.proofs.Ranks.{rank}

-- ---- the final state

pub final-reduced : (plan : Plan)
    → Reduced (edge_count plan) (plan_checks plan) (2 * edge_count plan) (final_state plan)
unfolding final_state
final-reduced plan = after-reduced (edge_count plan) (plan_checks plan) (2 * edge_count plan)

-- ---- the definitions written out

module _ (plan : Plan) where
  pub codeword-number-is : (x : ℕ)
      → codeword_number plan x ≡ is_codeword_block (side_of plan) (block_of (edge_count plan) x)
  unfolding codeword_number
  codeword-number-is x = refl

  pub positions-rank : (j : ℕ) → positions_before plan j ≡ rank (is_position plan) j
  unfolding positions_before rank
  positions-rank j = refl

  pub message-bits-rank : message_bits plan ≡ rank (is_position plan) (edge_count plan)
  unfolding message_bits rank
  message-bits-rank = refl

  position-tests : (j : ℕ)
      → is_position plan j ≡ some_below (2 ^ edge_count plan) (λ x. codeword_number plan x && (leb (2 ^ j) x && ltb x (2 ^ suc j)))
  unfolding is_position
  position-tests j = refl

same_test : (a b : Bool) → (a ≡ true → b ≡ true) → (b ≡ true → a ≡ true) → a ≡ b
same_test true b h k = sym (h refl)
same_test false true h k = k refl
same_test false false h k = refl

module _ (plan : Plan) (accepted : plan_check plan ≡ done []) where
  -- a number is a codeword's exactly if its digits pass the checks
  pub codeword-number : (x : ℕ) (f : ℕ → ℕ) → ((e : ℕ) → e < edge_count plan → digit x e ≡ f e)
      → (codeword_number plan x ≡ true) ↔ Solution (edge_count plan) (plan_checks plan) (2 * edge_count plan) f
  codeword-number x f same =
      let (there, back) = codeword-checks plan accepted (block_of (edge_count plan) x) f (λ e l. block_of-bit _ x e l ∙ same e l) in
      (λ e. there (sym (codeword-number-is plan x) ∙ e), λ h. codeword-number-is plan x ∙ back h)

  pub position-live : (j : ℕ) → is_position plan j ≡ (final_state plan).live j
  position-live j = same_test _ _ there back
    where
      N : ℕ
      N = edge_count plan

      r : Reduced N (plan_checks plan) (2 * N) (final_state plan)
      r = final-reduced plan

      there : is_position plan j ≡ true → (final_state plan).live j ≡ true
      there e =
          let (x, below, passes) = some-found (2 ^ N) _ (sym (position-tests plan j) ∙ e) in
          let (code, range) = (and-eq-true_iff (codeword_number plan x) _).0 passes in
          let (above, under) = (and-eq-true_iff (leb (2 ^ j) x) _).0 range in
          let low : 2 ^ j ≤ x = leb-true _ x above in
          last-live r (digit x) (λ i _. digit_lt x i) ((codeword-number x (digit x) (λ i l. refl)).0 code) j
          (elim (dec_le (suc j) N) [ yes l ↦ l | no h ↦ absurd (omega (arith, pow_mono {i = N} {j = j} (omega arith))) ])
          (digit-last N x j low (ltb-true x _ under))

      back : (final_state plan).live j ≡ true → is_position plan j ≡ true
      back e =
          let row : ℕ → ℕ = (final_state plan).row j in
          let x : ℕ = number_of N row in
          let bits : Bits N row = λ i _. r.row_lt j i in
          let below : x < 2 ^ N = number_lt N row bits in
          let last : LastOne N (digit x) j = number-last N row j bits (r.live-lt j e) (live-last r j e) in
          let code : codeword_number plan x ≡ true = (codeword-number x row (number-digit N row bits)).1 (r.row-solves j e) in
          let above : leb (2 ^ j) x ≡ true = le-leb _ x (last-low N x j last) in
          let under : ltb x (2 ^ suc j) ≡ true = lt-ltb x _ (last-high N x j below (r.live-lt j e) last) in
          position-tests plan j ∙ some-below (2 ^ N) _ x below ((and-eq-true_iff _ _).1 (code, (and-eq-true_iff _ _).1 (above, under)))

  pub positions-live : (j : ℕ) → positions_before plan j ≡ rank (final_state plan).live j
  unfolding rank
  positions-live j = positions-rank plan j ∙ sum-ext j _ _ (λ i l. ap flag (position-live i))
