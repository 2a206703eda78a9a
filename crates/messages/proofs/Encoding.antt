-- The codeword that carries a message: it exists, it is the only one, and it is the combination of the live rows by the message's bits.
--   carries plan message x        the digits of x at the message positions are the message's bits, in rising order (specs Message)
--   encoded_number, encoded_block   the codeword that carries a message, by search, as a number and as a block (specs Message)
--   Carrier plan message x        x is below 2^N, the number of a codeword, and carries the message
--   position_bit plan message p    the message's bit for message position p (specs Elimination)
--   combined, final_state          a combination of live rows, and the state after all checks (specs Elimination)
-- Laws are named by their subject, then by the fact: `carries-` is about the test, `carrier-` about all numbers that carry a message,
-- `encoded-` about the one that is found. At the end of a name, `-each` leads from a test to every place and `-back` to the test, `-is`
-- writes a definition out.
use Rattle.std.proofs.Common.{ℕ, suc, ◌*◌, ◌^◌, ◌<◌, Bool, true, false, not, ◌&&◌, ◌||◌, true≢false, List, [], ◌≡◌, refl, sym, ap, ◌∙◌}
use Rattle.std.proofs.Common.{le_antisymm, arith, eqb, eqb-true, eq-eqb}
use mathlib.Core.Bool.{and-eq-true_iff, false≢true}
use native.Mathlib.Decide.{dec_le}
use borrow.Author.Tests.{not-true, not-false}
use Rattle.bits.specs.Bit.{digit, bit_at}
use Rattle.bits.proofs.Xor.{digit_lt, digit-ext}
use Rattle.bits.proofs.Bytes.{bit_at_lt}
use Rattle.inner_code.specs.Reply.{done}
use Rattle.bits.specs.Search.{first_failing}
use Rattle.wiring.specs.Plan.{Plan, edge_count}
use Rattle.wiring.specs.Wiring.{plan_check}
use Rattle.bits.proofs.Searches.{first-le, first-failed, first-all, first-all-each}
use Rattle.messages.specs.Position.{block_of, codeword_number, is_position, positions_before}
use Rattle.messages.specs.Message.{carries, encoded_number, encoded_block}
use Rattle.messages.specs.Elimination.{combined, plan_checks, final_state, position_bit}
use Rattle.messages.proofs.Elimination.{Bits, Solution, Reduced, combination-solution, combination-lt, combination-bit, solution-unique}
use Rattle.messages.proofs.Numbers.{number_of, number_lt, number-digit}
use Rattle.messages.proofs.Positions.{final-reduced, codeword-number, position-live}

-- ---- the definitions written out

-- a test that holds wherever the first does
unless : (a b : Bool) → (not a || b) ≡ true → a ≡ true → b ≡ true
unless true b e q = e
unless false b e q = absurd (false≢true q)

unless-back : (a b : Bool) → (a ≡ true → b ≡ true) → (not a || b) ≡ true
unless-back true b h = h refl
unless-back false b h = refl

-- a search for the first number that passes finds one where one passes
search-found : (n : ℕ) (test : ℕ → Bool) (x : ℕ) → x < n → test x ≡ true
    → (first_failing n (λ y. not (test y)) < n) × (test (first_failing n (λ y. not (test y))) ≡ true)
search-found n test x l e = (inside, not-false _ (first-failed n fails inside))
  where
    fails : ℕ → Bool
    fails y = not (test y)

    inside : first_failing n fails < n
    inside =
        elim (dec_le (suc (first_failing n fails)) n) [
          | yes h ↦ h
          | no h ↦ absurd (true≢false (sym e ∙ not-true _ (first-all-each n fails (le_antisymm (first-le n fails) (omega arith)) x l)))
        ]

module _ (plan : Plan) where
  -- the test of one place
  agrees : List ℕ → ℕ → ℕ → Bool
  agrees message x j = not (is_position plan j) || eqb (digit x j) (bit_at message (positions_before plan j))

  carries-tests : (message : List ℕ) (x : ℕ)
      → carries plan message x ≡ eqb (first_failing (edge_count plan) (agrees message x)) (edge_count plan)
  unfolding carries agrees
  carries-tests message x = refl

  carries_each : (message : List ℕ) (x : ℕ) → carries plan message x ≡ true
      → (j : ℕ) → j < edge_count plan → is_position plan j ≡ true → digit x j ≡ bit_at message (positions_before plan j)
  unfolding agrees
  carries_each message x e j l p =
      let all : first_failing (edge_count plan) (agrees message x) ≡ edge_count plan = eqb-true _ _ (sym (carries-tests message x) ∙ e) in
      eqb-true _ _ (unless (is_position plan j) _ (first-all-each (edge_count plan) (agrees message x) all j l) p)

  carries-back : (message : List ℕ) (x : ℕ)
      → ((j : ℕ) → j < edge_count plan → is_position plan j ≡ true → digit x j ≡ bit_at message (positions_before plan j))
      → carries plan message x ≡ true
  unfolding agrees
  carries-back message x h =
      carries-tests message x ∙ eq-eqb _ _ (first-all (edge_count plan) _ (λ j l. unless-back (is_position plan j) _ (λ p. eq-eqb _ _ (h j l p))))

-- ---- the codeword that carries a message

pub record Carrier (plan : Plan) (message : List ℕ) (x : ℕ) : Type 0 where
  pub below : x < 2 ^ edge_count plan
  pub codeword : codeword_number plan x ≡ true
  pub carried : (j : ℕ) → j < edge_count plan → is_position plan j ≡ true → digit x j ≡ bit_at message (positions_before plan j)

encoded-number-is : (plan : Plan) (message : List ℕ)
    → encoded_number plan message
    ≡ first_failing (2 ^ edge_count plan) (λ x. not (codeword_number plan x && carries plan message x))
unfolding encoded_number
encoded-number-is plan message = refl

pub encoded-block-is : (plan : Plan) (message : List ℕ)
    → encoded_block plan message ≡ block_of (edge_count plan) (encoded_number plan message)
unfolding encoded_block
encoded-block-is plan message = refl

module _ (plan : Plan) (accepted : plan_check plan ≡ done []) where
  -- the combination of the rows by the message's bits carries the message
  combination-carries : (message : List ℕ)
      → Carrier plan message (number_of (edge_count plan) (combined (edge_count plan) (final_state plan) (position_bit plan message)))
  combination-carries message =
      record {
        below = number_lt N g bits;
        codeword = (codeword-number plan accepted _ g (number-digit N g bits)).1 (combination-solution r c);
        carried = λ j l p. number-digit N g bits j l ∙ combination-bit r c j (sym (position-live plan accepted j) ∙ p) (bit_at_lt message _);
      }
    where
      N : ℕ
      N = edge_count plan

      r : Reduced N (plan_checks plan) (2 * N) (final_state plan)
      r = final-reduced plan

      c : ℕ → ℕ
      c = position_bit plan message

      g : ℕ → ℕ
      g = combined N (final_state plan) c

      bits : Bits N g
      bits = combination-lt r c

  -- no other number carries it
  pub carrier-unique : (message : List ℕ) (x y : ℕ) → Carrier plan message x → Carrier plan message y → x ≡ y
  carrier-unique message x y a b =
      digit-ext (edge_count plan) x y a.below b.below
      (solution-unique r (digit x) (digit y) (λ e _. digit_lt x e) (λ e _. digit_lt y e) (solves x a.codeword) (solves y b.codeword)
      (λ p e.
      let l = r.live-lt p e in
      let position = position-live plan accepted p ∙ e in
      a.carried p l position ∙ sym (b.carried p l position)))
    where
      r : Reduced (edge_count plan) (plan_checks plan) (2 * edge_count plan) (final_state plan)
      r = final-reduced plan

      solves : (z : ℕ) → codeword_number plan z ≡ true → Solution (edge_count plan) (plan_checks plan) (2 * edge_count plan) (digit z)
      solves z e = (codeword-number plan accepted z (digit z) (λ i l. refl)).0 e

  pub encoded-carries : (message : List ℕ) → Carrier plan message (encoded_number plan message)
  encoded-carries message =
      let some = combination-carries message in
      let test : ℕ → Bool = λ x. codeword_number plan x && carries plan message x in
      let holds = (and-eq-true_iff _ _).1 (some.codeword, carries-back plan message _ some.carried) in
      let (below, passes) = search-found (2 ^ edge_count plan) test _ some.below holds in
      let (code, carried) = (and-eq-true_iff (codeword_number plan _) _).0 passes in
      rw encoded-number-is (record { below = below; codeword = code; carried = carries_each plan message _ carried })

  pub encoded-at : (message : List ℕ) (x : ℕ) → Carrier plan message x → encoded_number plan message ≡ x
  encoded-at message x = carrier-unique message _ x (encoded-carries message)

  -- the encoder's way: each digit is a bit of the combination of the live rows by the message's bits
  pub encoded-digit : (message : List ℕ) (e : ℕ) → e < edge_count plan
      → digit (encoded_number plan message) e
      ≡ combined (edge_count plan) (final_state plan) (position_bit plan message) e
  encoded-digit message e l =
      ap (λ (x : ℕ). digit x e) (encoded-at message _ (combination-carries message))
      ∙ number-digit (edge_count plan) _ (combination-lt (final-reduced plan) (position_bit plan message)) e l
