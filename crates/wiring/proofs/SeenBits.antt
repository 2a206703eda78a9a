-- The bits that tell which edges have stood at earlier entries, and what they say of the entry that is checked.
--   none_seen               one bit for each edge, none set (specs Access)
--   seen_after edge i seen  the bits with those set whose edges stand among entries 0 .. i - 1 (specs Access)
--   masks                  the weights of the bits of a byte, that of its first bit first
--   entry_check N edge i    entry i alone: its edge at or above N (9), else seen earlier (10) (specs Wiring)
-- Laws are named by their subject, then by the fact: `mask-` is about a byte and one weight, `zeros-` about a list of zeros, `seen-` about
-- the bits, `entry-` about the outcome of one entry: `-high` by 9, `-seen` by 10, `-fresh` by neither.
use Rattle.std.proofs.Common.{ℕ, zero, suc, ◌+◌, ◌-◌, ◌*◌, ◌/◌, ◌%◌, ◌^◌, ◌≤◌, ◌<◌, Bool, true, false, ◌||◌, List, [], ◌∷◌, ⊎_elim, ◌≡◌}
use Rattle.std.proofs.Common.{refl, sym, ap, ap₂, ◌∙◌, zero-mul, one-mul, pow-suc, eq-zero-or-pos, mul-le-mul_right, add-one, one-add}
use Rattle.std.proofs.Common.{arith, bit_xor, bit_and, eqb, length, get_or, set, pow_pos, le-leb, eqb-true}
use mathlib.Core.Bool.{or-true, or-false}
use lib.Bits.{and_high}
use lib.ListN.{length-replicate}
use borrow.Author.Tests.{lt-leb, eqb-false}
use Rattle.bits.specs.Bit.{digit, bit_at, put_digit, with_bit}
use Rattle.bits.proofs.Lists.{zeros-at}
use Rattle.bits.proofs.Tests.{flag-zero}
use Rattle.bits.specs.Sum.{flag}
use Rattle.bits.proofs.Xor.{digit-zero}
use Rattle.bits.proofs.Bytes.{bit_at-same, bit_at-other, length-with_bit}
use Rattle.inner_code.specs.Reply.{done, refused, refuse_if}
use Rattle.bits.specs.Search.{some_below}
use Rattle.inner_code.proofs.Replies.{refuse-taken, refuse-passed}
use Rattle.wiring.specs.Wiring.{entry_check}
use Rattle.wiring.specs.Access.{none_seen, seen_after}

-- ---- one bit of a byte

abbrev pub masks : List ℕ
masks = 128 ∷ 64 ∷ 32 ∷ 16 ∷ 8 ∷ 4 ∷ 2 ∷ 1 ∷ []

mask-weight : (k : ℕ) → k < 8 → get_or masks k 0 ≡ 2 ^ (7 - k)
mask-weight zero l = refl
mask-weight (suc zero) l = refl
mask-weight (suc (suc zero)) l = refl
mask-weight (suc (suc (suc zero))) l = refl
mask-weight (suc (suc (suc (suc zero)))) l = refl
mask-weight (suc (suc (suc (suc (suc zero))))) l = refl
mask-weight (suc (suc (suc (suc (suc (suc zero)))))) l = refl
mask-weight (suc (suc (suc (suc (suc (suc (suc zero))))))) l = refl
mask-weight (suc (suc (suc (suc (suc (suc (suc (suc k)))))))) l = absurd (omega arith)

mask-and : (x k : ℕ) → bit_and x (2 ^ k) ≡ digit x k * 2 ^ k
unfolding digit
mask-and x k =
    let weight : 2 ^ k ≡ 2 ^ (1 + k) - 2 ^ k = omega (arith, pow-suc 2 k, ap (λ (m : ℕ). 2 ^ m) (one-add k)) in
    ap (bit_and x) weight ∙ and_high x 1 k

-- ---- the bits

seen_none : (e : ℕ) → bit_at none_seen e ≡ 0
unfolding bit_at none_seen
seen_none e = ap (λ (x : ℕ). digit x (7 - e % 8)) (zeros-at 4096 (e / 8)) ∙ digit-zero (7 - e % 8)

length_none : length none_seen ≡ 4096
unfolding none_seen
length_none = length-replicate {A = ℕ} 4096 0

module _ (edge : ℕ → ℕ) where
  seen-one-more : (i : ℕ) (seen : List ℕ) → seen_after edge (i + 1) seen ≡ with_bit (seen_after edge i seen) (edge i) 1
  unfolding seen_after
  seen-one-more i seen = rw add-one

  length_seen : (i : ℕ) (seen : List ℕ) → length (seen_after edge i seen) ≡ length seen
  unfolding seen_after
  length_seen zero seen = refl
  length_seen (suc i) seen = length-with_bit (seen_after edge i seen) (edge i) 1 ∙ length_seen i seen

  -- a bit is set exactly if its edge has stood before
  seen-bit : (i : ℕ) (seen : List ℕ) (e : ℕ) → e < length seen * 8 → bit_at seen e ≡ 0
      → bit_at (seen_after edge i seen) e ≡ flag (some_below i (λ j. eqb (edge j) e))
  unfolding seen_after some_below flag
  seen-bit zero seen e l clear = clear
  seen-bit (suc i) seen e l clear = go (seen-bit i seen e l clear) (eqb (edge i) e) refl
    where
      earlier : Bool
      earlier = some_below i (λ j. eqb (edge j) e)

      go : bit_at (seen_after edge i seen) e ≡ flag earlier → (b : Bool) → eqb (edge i) e ≡ b
          → bit_at (with_bit (seen_after edge i seen) (edge i) 1) e ≡ flag (earlier || eqb (edge i) e)
      go before true q =
          let same : edge i ≡ e = eqb-true (edge i) e q in
          ap (bit_at (with_bit (seen_after edge i seen) (edge i) 1)) (sym same)
          ∙ bit_at-same (seen_after edge i seen) (edge i) 1 (omega (arith, length_seen i seen)) (omega arith)
          ∙ sym (ap flag (ap (λ (b : Bool). earlier || b) q ∙ or-true earlier))
      go before false q =
          bit_at-other (seen_after edge i seen) (edge i) e 1 (eqb-false (edge i) e q) (omega arith)
          ∙ before ∙ sym (ap flag (ap (λ (b : Bool). earlier || b) q ∙ or-false earlier))

-- ---- the code's test and its store

mask-test : (seen : List ℕ) (e : ℕ) → bit_and (get_or seen (e / 8) 0) (get_or masks (e % 8) 0) ≡ bit_at seen e * 2 ^ (7 - e % 8)
unfolding bit_at
mask-test seen e = ap (bit_and (get_or seen (e / 8) 0)) (mask-weight (e % 8) (omega arith)) ∙ mask-and _ (7 - e % 8)

mask-clear : (seen : List ℕ) (e : ℕ) → bit_at seen e ≡ 0 → bit_and (get_or seen (e / 8) 0) (get_or masks (e % 8) 0) ≡ 0
mask-clear seen e clear = mask-test seen e ∙ ap (λ (b : ℕ). b * 2 ^ (7 - e % 8)) clear ∙ zero-mul (2 ^ (7 - e % 8))

mask-clear-back : (seen : List ℕ) (e : ℕ) → bit_and (get_or seen (e / 8) 0) (get_or masks (e % 8) 0) ≡ 0 → bit_at seen e ≡ 0
mask-clear-back seen e none =
    ⊎_elim (λ (z : bit_at seen e ≡ 0). z)
    (λ (p : 0 < bit_at seen e). absurd (omega (arith, mask-test seen e, mul-le-mul_right (2 ^ (7 - e % 8)) p, pow_pos (7 - e % 8))))
    (eq-zero-or-pos (bit_at seen e))

mask-store : (seen : List ℕ) (e : ℕ) → bit_at seen e ≡ 0
    → set seen (e / 8) (bit_xor (get_or seen (e / 8) 0) (get_or masks (e % 8) 0)) ≡ with_bit seen e 1
unfolding with_bit put_digit bit_at
mask-store seen e clear =
    ap (λ (x : ℕ). set seen (e / 8) (bit_xor (get_or seen (e / 8) 0) x))
    (mask-weight (e % 8) (omega arith) ∙ sym (one-mul (2 ^ (7 - e % 8))) ∙ ap (λ (b : ℕ). bit_xor b 1 * 2 ^ (7 - e % 8)) (sym clear))

-- ---- one entry

flag-some : (t : Bool) → (flag t ≡ 0 → ⊥) → t ≡ true
unfolding flag
flag-some true some = refl
flag-some false some = absurd (some refl)

-- entry i, whose edge the code has read as e
module _ (N : ℕ) (edge : ℕ → ℕ) (i e : ℕ) (is : e ≡ edge i) where
  pub entry-high : N ≤ e → entry_check N edge i ≡ refused 9 i
  unfolding entry_check
  entry-high h = refuse-taken _ 9 i _ (le-leb N (edge i) (rw is at h))

  -- where the edge is below N, once the edges of the entries before it are marked
  module _ (seen : List ℕ) (marked : seen ≡ seen_after edge i none_seen) (low : e < N) (fits : N ≤ 32768) where
    bit_is : bit_at seen e ≡ flag (some_below i (λ j. eqb (edge j) (edge i)))
    bit_is =
        ap₂ (λ (l : List ℕ) (x : ℕ). bit_at l x) marked is
        ∙ seen-bit edge i none_seen (edge i) (omega (arith, length_none)) (seen_none (edge i))

    past-high : entry_check N edge i ≡ refuse_if (some_below i (λ j. eqb (edge j) (edge i))) 10 i (done [])
    unfolding entry_check
    past-high = refuse-passed _ 9 i _ (lt-leb N (edge i) (rw is at low))

    pub entry_seen : (bit_and (get_or seen (e / 8) 0) (get_or masks (e % 8) 0) ≡ 0 → ⊥) → entry_check N edge i ≡ refused 10 i
    entry_seen set = past-high ∙ refuse-taken _ 10 i _ (flag-some _ (λ z. set (mask-clear seen e (bit_is ∙ z))))

    module _ (clear : bit_and (get_or seen (e / 8) 0) (get_or masks (e % 8) 0) ≡ 0) where
      pub entry-fresh : entry_check N edge i ≡ done []
      entry-fresh = past-high ∙ refuse-passed _ 10 i _ (flag-zero _ (sym bit_is ∙ mask-clear-back seen e clear))

      pub seen_stored : set seen (e / 8) (bit_xor (get_or seen (e / 8) 0) (get_or masks (e % 8) 0)) ≡ seen_after edge (i + 1) none_seen
      seen_stored =
          mask-store seen e (mask-clear-back seen e clear)
          ∙ ap₂ (λ (l : List ℕ) (x : ℕ). with_bit l x 1) marked is ∙ sym (seen-one-more edge i none_seen)
