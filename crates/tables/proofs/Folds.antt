-- Building a table one digit of the patterns after another.
--   Lightest number b c key   among the patterns below 2^b that `number` takes to c, the key's has the fewest ones, and its tie says whether
--                             another has as few (specs Folding)
--   lighter here other        of two keys of one class the one of fewer ones; where they have the same ones, a tie
-- `upper-` laws are about the patterns that have digit b and no higher one, `light-` laws about the lightest pattern of a class: how it is
-- told, and what digit b makes of it.
use Rattle.std.proofs.Common.{◌≡◌, refl, sym, ap, ◌∙◌, Bool, true, false, cond, ◌⊎◌, inl, inr, ⊎_elim, ℕ, zero, suc, ◌+◌, ◌*◌, ◌/◌, ◌%◌}
use Rattle.std.proofs.Common.{◌^◌, ◌≤◌, ◌<◌, min, pow-suc, one-mul, arith, eq-eqb, ne_eqb, eqb, bit_xor, pow_mono, pow_pos}
use native.Mathlib.Decide.{ℕ_discrete, dec_lt}
use native.Mathlib.Nat.{le_dest, min-eq_left, min-eq_right}
use lib.Bits.{xor_shifted, xor_comm}
use lib.Count.{ones, ones_cat, ones-le}
use Rattle.bits.proofs.Xor.{xor-cancel, ones-zero}
use Rattle.inner_code.specs.Code.{is_codeword, least_pattern, tied}
use Rattle.inner_code.proofs.Cosets.{ones-pow}
use Rattle.inner_code.proofs.NearestWord.{key-ones, least-pattern-lt, least-pattern-first, least-codeword, tied_by, untied-by}
use Rattle.tables.specs.Classes.{tie_mark, entry_of}
use Rattle.tables.specs.Folding.{lighter, marked, Lightest}

-- ---- patterns by their highest digit

pub upper-sum : (b p : ℕ) → p < 2 ^ b → 2 ^ b + p ≡ bit_xor (2 ^ b) p
upper-sum b p h =
    sym (ap (λ (x : ℕ). bit_xor x p) (sym (one-mul (2 ^ b))) ∙ xor_shifted 1 b p h ∙ ap (λ (x : ℕ). x + p) (one-mul (2 ^ b)))

upper-ones : (b p : ℕ) → p < 2 ^ b → ones (2 ^ b + p) ≡ 1 + ones p
upper-ones b p h =
    ap (λ (x : ℕ). ones (x + p)) (sym (one-mul (2 ^ b))) ∙ ones_cat b 1 p h ∙ omega (arith, ones-pow 0)

-- a pattern below 2^(b + 1) is below 2^b, or has digit b on one that is
upper-either : (b p : ℕ) → p < 2 ^ suc b → (p < 2 ^ b) ⊎ ((q : ℕ) × (q < 2 ^ b) × (p ≡ 2 ^ b + q))
upper-either b p h =
    elim (dec_lt p (2 ^ b)) [
      | yes l ↦ inl l
      | no l ↦
          let rest : (q : ℕ) × (2 ^ b + q ≡ p) = le_dest (omega arith) in
          inr (rest.0, omega (arith, pow-suc 2 b, rest.1, h), sym rest.1)
    ]

-- ---- one class

-- its key in parts
light-parts : {number : ℕ → ℕ} {b c key : ℕ} → b ≤ 16 → (l : Lightest number b c key)
    → (key / 131072 ≡ ones l.pattern) × (key / 65536 % 2 ≡ l.tie) × (key % 65536 ≡ l.pattern)
light-parts high l =
    let low : l.pattern < 65536 = omega (arith, l.low, pow_mono high) in
    (omega (arith, l.is, l.bit), omega (arith, l.is, l.bit), omega (arith, l.is, l.bit))

-- no key is large, so that one digit more always fits
pub light-small : {number : ℕ → ℕ} {b c key : ℕ} → b ≤ 16 → Lightest number b c key → key < 16580608
light-small high l =
    let low : l.pattern < 2 ^ 16 = omega (arith, l.low, pow_mono high) in
    omega (arith, l.is, l.bit, ones-le 16 l.pattern low)

module _ (number : ℕ → ℕ) (linear : (v w : ℕ) → number (bit_xor v w) ≡ bit_xor (number v) (number w)) where
  -- at first there is the pattern 0 alone
  pub light-start : number 0 ≡ 0 → Lightest number 0 0 0
  light-start e =
      let only : (p : ℕ) → p < 2 ^ 0 → p ≡ 0 = λ p h. omega arith in
      record {
        pattern = 0;
        tie = 0;
        is = omega (arith, ones-zero);
        bit = omega arith;
        low = pow_pos 0;
        numbered = e;
        light = λ p h n. omega (arith, ap ones (only p h), ones-zero);
        sole = λ t p h n s. only p h;
        shared = λ t. absurd (omega arith);
      }

  module _ (b : ℕ) where
    upper-number : (p : ℕ) → p < 2 ^ b → number (2 ^ b + p) ≡ bit_xor (number (2 ^ b)) (number p)
    upper-number p h = ap number (upper-sum b p h) ∙ linear (2 ^ b) p

    -- ---- a digit that is not free

    module _ (c : ℕ) where
      abbrev apart : ℕ
      apart = bit_xor c (number (2 ^ b))

      -- with digit b on it a pattern of the class apart is one of class c, and only those are
      upper-class : (q : ℕ) → q < 2 ^ b → number q ≡ apart → number (2 ^ b + q) ≡ c
      upper-class q h e =
          upper-number q h ∙ ap (bit_xor (number (2 ^ b))) (e ∙ xor_comm c (number (2 ^ b))) ∙ xor-cancel (number (2 ^ b)) c

      upper-back : (q : ℕ) → q < 2 ^ b → number (2 ^ b + q) ≡ c → number q ≡ apart
      upper-back q h e =
          sym (xor-cancel (number (2 ^ b)) (number q)) ∙ ap (bit_xor (number (2 ^ b))) (sym (upper-number q h) ∙ e)
          ∙ xor_comm (number (2 ^ b)) c

      module _ {here there : ℕ} (b-high : b < 16) (x : Lightest number b c here) (y : Lightest number b apart there) where
        abbrev put : ℕ
        put = 2 ^ b + y.pattern

        abbrev other : ℕ
        other = there + (131072 + 2 ^ b)

        put-ones : ones put ≡ 1 + ones y.pattern
        put-ones = upper-ones b y.pattern y.low

        put-lt : put < 65536
        put-lt = omega (arith, y.low, pow-suc 2 b, pow_mono {i = suc b} {j = 16} b-high)

        wider : 2 ^ suc b ≡ 2 * 2 ^ b
        wider = omega (arith, pow-suc 2 b)

        other-is : other ≡ (2 * ones put + y.tie) * 65536 + put
        other-is = omega (arith, y.is, put-ones)

        here-ones : here / 131072 ≡ ones x.pattern
        here-ones = (light-parts (omega arith) x).0

        other-ones : other / 131072 ≡ ones put
        other-ones = omega (arith, other-is, put-lt, y.bit)

        kept : ones x.pattern < ones put → Lightest number (suc b) c (lighter here other)
        unfolding lighter
        kept less =
            let is : lighter here other ≡ here =
            ap (λ (t : Bool). cond t (here / 131072 * 131072 + 65536 + here % 65536) (min here other))
            (ne_eqb (here / 131072) (other / 131072) (λ e. omega (arith, e, here-ones, other-ones, less)))
            ∙ min-eq_left (omega (arith, here-ones, other-ones, less)) in
            record {
              pattern = x.pattern;
              tie = x.tie;
              is = is ∙ x.is;
              bit = x.bit;
              low = omega (arith, x.low, wider);
              numbered = x.numbered;
              light = λ p h n.
                  ⊎_elim (λ (l : p < 2 ^ b). x.light p l n)
                  (λ (t : (q : ℕ) × (q < 2 ^ b) × (p ≡ 2 ^ b + q)).
                  let (q, l, e) = t in
                  omega (arith, ap ones e, upper-ones b q l, put-ones, less, y.light q l (upper-back q l (ap number (sym e) ∙ n))))
                  (upper-either b p h);
              sole = λ none p h n same.
                  ⊎_elim (λ (l : p < 2 ^ b). x.sole none p l n same)
                  (λ (t : (q : ℕ) × (q < 2 ^ b) × (p ≡ 2 ^ b + q)).
                  let (q, l, e) = t in
                  absurd (omega (
                    arith,
                    ap ones e,
                    upper-ones b q l,
                    put-ones,
                    less,
                    same,
                    y.light q l (upper-back q l (ap number (sym e) ∙ n)),
                  )))
                  (upper-either b p h);
              shared = λ one. let (p, l, n, same, differ) = x.shared one in (p, omega (arith, l, wider), n, same, differ);
            }

        tying : ones x.pattern ≡ ones put → Lightest number (suc b) c (lighter here other)
        unfolding lighter
        tying same =
            let is : lighter here other ≡ here / 131072 * 131072 + 65536 + here % 65536 =
            ap (λ (t : Bool). cond t (here / 131072 * 131072 + 65536 + here % 65536) (min here other))
            (eq-eqb (here / 131072) (other / 131072) (omega (arith, here-ones, other-ones, same))) in
            record {
              pattern = x.pattern;
              tie = 1;
              is = is ∙ omega (arith, here-ones, (light-parts (omega arith) x).2);
              bit = omega arith;
              low = omega (arith, x.low, wider);
              numbered = x.numbered;
              light = λ p h n.
                  ⊎_elim (λ (l : p < 2 ^ b). x.light p l n)
                  (λ (t : (q : ℕ) × (q < 2 ^ b) × (p ≡ 2 ^ b + q)).
                  let (q, l, e) = t in
                  omega (arith, ap ones e, upper-ones b q l, put-ones, same, y.light q l (upper-back q l (ap number (sym e) ∙ n))))
                  (upper-either b p h);
              sole = λ none. absurd (omega arith);
              shared = λ one. (
                put,
                omega (arith, y.low, wider),
                upper-class y.pattern y.low y.numbered,
                sym same,
                λ e. omega (arith, e, x.low),
              );
            }

        taken : ones put < ones x.pattern → Lightest number (suc b) c (lighter here other)
        unfolding lighter
        taken less =
            let is : lighter here other ≡ other =
            ap (λ (t : Bool). cond t (here / 131072 * 131072 + 65536 + here % 65536) (min here other))
            (ne_eqb (here / 131072) (other / 131072) (λ e. omega (arith, e, here-ones, other-ones, less)))
            ∙ min-eq_right (omega (arith, here-ones, other-ones, less)) in
            record {
              pattern = put;
              tie = y.tie;
              is = is ∙ other-is;
              bit = y.bit;
              low = omega (arith, y.low, wider);
              numbered = upper-class y.pattern y.low y.numbered;
              light = λ p h n.
                  ⊎_elim (λ (l : p < 2 ^ b). omega (arith, x.light p l n, less))
                  (λ (t : (q : ℕ) × (q < 2 ^ b) × (p ≡ 2 ^ b + q)).
                  let (q, l, e) = t in
                  omega (arith, ap ones e, upper-ones b q l, put-ones, y.light q l (upper-back q l (ap number (sym e) ∙ n))))
                  (upper-either b p h);
              sole = λ none p h n same.
                  ⊎_elim (λ (l : p < 2 ^ b). absurd (omega (arith, x.light p l n, less, same)))
                  (λ (t : (q : ℕ) × (q < 2 ^ b) × (p ≡ 2 ^ b + q)).
                  let (q, l, e) = t in
                  e ∙ ap (λ (r : ℕ). 2 ^ b + r)
                  (y.sole none q l (upper-back q l (ap number (sym e) ∙ n)) (omega (arith, ap ones e, upper-ones b q l, put-ones, same))))
                  (upper-either b p h);
              shared = λ one.
                  let (q, l, n, same, differ) = y.shared one in (
                    2 ^ b + q,
                    omega (arith, l, wider),
                    upper-class q l n,
                    omega (arith, upper-ones b q l, put-ones, same),
                    λ e. differ (omega (arith, e)),
                  );
            }

        -- of both patterns the lighter, and a tie where they are as light
        pub light-fold : Lightest number (suc b) c (lighter here other)
        light-fold =
            elim (dec_lt (ones x.pattern) (ones put)) [
              | yes less ↦ kept less
              | no l ↦ elim (dec_lt (ones put) (ones x.pattern)) [ yes less ↦ taken less | no g ↦ tying (omega arith) ]
            ]

    -- ---- a digit that is free: it leads to as many classes again

    module _ (m : ℕ) (digit-is : number (2 ^ b) ≡ 2 ^ m) (few : (p : ℕ) → p < 2 ^ b → number p < 2 ^ m) where
      upper-new : (q : ℕ) → q < 2 ^ b → number (2 ^ b + q) ≡ 2 ^ m + number q
      upper-new q h = upper-number q h ∙ ap (λ (x : ℕ). bit_xor x (number q)) digit-is ∙ sym (upper-sum m (number q) (few q h))

      widened : 2 ^ suc b ≡ 2 * 2 ^ b
      widened = omega (arith, pow-suc 2 b)

      pub light-first : {c key : ℕ} → c < 2 ^ m → Lightest number b c key → Lightest number (suc b) c key
      light-first {c = c} c_lt x =
          record {
            pattern = x.pattern;
            tie = x.tie;
            is = x.is;
            bit = x.bit;
            low = omega (arith, x.low, widened);
            numbered = x.numbered;
            light = λ p h n. x.light p (below p h n) n;
            sole = λ none p h n same. x.sole none p (below p h n) n same;
            shared = λ one. let (p, l, n, same, differ) = x.shared one in (p, omega (arith, l, widened), n, same, differ);
          }
        where
          below : (p : ℕ) → p < 2 ^ suc b → number p ≡ c → p < 2 ^ b
          below p h n =
              ⊎_elim (λ (l : p < 2 ^ b). l)
              (λ (t : (q : ℕ) × (q < 2 ^ b) × (p ≡ 2 ^ b + q)).
              let (q, l, e) = t in absurd (omega (arith, ap number e, upper-new q l, n, c_lt)))
              (upper-either b p h)

      pub light-second : {c key : ℕ} → Lightest number b c key → Lightest number (suc b) (2 ^ m + c) (key + (131072 + 2 ^ b))
      light-second {c = c} {key = key} x =
          record {
            pattern = 2 ^ b + x.pattern;
            tie = x.tie;
            is = omega (arith, x.is, upper-ones b x.pattern x.low);
            bit = x.bit;
            low = omega (arith, x.low, widened);
            numbered = upper-new x.pattern x.low ∙ ap (λ (n : ℕ). 2 ^ m + n) x.numbered;
            light = λ p h n.
                let (q, l, e, of) = above p h n in
                omega (arith, ap ones e, upper-ones b q l, upper-ones b x.pattern x.low, x.light q l of);
            sole = λ none p h n same.
                let (q, l, e, of) = above p h n in
                e ∙ ap (λ (r : ℕ). 2 ^ b + r)
                (x.sole none q l of (omega (arith, ap ones e, upper-ones b q l, upper-ones b x.pattern x.low, same)));
            shared = λ one.
                let (q, l, n, same, differ) = x.shared one in (
                  2 ^ b + q,
                  omega (arith, l, widened),
                  upper-new q l ∙ ap (λ (r : ℕ). 2 ^ m + r) n,
                  omega (arith, upper-ones b q l, upper-ones b x.pattern x.low, same),
                  λ e. differ (omega (arith, e)),
                );
          }
        where
          above : (p : ℕ) → p < 2 ^ suc b → number p ≡ 2 ^ m + c → (q : ℕ) × (q < 2 ^ b) × (p ≡ 2 ^ b + q) × (number q ≡ c)
          above p h n =
              ⊎_elim (λ (l : p < 2 ^ b). absurd (omega (arith, few p l, n)))
              (λ (t : (q : ℕ) × (q < 2 ^ b) × (p ≡ 2 ^ b + q)).
              let (q, l, e) = t in (q, l, e, omega (arith, ap number e, upper-new q l, n)))
              (upper-either b p h)

-- ---- all digits: the key is marked to the entry of the class

module _ (row : ℕ → ℕ) (k d : ℕ) (d-high : d ≤ 16) (rows-lt : (i : ℕ) → i < k → row i < 2 ^ d) (number : ℕ → ℕ)
    (same-class : (v w : ℕ) → v < 2 ^ d → w < 2 ^ d → number v ≡ number w → is_codeword row k (bit_xor v w) ≡ true)
    (one_class : (v w : ℕ) → is_codeword row k (bit_xor v w) ≡ true → number v ≡ number w) where
  pub light-entry : {c key : ℕ} (s : ℕ) → s < 2 ^ d → number s ≡ c → Lightest number d c key → marked (key / 65536) (key % 65536) ≡ entry_of row k d s
  unfolding marked entry_of
  light-entry {c = c} {key = key} s s-lt s-is x = go x.tie refl x.bit
    where
      first : ℕ
      first = least_pattern row k d s

      first-lt : first < 2 ^ d
      first-lt = least-pattern-lt row k d d-high rows-lt s s-lt

      below : (p : ℕ) → p < 2 ^ d → p < 65536
      below p l = omega (arith, l, pow_mono d-high)

      leads : (p : ℕ) → p < 2 ^ d → number p ≡ c → is_codeword row k (bit_xor s p) ≡ true
      leads p l n = same-class s p s-lt l (s-is ∙ sym n)

      numbered : (p : ℕ) → is_codeword row k (bit_xor s p) ≡ true → number p ≡ c
      numbered p e = sym (one_class s p e) ∙ s-is

      first-number : number first ≡ c
      first-number = numbered first (least-codeword row k d d-high rows-lt s s-lt)

      pattern-leads : is_codeword row k (bit_xor s x.pattern) ≡ true
      pattern-leads = leads x.pattern x.low x.numbered

      same-ones : ones first ≡ ones x.pattern
      same-ones =
          omega (
            arith,
            x.light first first-lt first-number,
            key-ones first x.pattern (below _ first-lt) (below _ x.low)
                (least-pattern-first row k d d-high rows-lt s x.pattern s-lt x.low pattern-leads),
          )

      go : (t : ℕ) → x.tie ≡ t → t < 2
          → cond (eqb (key / 65536 % 2) 1) tie_mark (key % 65536) ≡ cond (tied row k d s) tie_mark (least_pattern row k d s)
      go zero e l =
          let is : first ≡ x.pattern = x.sole e first first-lt first-number same-ones in
          let untied : tied row k d s ≡ false = untied-by row k d d-high rows-lt s
          (λ p h same lead. x.sole e p h (numbered p lead) (same ∙ same-ones) ∙ sym is) in
          rw (ne_eqb (key / 65536 % 2) 1 (λ z. omega (arith, z, (light-parts d-high x).1, e)), untied) ((light-parts d-high x).2 ∙ sym is)
      go (suc zero) e l =
          let found : tied row k d s ≡ true = elim (ℕ_discrete x.pattern first) [
            | yes is ↦
                let (p, h, n, same, differ) = x.shared e in
                tied_by row k d d-high rows-lt s p h (λ q. differ (q ∙ sym is)) (same ∙ sym same-ones) (leads p h n)
            | no differ ↦ tied_by row k d d-high rows-lt s x.pattern x.low differ (sym same-ones) pattern-leads
          ] in
          rw (eq-eqb (key / 65536 % 2) 1 ((light-parts d-high x).1 ∙ e), found)
      go (suc (suc t)) e l = absurd (omega arith)
