-- The nearest word: w with the one pattern of the fewest ones put on it, of all patterns that turn w into a codeword; w itself where there is
-- more than one such pattern.
--   key p                   ones of p first, then p: of two patterns the nearer has the smaller key
--   least_pattern, tied      the pattern of the least key, and whether another has as few ones
--   nearest_pattern, nearest_word   the pattern that is put on, 0 in a tie, and w with it on
--   back_key p               ones of p first, and of equal ones the largest p first
--   sole first last         the pattern that is first and last of those with the fewest ones, 0 where these differ
--   searched words n w      what a search over listed codewords finds
--   bits_changed row k d w   how many bits the nearest word changes
--   step_to w x              the step from w to x: x, and the number of bits that it changes
-- `key-` and `back-` laws compare patterns, `least-` laws say what the pattern of the least key is, `tied-` and `untied-` laws when there is
-- a tie and what that means, `nearest-` laws what the found word is, `changed-` laws how many bits it changes, `step-` laws what a step
-- tells. They hold for any rows below 2^d and any d up to 16.
use Rattle.std.proofs.Common.{◌≡◌, refl, sym, ap, ap₂, ◌∙◌, subst, ⊎_elim, Bool, true, false, cond, true≢false, ℕ, ◌+◌, ◌-◌, ◌*◌, ◌%◌, ◌^◌}
use Rattle.std.proofs.Common.{◌≤◌, ◌<◌, eq-zero-or-pos, le_antisymm, lt_of_lt_of_le, arith, bit_xor, eqb, pow_mono, pow_pos, List, [], ◌∷◌}
use Rattle.std.proofs.Common.{le-leb, eqb-true, eq-eqb, ne_eqb}
use mathlib.Mathlib.Data.Bool.Basic.{eq-false_of_not-eq-true}
use native.Mathlib.Decide.{ℕ_discrete}
use lib.Bits.{xor_lt, xor_self, xor_comm, xor_zero_r}
use lib.Count.{ones, ones-le}
use Rattle.bits.proofs.Xor.{xor-cancel, xor-zero-eq, ones-zero, ones_none, ones-triangle}
use borrow.Author.Tests.{lt-leb, eqb-false, not-true}
use Rattle.inner_code.specs.Reply.{done, refused}
use Rattle.inner_code.specs.Answer.{nearest_answer}
use Rattle.inner_code.specs.Sheet.{degree, row_count, row_of, sheet_check}
use Rattle.inner_code.proofs.Replies.{and_then-refused, and_then-passed, refuse-taken, refuse-passed}
use Rattle.bits.specs.Search.{least}
use Rattle.inner_code.specs.Code.{combination, is_codeword, key, no_key, least_pattern, tied, nearest_pattern, nearest_word, bits_changed, distance}
use Rattle.inner_code.specs.declared.nearest.Step.{Step}
use Rattle.inner_code.specs.Reduction.{least_key, back_key, least_back, sole, searched, step_to}
use Rattle.bits.proofs.Tests.{and_both}
use Rattle.bits.proofs.Searches.{some-below, some-found, least-le, least-top, least-ge, least-found, least-ext}
use Rattle.inner_code.proofs.Combinations.{codeword-zero, codeword-xor, codeword-lt, codeword-found, codeword-combination}
use Rattle.inner_code.proofs.InnerDistance.{distance-le}

-- ---- keys

pub key-pattern : (p : ℕ) → p < 65536 → key p % 65536 ≡ p
unfolding key
key-pattern p h = omega arith

pub key-lt : (p : ℕ) → p < 65536 → key p < no_key
unfolding key no_key
key-lt p h = omega (arith, ones-le 16 p h)

pub key-ones : (p q : ℕ) → p < 65536 → q < 65536 → key p ≤ key q → ones p ≤ ones q
unfolding key
key-ones p q hp hq h = omega arith

pub key-zero : (p : ℕ) → key p ≤ key 0 → p ≡ 0
unfolding key
key-zero p h = omega (arith, ones-zero)

pub back-pattern : (p : ℕ) → p < 65536 → 65535 - back_key p % 65536 ≡ p
unfolding back_key
back-pattern p h = omega arith

back-lt : (p : ℕ) → p < 65536 → back_key p < no_key
unfolding back_key no_key
back-lt p h = omega (arith, ones-le 16 p h)

-- two patterns of which one has the smaller key and the other the smaller back key have the same ones
back-ones : (p q : ℕ) → p < 65536 → q < 65536 → key p ≤ key q → back_key q ≤ back_key p → ones p ≡ ones q
unfolding key back_key
back-ones p q hp hq forth back = omega arith

-- a pattern that is first and last of those with its ones is the only one
back-only : (p q : ℕ) → p < 65536 → q < 65536 → key p ≤ key q → back_key p ≤ back_key q → ones q ≡ ones p → q ≡ p
unfolding key back_key
back-only p q hp hq forth back same = omega arith

-- ---- the search over listed words

pub sole-one : (first last : ℕ) → first ≡ last → sole first last ≡ first
unfolding sole
sole-one first last e = rw (eq-eqb first last e)

pub sole_none : (first last : ℕ) → (first ≡ last → ⊥) → sole first last ≡ 0
unfolding sole
sole_none first last e = rw (ne_eqb first last e)

pub searched-ext : (a b : ℕ → ℕ) (n w : ℕ) → ((m : ℕ) → m < n → a m ≡ b m) → searched a n w ≡ searched b n w
unfolding searched least_key least_back
searched-ext a b n w same =
    ap₂ (λ (x y : ℕ). bit_xor w (sole (x % 65536) (65535 - y % 65536)))
    (least-ext no_key _ _ n (λ m h. ap (λ (c : ℕ). key (bit_xor c w)) (same m h)))
    (least-ext no_key _ _ n (λ m h. ap (λ (c : ℕ). back_key (bit_xor c w)) (same m h)))

-- ---- the nearest word of a code of k rows below 2^d
module _ (row : ℕ → ℕ) (k d : ℕ) (d-high : d ≤ 16) (rows-lt : (i : ℕ) → i < k → row i < 2 ^ d) where
  below : (p : ℕ) → p < 2 ^ d → p < 65536
  below p h = lt_of_lt_of_le h (pow_mono d-high)

  leads : ℕ → ℕ → ℕ
  leads w p = cond (is_codeword row k (bit_xor w p)) (key p) no_key

  leads-true : (w p : ℕ) → is_codeword row k (bit_xor w p) ≡ true → leads w p ≡ key p
  unfolding leads
  leads-true w p e = ap (λ (t : Bool). cond t (key p) no_key) e

  leads-none : (w p : ℕ) → is_codeword row k (bit_xor w p) ≡ false → leads w p ≡ no_key
  unfolding leads
  leads-none w p e = ap (λ (t : Bool). cond t (key p) no_key) e

  -- the found pattern leads to a codeword
  found : (w : ℕ) → w < 2 ^ d → (p : ℕ) × (p < 2 ^ d) × (is_codeword row k (bit_xor w p) ≡ true) × (least no_key (leads w) (2 ^ d) ≡ key p)
  found w h =
      ⊎_elim (λ (e : least no_key (leads w) (2 ^ d) ≡ no_key). absurd (omega (arith, reach, key-lt w (below w h))))
      (λ (t : (p : ℕ) × (p < 2 ^ d) × (least no_key (leads w) (2 ^ d) ≡ leads w p)). go t.0 t.1 t.2 (is_codeword row k (bit_xor w t.0)) refl)
      (least-found no_key (leads w) (2 ^ d))
    where
      itself : is_codeword row k (bit_xor w w) ≡ true
      itself = subst (λ (x : ℕ). is_codeword row k x ≡ true) (sym (xor_self w)) (codeword-zero row k)

      reach : least no_key (leads w) (2 ^ d) ≤ key w
      reach = subst (λ (x : ℕ). least no_key (leads w) (2 ^ d) ≤ x) (leads-true w w itself) (least-le no_key (leads w) (2 ^ d) w h)

      go : (p : ℕ) → p < 2 ^ d → least no_key (leads w) (2 ^ d) ≡ leads w p → (t : Bool) → is_codeword row k (bit_xor w p) ≡ t
          → (x : ℕ) × (x < 2 ^ d) × (is_codeword row k (bit_xor w x) ≡ true) × (least no_key (leads w) (2 ^ d) ≡ key x)
      go p l e true q = (p, l, q, e ∙ leads-true w p q)
      go p l e false q = absurd (omega (arith, reach, key-lt w (below w h), e ∙ leads-none w p q))

  pattern-found : (w : ℕ) (h : w < 2 ^ d) → least_pattern row k d w ≡ (found w h).0
  unfolding least_pattern leads
  pattern-found w h = ap (λ (x : ℕ). x % 65536) (found w h).3 ∙ key-pattern (found w h).0 (below _ (found w h).1)

  pub least-pattern-lt : (w : ℕ) → w < 2 ^ d → least_pattern row k d w < 2 ^ d
  least-pattern-lt w h = subst (λ (p : ℕ). p < 2 ^ d) (sym (pattern-found w h)) (found w h).1

  -- no other pattern that leads to a codeword has a smaller key
  pub least-pattern-first : (w p : ℕ) → w < 2 ^ d → p < 2 ^ d → is_codeword row k (bit_xor w p) ≡ true → key (least_pattern row k d w) ≤ key p
  least-pattern-first w p h l e =
      subst (λ (x : ℕ). x ≤ key p) ((found w h).3 ∙ ap key (sym (pattern-found w h)))
      (subst (λ (x : ℕ). least no_key (leads w) (2 ^ d) ≤ x) (leads-true w p e) (least-le no_key (leads w) (2 ^ d) p l))

  pub least-codeword : (w : ℕ) → w < 2 ^ d → is_codeword row k (bit_xor w (least_pattern row k d w)) ≡ true
  least-codeword w h = subst (λ (p : ℕ). is_codeword row k (bit_xor w p) ≡ true) (sym (pattern-found w h)) (found w h).2

  -- a codeword's least pattern is 0
  least-fixed : (w : ℕ) → is_codeword row k w ≡ true → least_pattern row k d w ≡ 0
  least-fixed w e =
      key-zero (least_pattern row k d w)
      (least-pattern-first w 0 (codeword-lt row d k w rows-lt e) (pow_pos d)
      (subst (λ (x : ℕ). is_codeword row k x ≡ true) (sym (xor_zero_r w)) e))

  -- ---- ties

  pub tied_by : (w p : ℕ) → p < 2 ^ d → (p ≡ least_pattern row k d w → ⊥) → ones p ≡ ones (least_pattern row k d w)
      → is_codeword row k (bit_xor w p) ≡ true → tied row k d w ≡ true
  unfolding tied
  tied_by w p l apart same e = some-below (2 ^ d) _ p l (rw (ne_eqb _ _ apart, eq-eqb _ _ same, e))

  pub tied-other : (w : ℕ) → tied row k d w ≡ true
      → (p : ℕ) × (p < 2 ^ d) × (p ≡ least_pattern row k d w → ⊥) × (ones p ≡ ones (least_pattern row k d w)) × (is_codeword row k (bit_xor w p) ≡ true)
  unfolding tied
  tied-other w t =
      let (p, l, e) = some-found (2 ^ d) _ t in
      let (apart, rest) = and_both _ _ e in
      let (same, codeword) = and_both _ _ rest in
      (p, l, eqb-false _ _ (not-true _ apart), eqb-true _ _ same, codeword)

  pub untied-by : (w : ℕ) → ((p : ℕ) → p < 2 ^ d → ones p ≡ ones (least_pattern row k d w) → is_codeword row k (bit_xor w p) ≡ true
      → p ≡ least_pattern row k d w) → tied row k d w ≡ false
  untied-by w only =
      eq-false_of_not-eq-true (λ t. let (p, l, apart, same, e) = tied-other w t in apart (only p l same e))

  pub nearest-pattern-untied : (w : ℕ) → tied row k d w ≡ false → nearest_pattern row k d w ≡ least_pattern row k d w
  unfolding nearest_pattern
  nearest-pattern-untied w e = rw e

  pub nearest-pattern-tied : (w : ℕ) → tied row k d w ≡ true → nearest_pattern row k d w ≡ 0
  unfolding nearest_pattern
  nearest-pattern-tied w e = rw e

  -- a tie keeps its bits
  pub nearest-tied : (w : ℕ) → tied row k d w ≡ true → nearest_word row k d w ≡ w
  unfolding nearest_word
  nearest-tied w e = ap (bit_xor w) (nearest-pattern-tied w e) ∙ xor_zero_r w

  -- a codeword is no tie, since no other pattern has no ones
  pub untied-codeword : (w : ℕ) → is_codeword row k w ≡ true → tied row k d w ≡ false
  untied-codeword w e =
      let none = least-fixed w e in
      untied-by w (λ p l same c. ones_none p (same ∙ ap ones none ∙ ones-zero) ∙ sym none)

  pub tied-open : (w : ℕ) → tied row k d w ≡ true → is_codeword row k w ≡ false
  tied-open w t = eq-false_of_not-eq-true (λ e. true≢false (sym t ∙ untied-codeword w e))

  -- ---- the nearest word

  pub nearest-pattern-lt : (w : ℕ) → w < 2 ^ d → nearest_pattern row k d w < 2 ^ d
  nearest-pattern-lt w h = go (tied row k d w) refl
    where
      go : (t : Bool) → tied row k d w ≡ t → nearest_pattern row k d w < 2 ^ d
      go true e = rw (nearest-pattern-tied w e) (pow_pos d)
      go false e = rw (nearest-pattern-untied w e) (least-pattern-lt w h)

  -- where there is no tie it is a codeword
  pub nearest-codeword : (w : ℕ) → w < 2 ^ d → tied row k d w ≡ false → is_codeword row k (nearest_word row k d w) ≡ true
  unfolding nearest_word
  nearest-codeword w h e = rw (nearest-pattern-untied w e) (least-codeword w h)

  pub nearest-lt : (w : ℕ) → w < 2 ^ d → nearest_word row k d w < 2 ^ d
  unfolding nearest_word
  nearest-lt w h = xor_lt d w _ h (nearest-pattern-lt w h)

  -- a codeword's nearest word is itself
  pub nearest-fixed : (w : ℕ) → is_codeword row k w ≡ true → nearest_word row k d w ≡ w
  unfolding nearest_word
  nearest-fixed w e =
      ap (bit_xor w) (nearest-pattern-untied w (untied-codeword w e) ∙ least-fixed w e) ∙ xor_zero_r w

  -- the nearest word of a nearest word is itself
  pub nearest-again : (w : ℕ) → w < 2 ^ d → nearest_word row k d (nearest_word row k d w) ≡ nearest_word row k d w
  nearest-again w h = go (tied row k d w) refl
    where
      go : (t : Bool) → tied row k d w ≡ t → nearest_word row k d (nearest_word row k d w) ≡ nearest_word row k d w
      go true e = ap (nearest_word row k d) (nearest-tied w e)
      go false e = nearest-fixed (nearest_word row k d w) (nearest-codeword w h e)

  -- a word that is its own nearest one is a codeword or a tie
  pub nearest-stays : (w : ℕ) → w < 2 ^ d → tied row k d w ≡ false → nearest_word row k d w ≡ w → is_codeword row k w ≡ true
  nearest-stays w h e same = subst (λ (x : ℕ). is_codeword row k x ≡ true) same (nearest-codeword w h e)

  -- a word with fewer than D/2 wrong digits comes right: two codewords so near to it would differ in fewer than D digits
  pub nearest-near : (w c : ℕ) → w < 2 ^ d → is_codeword row k c ≡ true → 2 * ones (bit_xor w c) < distance row k → nearest_word row k d w ≡ c
  unfolding nearest_word
  nearest-near w c h e near =
      ap (bit_xor w) (nearest-pattern-untied w (untied-by w (λ p l same lead. only p l (omega (arith, same, lighter)) lead ∙ sym is)) ∙ is)
      ∙ xor-cancel w c
    where
      first : ℕ
      first = least_pattern row k d w

      q-lt : bit_xor w c < 2 ^ d
      q-lt = xor_lt d w c h (codeword-lt row d k c rows-lt e)

      lighter : ones first ≤ ones (bit_xor w c)
      lighter =
          key-ones first (bit_xor w c) (below _ (least-pattern-lt w h)) (below _ q-lt)
          (least-pattern-first w (bit_xor w c) h q-lt (subst (λ (x : ℕ). is_codeword row k x ≡ true) (sym (xor-cancel w c)) e))

      -- a pattern as light as that to c leads to c
      only : (p : ℕ) → p < 2 ^ d → ones p ≤ ones (bit_xor w c) → is_codeword row k (bit_xor w p) ≡ true → p ≡ bit_xor w c
      only p l light lead =
          ⊎_elim
          (λ (z : bit_xor c (bit_xor w p) ≡ 0). sym (xor-cancel w p) ∙ ap (bit_xor w) (sym (xor-zero-eq c (bit_xor w p) z)))
          (λ (some : 0 < bit_xor c (bit_xor w p)).
          absurd (omega (
            arith,
            distance-le row k (bit_xor c (bit_xor w p)) (codeword-xor row k c (bit_xor w p) e lead) some,
            apart,
            light,
          )))
          (eq-zero-or-pos (bit_xor c (bit_xor w p)))
        where
          apart : ones (bit_xor c (bit_xor w p)) ≤ ones (bit_xor w c) + ones p
          apart =
              subst (λ (x : ℕ). ones (bit_xor c (bit_xor w p)) ≤ x)
              (ap₂ (λ (x y : ℕ). ones x + ones y) (xor_comm c w) (xor-cancel w p))
              (ones-triangle c w (bit_xor w p))

      is : first ≡ bit_xor w c
      is = only first (least-pattern-lt w h) lighter (least-codeword w h)

  -- a search over the listed codewords finds the same word as the search over all patterns
  module _ (words : ℕ → ℕ) (listed : (m : ℕ) → m < 2 ^ k → words m ≡ combination row k m) (w : ℕ) (h : w < 2 ^ d) where
    abbrev by : ℕ → ℕ
    by m = key (bit_xor (words m) w)

    abbrev back_by : ℕ → ℕ
    back_by m = back_key (bit_xor (words m) w)

    -- the pattern to a listed word
    word-codeword : (m : ℕ) → m < 2 ^ k → is_codeword row k (words m) ≡ true
    word-codeword m l = subst (λ (x : ℕ). is_codeword row k x ≡ true) (sym (listed m l)) (codeword-combination row k m l)

    pattern_lt : (m : ℕ) → m < 2 ^ k → bit_xor (words m) w < 2 ^ d
    pattern_lt m l = xor_lt d (words m) w (codeword-lt row d k (words m) rows-lt (word-codeword m l)) h

    pattern-leads : (m : ℕ) → m < 2 ^ k → is_codeword row k (bit_xor w (bit_xor (words m) w)) ≡ true
    pattern-leads m l =
        subst (λ (x : ℕ). is_codeword row k x ≡ true) (sym (ap (bit_xor w) (xor_comm (words m) w) ∙ xor-cancel w (words m))) (word-codeword m l)

    -- a pattern that leads to a codeword is that codeword's difference from w
    pattern-listed : (p : ℕ) → is_codeword row k (bit_xor w p) ≡ true → (m : ℕ) × (m < 2 ^ k) × (bit_xor (words m) w ≡ p)
    pattern-listed p e =
        let (m, l, is) = codeword-found row k (bit_xor w p) e in
        (m, l, ap (λ (x : ℕ). bit_xor x w) (listed m l ∙ sym is) ∙ xor_comm (bit_xor w p) w ∙ xor-cancel w p)

    reached : (p : ℕ) → (t : Bool) → is_codeword row k (bit_xor w p) ≡ t → least no_key by (2 ^ k) ≤ leads w p
    reached p false e = subst (λ (x : ℕ). least no_key by (2 ^ k) ≤ x) (sym (leads-none w p e)) (least-top no_key by (2 ^ k))
    reached p true e =
        let (m, l, is) = pattern-listed p e in
        subst (λ (x : ℕ). least no_key by (2 ^ k) ≤ x) (ap key is ∙ sym (leads-true w p e)) (least-le no_key by (2 ^ k) m l)

    pub searched-first : least_key words (2 ^ k) w % 65536 ≡ least_pattern row k d w
    unfolding least_key least_pattern leads
    searched-first =
        ap (λ (x : ℕ). x % 65536)
        (le_antisymm
        (least-ge no_key (leads w) (2 ^ d) _ (least-top no_key by (2 ^ k)) (λ p l. reached p (is_codeword row k (bit_xor w p)) refl))
        (least-ge no_key by (2 ^ k) _ (least-top no_key (leads w) (2 ^ d))
        (λ m l. subst (λ (x : ℕ). least no_key (leads w) (2 ^ d) ≤ x) (leads-true w (bit_xor (words m) w) (pattern-leads m l))
        (least-le no_key (leads w) (2 ^ d) (bit_xor (words m) w) (pattern_lt m l)))))

    -- the last pattern of the fewest ones
    last_found : (m : ℕ) × (m < 2 ^ k) × (least no_key back_by (2 ^ k) ≡ back_by m)
    last_found =
        ⊎_elim
        (λ (e : least no_key back_by (2 ^ k) ≡ no_key).
        absurd (omega (arith, e, least-le no_key back_by (2 ^ k) 0 (pow_pos k), back-lt _ (below _ (pattern_lt 0 (pow_pos k))))))
        (λ (t : (m : ℕ) × (m < 2 ^ k) × (least no_key back_by (2 ^ k) ≡ back_by m)). t)
        (least-found no_key back_by (2 ^ k))

    abbrev last : ℕ
    last = bit_xor (words last_found.0) w

    searched-last : 65535 - least_back words (2 ^ k) w % 65536 ≡ last
    unfolding least_back
    searched-last =
        ap (λ (x : ℕ). 65535 - x % 65536) last_found.2 ∙ back-pattern last (below _ (pattern_lt last_found.0 last_found.1))

    last-least : (p : ℕ) → is_codeword row k (bit_xor w p) ≡ true → back_key last ≤ back_key p
    last-least p e =
        let (m, l, is) = pattern-listed p e in
        subst (λ (x : ℕ). back_key last ≤ x) (ap back_key is)
        (subst (λ (x : ℕ). x ≤ back_by m) last_found.2 (least-le no_key back_by (2 ^ k) m l))

    pub nearest-searched : searched words (2 ^ k) w ≡ nearest_word row k d w
    unfolding searched nearest_word
    nearest-searched =
        ap (bit_xor w) (ap₂ sole searched-first searched-last
        ∙ elim (ℕ_discrete first last) [
          | yes same ↦
              sole-one first last same
              ∙ sym (nearest-pattern-untied w (untied-by w (λ p l equal e.
              back-only first p (below _ first-lt) (below _ l) (least-pattern-first w p h l e)
              (subst (λ (x : ℕ). back_key x ≤ back_key p) (sym same) (last-least p e)) equal)))
          | no apart ↦
              sole_none first last apart
              ∙ sym (nearest-pattern-tied w (tied_by w last last-lt (λ e. apart (sym e)) (sym same-ones) last-leads))
        ])
      where
        first : ℕ
        first = least_pattern row k d w

        first-lt : first < 2 ^ d
        first-lt = least-pattern-lt w h

        last-lt : last < 2 ^ d
        last-lt = pattern_lt last_found.0 last_found.1

        last-leads : is_codeword row k (bit_xor w last) ≡ true
        last-leads = pattern-leads last_found.0 last_found.1

        same-ones : ones first ≡ ones last
        same-ones =
            back-ones first last (below _ first-lt) (below _ last-lt) (least-pattern-first w last h last-lt last-leads)
            (last-least first (least-codeword w h))

-- ---- the step to a word, and how many bits the nearest word changes

pub step-put : (w p : ℕ) → record { word = bit_xor w p; changed = ones p } ≡ step_to w (bit_xor w p)
unfolding step_to
step-put w p = rw (xor-cancel w p)

pub step-word : (w x : ℕ) {r : Step} → r ≡ step_to w x → r.word ≡ x
unfolding step_to
step-word w x e = ap (λ (s : Step). s.word) e

pub step-changed : (w x : ℕ) {r : Step} → r ≡ step_to w x → r.changed ≡ ones (bit_xor w x)
unfolding step_to
step-changed w x e = ap (λ (s : Step). s.changed) e

module _ (row : ℕ → ℕ) (k d w : ℕ) where
  pub changed-ones : ones (bit_xor w (nearest_word row k d w)) ≡ bits_changed row k d w
  unfolding nearest_word bits_changed
  changed-ones = ap ones (xor-cancel w (nearest_pattern row k d w))

  -- none, exactly if the word is its own nearest one
  pub changed-none : bits_changed row k d w ≡ 0 → nearest_word row k d w ≡ w
  unfolding nearest_word bits_changed
  changed-none e = ap (bit_xor w) (ones_none _ e) ∙ xor_zero_r w

  pub changed-none-back : nearest_word row k d w ≡ w → bits_changed row k d w ≡ 0
  changed-none-back e = sym changed-ones ∙ ap (λ (x : ℕ). ones (bit_xor w x)) e ∙ ap ones (xor_self w) ∙ ones-zero

pub changed-le : (row : ℕ → ℕ) (k d : ℕ) → d ≤ 16 → ((i : ℕ) → i < k → row i < 2 ^ d) → (w : ℕ) → w < 2 ^ d → bits_changed row k d w ≤ d
changed-le row k d high rows-lt w h =
    rw (← changed-ones row k d w) (ones-le d _ (xor_lt d w _ h (nearest-lt row k d high rows-lt w h)))

-- of a word that is no codeword no bit changes exactly in a tie
pub changed-tied : (row : ℕ → ℕ) (k d : ℕ) → d ≤ 16 → ((i : ℕ) → i < k → row i < 2 ^ d) → (w : ℕ) → w < 2 ^ d → is_codeword row k w ≡ false
    → eqb (bits_changed row k d w) 0 ≡ tied row k d w
changed-tied row k d high rows-lt w h missed = go (tied row k d w) refl
  where
    go : (t : Bool) → tied row k d w ≡ t → eqb (bits_changed row k d w) 0 ≡ tied row k d w
    go true e = eq-eqb _ _ (changed-none-back row k d w (nearest-tied row k d high rows-lt w e)) ∙ sym e
    go false e =
        ne_eqb _ _ (λ none. true≢false (sym (nearest-stays row k d high rows-lt w h e (changed-none row k d w none)) ∙ missed)) ∙ sym e

-- ---- the service's answer

pub nearest-answer-refused : (sheet : List ℕ) (w n p : ℕ) → sheet_check sheet ≡ refused n p → nearest_answer sheet w ≡ refused n p
unfolding nearest_answer
nearest-answer-refused sheet w n p e = and_then-refused _ _ n p e

pub nearest-answer-high : (sheet : List ℕ) (w : ℕ) → sheet_check sheet ≡ done [] → 2 ^ degree sheet ≤ w → nearest_answer sheet w ≡ refused 12 0
unfolding nearest_answer
nearest-answer-high sheet w e h = and_then-passed _ _ [] e ∙ refuse-taken _ 12 0 _ (le-leb _ _ h)

pub nearest-answer-word : (sheet : List ℕ) (w : ℕ) → sheet_check sheet ≡ done [] → w < 2 ^ degree sheet
    → nearest_answer sheet w
    ≡ done (nearest_word (row_of sheet) (row_count sheet) (degree sheet) w ∷ bits_changed (row_of sheet) (row_count sheet) (degree sheet) w ∷ [])
unfolding nearest_answer
nearest-answer-word sheet w e h = and_then-passed _ _ [] e ∙ refuse-passed _ 12 0 _ (lt-leb _ _ h)
