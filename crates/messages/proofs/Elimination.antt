-- Elimination: which vectors of N bits pass a list of parity checks, with no span, no dimension and no graph. One row per bit position
-- starts as the unit vector. Each check in turn drops its pivot, the lowest live row that fails it, and puts that row on every live row
-- that fails. What is left of the live rows are solutions, one for each live position, and every solution is a combination of them.
--   parity N a f           the value of the check with coefficients a on the vector f, both of N entries (specs Elimination)
--   State                  which rows are live, and bit e of each row p (specs Elimination)
--   start N                all rows below N live, row p the unit vector at p (specs Elimination)
--   hit N check s p        row p is live and fails the check (specs Elimination)
--   pivot N check s        the lowest row that is hit, N where there is none (specs Elimination)
--   stepped N check s      the state after one check: the pivot is dropped and put on every row that is hit, itself too (specs Elimination)
--   after N checks m       the state after checks 0 .. m - 1 (specs Elimination)
--   chosen s c p           c p where row p is live, and else 0 (specs Elimination)
--   combined N s c e       bit e of the combination of the live rows p with c p = 1 (specs Elimination)
--   Bits N f               f gives a bit, 0 or 1, at every place below N
--   Solution N checks m f  f passes checks 0 .. m - 1
--   Reduced N checks m s   the invariants of the state after m checks
--   LastOne N f j          the vector's last 1 is at j
-- Laws are named by their subject, then by the fact: `parity-` is about one check, `hit-` and `pivot-` about the rows that fail it,
-- `stepped-` and `after-` about the states, `combination-` about combinations of live rows, `solution-` about all solutions, `live-`
-- and `last-` about where solutions have their last 1. At the end of a name, `-lt` and `-le` are bounds, `-ext` is equality term by
-- term, `-none` a parity that is 0, a step that hits no row, `-zero`, `-suc` and `-one-more` the number of terms or of checks.
use Rattle.std.proofs.Common.{ℕ, zero, suc, ◌+◌, ◌*◌, ◌/◌, ◌%◌, ◌≤◌, ◌<◌, Bool, true, false, not, ◌&&◌, true≢false, ◌⊎◌, inl, inr, ◌≡◌}
use Rattle.std.proofs.Common.{refl, sym, ap, ◌∙◌, add-zero, mul-zero, mul-one, zero-mul, one-mul, lt-suc_self, not-suc-le-zero}
use Rattle.std.proofs.Common.{eq-or-lt_of_le, le_of_suc-le-suc, mod-eq_of_lt, add-one, arith, bit_xor, bit_and, eqb, ltb-true, lt-ltb}
use Rattle.std.proofs.Common.{eqb-true}
use mathlib.Core.Bool.{and-eq-true_iff, and-true}
use mathlib.Core.Logic.{◌≢◌}
use native.Mathlib.Nat.{le_step}
use native.Mathlib.Nat.{mod-add-mod}
use native.Mathlib.Decide.{dec_le, ℕ_discrete}
use lib.Arith.{lt_of_le-ne}
use lib.Bits.{xor_add_and, xor_self, xor_zero_r}
use borrow.Author.Tests.{eqb-false, not-false, not-true}
use Rattle.bits.specs.Sum.{sum, flag}
use Rattle.bits.proofs.Sums.{sum-zero, sum-suc, sum-ext, sum-none, sum-swap, sum-scale, sum-scale-right}
use Rattle.bits.proofs.Sums.{sum-at, flag_true, flag-false, flag-le-one, flag-equal, flag-apart}
use Rattle.bits.proofs.Xor.{xor-bits-lt, xor-bits-parity}
use Rattle.bits.proofs.Searches.{first-passed, first-failed}
use Rattle.messages.specs.Elimination.{parity, State, start, hit, pivot, stepped, after, chosen, combined}

-- ---- parities

pub parity-lt : (N : ℕ) (a f : ℕ → ℕ) → parity N a f < 2
unfolding parity
parity-lt N a f = omega arith

pub parity-zero : (a f : ℕ → ℕ) → parity 0 a f ≡ 0
unfolding parity
parity-zero a f = ap (λ (x : ℕ). x % 2) (sum-zero _)

pub parity-suc : (N : ℕ) (a f : ℕ → ℕ) → parity (suc N) a f ≡ (parity N a f + a N * f N) % 2
unfolding parity
parity-suc N a f = ap (λ (x : ℕ). x % 2) (sum-suc N _) ∙ sym (mod-add-mod _ 2 _)

-- parity-suc where the number of terms is written N + 1 and terms are bits, as code writes it
pub parity-one-more : (N : ℕ) (a f : ℕ → ℕ) → a N * f N < 2 → parity (N + 1) a f ≡ bit_xor (parity N a f) (a N * f N)
parity-one-more N a f l = rw add-one (parity-suc N a f ∙ sym (xor-bits-parity _ _ (parity-lt N a f) l))

pub parity-ext : (N : ℕ) (a b f g : ℕ → ℕ) → ((e : ℕ) → e < N → a e * f e ≡ b e * g e) → parity N a f ≡ parity N b g
unfolding parity
parity-ext N a b f g same = ap (λ (x : ℕ). x % 2) (sum-ext N _ _ same)

pub parity-none : (N : ℕ) (a f : ℕ → ℕ) → ((e : ℕ) → e < N → a e * f e ≡ 0) → parity N a f ≡ 0
unfolding parity
parity-none N a f none = ap (λ (x : ℕ). x % 2) (sum-none N _ none)

sum-xor : (N : ℕ) (a f g : ℕ → ℕ)
    → sum N (λ e. a e * bit_xor (f e) (g e)) + 2 * sum N (λ e. a e * bit_and (f e) (g e)) ≡ sum N (λ e. a e * f e) + sum N (λ e. a e * g e)
unfolding sum
sum-xor zero a f g = refl
sum-xor (suc N) a f g = omega (arith, sum-xor N a f g, ap (λ (x : ℕ). a N * x) (xor_add_and (f N) (g N)))

pub parity-xor : (N : ℕ) (a f g : ℕ → ℕ) → parity N a (λ e. bit_xor (f e) (g e)) ≡ (parity N a f + parity N a g) % 2
unfolding parity
parity-xor N a f g = omega (arith, sum-xor N a f g)

sum-mod : (N : ℕ) (a f : ℕ → ℕ) → sum N (λ e. a e * (f e % 2)) + 2 * sum N (λ e. a e * (f e / 2)) ≡ sum N (λ e. a e * f e)
unfolding sum
sum-mod zero a f = refl
sum-mod (suc N) a f =
    let whole : f N ≡ f N % 2 + 2 * (f N / 2) = omega arith in
    omega (arith, sum-mod N a f, ap (λ (x : ℕ). a N * x) whole)

pub parity-mod : (N : ℕ) (a f : ℕ → ℕ) → parity N a (λ e. f e % 2) ≡ parity N a f
unfolding parity
parity-mod N a f = omega (arith, sum-mod N a f)

-- an even parity stays even where every term is multiplied by k
pub parity-scale-none : (N k : ℕ) (a f : ℕ → ℕ) → parity N a f ≡ 0 → parity N a (λ e. f e * k) ≡ 0
unfolding parity
parity-scale-none N k a f even =
    let half : ℕ = sum N (λ e. a e * f e) / 2 in
    let twice : sum N (λ e. a e * f e) ≡ 2 * half = omega arith in
    let terms = sum-ext N (λ e. a e * (f e * k)) (λ e. a e * f e * k) (λ e l. omega arith) in
    omega (arith, terms, sum-scale-right N k (λ e. a e * f e), ap (λ (x : ℕ). x * k) twice)

pub parity-swap : (N M : ℕ) (a w : ℕ → ℕ) (row : ℕ → ℕ → ℕ)
    → parity N a (λ e. parity M w (λ p. row p e)) ≡ parity M w (λ p. parity N a (row p))
unfolding parity
parity-swap N M a w row =
    parity-mod N a (λ e. sum M (λ p. w p * row p e))
    ∙ ap (λ (x : ℕ). x % 2)
    (simp (← sum-scale) (sum-swap N M (λ e p. a e * (w p * row p e)) ∙ sum-ext M _ _ (λ p l. sum-ext N _ _ (λ e k. omega arith))))
    ∙ sym (parity-mod M w (λ p. sum N (λ e. a e * row p e)))

pub parity-flag : (N : ℕ) (a f : ℕ → ℕ) (t : Bool) → parity N a (λ e. flag t * f e) ≡ flag t * parity N a f
unfolding flag
parity-flag N a f true = parity-ext N a a _ f (λ e l. omega arith) ∙ sym (one-mul (parity N a f))
parity-flag N a f false = parity-none N a _ (λ e l. omega arith) ∙ sym (zero-mul (parity N a f))

-- the parity of the unit vector at q
pub parity-unit : (N q : ℕ) (a : ℕ → ℕ) → q < N → parity N a (λ p. flag (eqb p q)) ≡ a q % 2
unfolding parity
parity-unit N q a l = ap (λ (x : ℕ). x % 2) (sum-ext N _ _ (λ p k. omega arith) ∙ sum-at N q a l)

-- ---- the rows that a check hits

module _ (N : ℕ) (check : ℕ → ℕ) (s : State) where
  pub hit-live : (p : ℕ) → hit N check s p ≡ true → s.live p ≡ true
  unfolding hit
  hit-live p e = ((and-eq-true_iff (s.live p) _).0 e).0

  pub hit-parity : (p : ℕ) → hit N check s p ≡ true → parity N check (s.row p) ≡ 1
  unfolding hit
  hit-parity p e = eqb-true _ 1 ((and-eq-true_iff (s.live p) _).0 e).1

  -- the flag of a hit: the row's parity where the row is live
  pub hit-product : (p : ℕ) → flag (hit N check s p) ≡ flag (s.live p) * parity N check (s.row p)
  unfolding hit
  hit-product p = go (s.live p) (parity N check (s.row p)) (parity-lt N check (s.row p))
    where
      go : (t : Bool) (x : ℕ) → x < 2 → flag (t && eqb x 1) ≡ flag t * x
      go false x l = rw flag-false (sym (zero-mul x))
      go true zero l = flag-apart 0 1 (λ q. omega arith) ∙ sym (mul-zero _)
      go true (suc zero) l = sym (mul-one _)
      go true (suc (suc x)) l = absurd (omega arith)

  pub hit-flag : (p : ℕ) → s.live p ≡ true → flag (hit N check s p) ≡ parity N check (s.row p)
  hit-flag p e = hit-product p ∙ rw (e, flag_true) (one-mul _)

  pub pivot-le : (p : ℕ) → p < N → hit N check s p ≡ true → pivot N check s ≤ p
  unfolding pivot
  pivot-le p l e =
      elim (dec_le (pivot N check s) p) [
        | yes h ↦ h
        | no h ↦ absurd (true≢false (sym e ∙ not-true _ (first-passed N (λ q. not (hit N check s q)) p (omega arith))))
      ]

  pub pivot-hit : pivot N check s < N → hit N check s (pivot N check s) ≡ true
  unfolding pivot
  pivot-hit l = not-false _ (first-failed N _ l)

  -- ---- the state after a step

  pub stepped-live-is : (p : ℕ) → (stepped N check s).live p ≡ (s.live p && not (eqb p (pivot N check s)))
  unfolding stepped
  stepped-live-is p = refl

  pub stepped-live : (p : ℕ) → (stepped N check s).live p ≡ true → (s.live p ≡ true) × (p ≢ pivot N check s)
  stepped-live p e = let (kept, apart) = (and-eq-true_iff (s.live p) _).0 (sym (stepped-live-is p) ∙ e) in (kept, eqb-false p _ (not-true _ apart))

  pub stepped-row : (p e : ℕ) → (stepped N check s).row p e ≡ bit_xor (s.row p e) (flag (hit N check s p) * s.row (pivot N check s) e)
  unfolding stepped
  stepped-row p e = refl

  -- only a row that is hit is changed, and only where the pivot's row has a 1
  stepped-keeps : (p e : ℕ) → (hit N check s p ≡ true → s.row (pivot N check s) e ≡ 0) → (stepped N check s).row p e ≡ s.row p e
  stepped-keeps p e none = stepped-row p e ∙ ap (bit_xor (s.row p e)) (go (hit N check s p) refl) ∙ xor_zero_r (s.row p e)
    where
      go : (t : Bool) → hit N check s p ≡ t → flag (hit N check s p) * s.row (pivot N check s) e ≡ 0
      go true q = rw (none q) (mul-zero _)
      go false q = rw (q, flag-false) (zero-mul _)

  -- a row that is not hit stays, and where none is hit no row is dropped
  pub stepped-missed : (p e : ℕ) → hit N check s p ≡ false → (stepped N check s).row p e ≡ s.row p e
  stepped-missed p e q = stepped-keeps p e (λ h. absurd (true≢false (sym h ∙ q)))

-- ---- the invariants

abbrev pub Bits : ℕ → (ℕ → ℕ) → Type 0
Bits N f = (e : ℕ) → e < N → f e < 2

abbrev pub Solution : ℕ → (ℕ → ℕ → ℕ) → ℕ → (ℕ → ℕ) → Type 0
Solution N checks m f = (i : ℕ) → i < m → parity N (checks i) f ≡ 0

pub record Reduced (N : ℕ) (checks : ℕ → ℕ → ℕ) (m : ℕ) (s : State) : Type 0 where
  pub live-lt : (p : ℕ) → s.live p ≡ true → p < N
  pub row_lt : (p e : ℕ) → s.row p e < 2
  pub row-own : (p : ℕ) → s.live p ≡ true → s.row p p ≡ 1
  pub row_other : (p q : ℕ) → s.live p ≡ true → s.live q ≡ true → p ≢ q → s.row p q ≡ 0
  pub row-above : (p e : ℕ) → s.live p ≡ true → p < e → s.row p e ≡ 0
  pub row-solves : (p : ℕ) → s.live p ≡ true → Solution N checks m (s.row p)
  pub spans : (f : ℕ → ℕ) → Bits N f → Solution N checks m f → (e : ℕ) → e < N → f e ≡ combined N s f e

-- ---- combinations of live rows

-- a term of a combination counts only where its row is live
chosen-term : (s : State) (b c : ℕ → ℕ) (p x y : ℕ) → (s.live p ≡ true → b p * x ≡ c p * y) → chosen s b p * x ≡ chosen s c p * y
chosen-term s b c p x y same = go (s.live p) refl
  where
    go : (t : Bool) → s.live p ≡ t → chosen s b p * x ≡ chosen s c p * y
    go true e = omega (arith, ap (λ (z : ℕ). flag (s.live p) * z) (same e))
    go false e = rw (e, flag-false) (omega arith)

chosen-row : (s : State) (c : ℕ → ℕ) (p x y : ℕ) → (s.live p ≡ true → x ≡ y) → chosen s c p * x ≡ chosen s c p * y
chosen-row s c p x y same = chosen-term s c c p x y (λ e. ap (λ (z : ℕ). c p * z) (same e))

chosen_none : (s : State) (c : ℕ → ℕ) (p x : ℕ) → (s.live p ≡ true → c p * x ≡ 0) → chosen s c p * x ≡ 0
chosen_none s c p x none = chosen-term s c c p x 0 (λ e. none e ∙ sym (mul-zero (c p))) ∙ mul-zero (chosen s c p)

combined-parity : (N : ℕ) (a : ℕ → ℕ) (s : State) (c : ℕ → ℕ) → parity N a (combined N s c) ≡ parity N (chosen s c) (λ p. parity N a (s.row p))
unfolding combined
combined-parity N a s c = parity-swap N N a (chosen s c) s.row

-- ---- the invariants hold

start-reduced : (N : ℕ) (checks : ℕ → ℕ → ℕ) → Reduced N checks 0 (start N)
unfolding start combined
start-reduced N checks =
    record {
      live-lt = λ p e. ltb-true p N e;
      row_lt = λ p e. omega (arith, flag-le-one (eqb p e));
      row-own = λ p e. flag-equal p p refl;
      row_other = λ p q _ _ apart. flag-apart p q apart;
      row-above = λ p e _ l. flag-apart p e (λ q. omega arith);
      row-solves = λ p _ i l. absurd (not-suc-le-zero l);
      spans = λ f bits _ e l.
          sym (parity-unit N e _ l ∙ rw (lt-ltb e N l, flag_true, one-mul) (mod-eq_of_lt (bits e l)));
    }

flag-times-lt : (t : Bool) (x : ℕ) → x < 2 → flag t * x < 2
unfolding flag
flag-times-lt true x l = omega arith
flag-times-lt false x l = omega arith

module _ (N : ℕ) (checks : ℕ → ℕ → ℕ) (m : ℕ) (s : State) (r : Reduced N checks m s) where
  abbrev low : ℕ
  low = pivot N (checks m) s

  abbrev next : State
  next = stepped N (checks m) s

  abbrev hits : ℕ → Bool
  hits = hit N (checks m) s

  old-live : (p : ℕ) → next.live p ≡ true → s.live p ≡ true
  old-live p e = (stepped-live N (checks m) s p e).0

  not_low : (p : ℕ) → next.live p ≡ true → low ≢ p
  not_low p e q = (stepped-live N (checks m) s p e).1 (sym q)

  low-le : (p : ℕ) → hits p ≡ true → low ≤ p
  low-le p h = pivot-le N (checks m) s p (r.live-lt p (hit-live N (checks m) s p h)) h

  low-hit : (p : ℕ) → hits p ≡ true → hits low ≡ true
  low-hit p h = pivot-hit N (checks m) s (omega (arith, low-le p h, r.live-lt p (hit-live N (checks m) s p h)))

  low-live : (p : ℕ) → hits p ≡ true → s.live low ≡ true
  low-live p h = hit-live N (checks m) s low (low-hit p h)

  next-lt : (p e : ℕ) → next.row p e < 2
  next-lt p e = rw stepped-row (xor-bits-lt _ _ (r.row_lt p e) (flag-times-lt (hits p) _ (r.row_lt low e)))

  next-parity : (a : ℕ → ℕ) (p : ℕ) → parity N a (next.row p) ≡ (parity N a (s.row p) + flag (hits p) * parity N a (s.row low)) % 2
  unfolding stepped
  next-parity a p = parity-xor N a (s.row p) _ ∙ ap (λ (x : ℕ). (parity N a (s.row p) + x) % 2) (parity-flag N a (s.row low) (hits p))

  next-solves : (p : ℕ) → next.live p ≡ true → Solution N checks (suc m) (next.row p)
  next-solves p e i l =
      next-parity (checks i) p ∙ go (hits p) refl (eq-or-lt_of_le (le_of_suc-le-suc l))
    where
      go : (t : Bool) → hits p ≡ t → (i ≡ m) ⊎ (i < m) → (parity N (checks i) (s.row p) + flag (hits p) * parity N (checks i) (s.row low)) % 2 ≡ 0
      go true h (inl q) = rw (q, h, hit-parity N (checks m) s p h, hit-parity N (checks m) s low (low-hit p h), flag_true)
      go true h (inr k) = rw (h, r.row-solves p (old-live p e) i k, r.row-solves low (low-live p h) i k, flag_true)
      go false h (inl q) = rw (q, ← hit-flag N (checks m) s p (old-live p e), h, flag-false) (omega arith)
      go false h (inr k) = rw (h, r.row-solves p (old-live p e) i k, flag-false) (omega arith)

  -- a solution has its 1 at an even number of the rows that are hit
  even-hits : (f : ℕ → ℕ) → Bits N f → Solution N checks (suc m) f → parity N (chosen s f) (λ p. flag (hits p)) ≡ 0
  even-hits f bits solves =
      parity-ext N _ _ _ _ (λ p l. chosen-row s f p _ _ (hit-flag N (checks m) s p))
      ∙ sym (combined-parity N (checks m) s f)
      ∙ parity-ext N _ _ _ _ (λ e l. ap (λ (x : ℕ). checks m e * x) (sym (r.spans f bits (λ i k. solves i (le_step k)) e l)))
      ∙ solves m (lt-suc_self m)

  -- the pivot's row is put on itself
  low-row : (e : ℕ) → low < N → next.row low e ≡ 0
  low-row e l =
      stepped-row N (checks m) s low e
      ∙ ap (λ (t : Bool). bit_xor (s.row low e) (flag t * s.row low e)) (pivot-hit N (checks m) s l)
      ∙ ap (bit_xor (s.row low e)) (rw flag_true (one-mul _)) ∙ xor_self (s.row low e)

  -- the pivot's row may be dropped, as it is 0
  dropped : (c : ℕ → ℕ) (p e : ℕ) → p < N → chosen next c p * next.row p e ≡ chosen s c p * next.row p e
  dropped c p e l = go (eqb p low) refl
    where
      go : (t : Bool) → eqb p low ≡ t → chosen next c p * next.row p e ≡ chosen s c p * next.row p e
      go true q =
          let here : p ≡ low = eqb-true p low q in
          let none : next.row p e ≡ 0 = ap (λ (x : ℕ). next.row x e) here ∙ low-row e (omega arith) in
          rw none (mul-zero _ ∙ sym (mul-zero _))
      go false q =
          ap (λ (t : Bool). flag t * c p * next.row p e)
          (stepped-live-is N (checks m) s p ∙ ap (λ (t : Bool). s.live p && not t) q ∙ and-true (s.live p))

  next-spans : (f : ℕ → ℕ) → Bits N f → Solution N checks (suc m) f → (e : ℕ) → e < N → f e ≡ combined N next f e
  unfolding combined stepped
  next-spans f bits solves e l =
      let old : f e ≡ parity N (chosen s f) (λ p. s.row p e) = r.spans f bits (λ i k. solves i (le_step k)) e l in
      sym
      (parity-ext N (chosen next f) (chosen s f) _ _ (λ p k. dropped f p e k)
      ∙ parity-xor N (chosen s f) (λ p. s.row p e) (λ p. flag (hits p) * s.row low e)
      ∙ rw (← old, parity-scale-none N (s.row low e) (chosen s f) (λ p. flag (hits p)) (even-hits f bits solves), add-zero)
      (mod-eq_of_lt (bits e l)))

  stepped-reduced : Reduced N checks (suc m) next
  stepped-reduced =
      record {
        live-lt = λ p e. r.live-lt p (old-live p e);
        row_lt = next-lt;
        row-own = λ p e.
            stepped-keeps N (checks m) s p p (λ h. r.row_other low p (low-live p h) (old-live p e) (not_low p e))
            ∙ r.row-own p (old-live p e);
        row_other = λ p q d e apart.
            stepped-keeps N (checks m) s p q (λ h. r.row_other low q (low-live p h) (old-live q e) (not_low q e))
            ∙ r.row_other p q (old-live p d) (old-live q e) apart;
        row-above = λ p e d l.
            stepped-keeps N (checks m) s p e (λ h. r.row-above low e (low-live p h) (omega (arith, low-le p h))) ∙ r.row-above p e (old-live p d) l;
        row-solves = next-solves;
        spans = next-spans;
      }

-- ---- the states of a list of checks

pub after-zero : (N : ℕ) (checks : ℕ → ℕ → ℕ) → after N checks 0 ≡ start N
unfolding after
after-zero N checks = refl

pub after-one-more : (N : ℕ) (checks : ℕ → ℕ → ℕ) (m : ℕ) → after N checks (m + 1) ≡ stepped N (checks m) (after N checks m)
unfolding after
after-one-more N checks m = rw add-one

pub after-reduced : (N : ℕ) (checks : ℕ → ℕ → ℕ) (m : ℕ) → Reduced N checks m (after N checks m)
unfolding after
after-reduced N checks zero = start-reduced N checks
after-reduced N checks (suc m) = stepped-reduced N checks m (after N checks m) (after-reduced N checks m)

-- ---- the solutions

pub record LastOne (N : ℕ) (f : ℕ → ℕ) (j : ℕ) : Type 0 where
  pub one_at : f j ≡ 1
  pub none_after : (e : ℕ) → j < e → e < N → f e ≡ 0

module _ {N : ℕ} {checks : ℕ → ℕ → ℕ} {m : ℕ} {s : State} (r : Reduced N checks m s) where
  pub combination-solution : (c : ℕ → ℕ) → Solution N checks m (combined N s c)
  combination-solution c i l =
      combined-parity N (checks i) s c
      ∙ parity-none N _ _ (λ p k. chosen_none s c p _ (λ e. rw (r.row-solves p e i l) (mul-zero (c p))))

  pub combination-lt : (c : ℕ → ℕ) → Bits N (combined N s c)
  unfolding combined
  combination-lt c e l = parity-lt N _ _

  -- the combination has the chosen bits at the live positions
  pub combination-bit : (c : ℕ → ℕ) (q : ℕ) → s.live q ≡ true → c q < 2 → combined N s c q ≡ c q
  unfolding combined
  combination-bit c q e l =
      parity-ext N _ _ _ (λ p. flag (eqb p q)) (λ p k. chosen-row s c p _ _ (λ d. own p d (ℕ_discrete p q)))
      ∙ parity-unit N q (chosen s c) (r.live-lt q e) ∙ rw (e, flag_true, one-mul) (mod-eq_of_lt l)
    where
      own : (p : ℕ) → s.live p ≡ true → Dec (p ≡ q) → s.row p q ≡ flag (eqb p q)
      own p d (yes z) = rw z (r.row-own q e ∙ sym (flag-equal q q refl))
      own p d (no z) = r.row_other p q d e z ∙ sym (flag-apart p q z)

  pub solution-unique : (f g : ℕ → ℕ) → Bits N f → Bits N g → Solution N checks m f → Solution N checks m g
      → ((p : ℕ) → s.live p ≡ true → f p ≡ g p) → (e : ℕ) → e < N → f e ≡ g e
  unfolding combined
  solution-unique f g bits-f bits-g solves-f solves-g same e l =
      r.spans f bits-f solves-f e l
      ∙ parity-ext N _ _ _ _ (λ p k. chosen-term s f g p _ _ (λ d. ap (λ (x : ℕ). x * s.row p e) (same p d)))
      ∙ sym (r.spans g bits-g solves-g e l)

  -- a live position is the last 1 of its own row, and every solution's last 1 is at a live position
  pub live-last : (p : ℕ) → s.live p ≡ true → LastOne N (s.row p) p
  live-last p e = record { one_at = r.row-own p e; none_after = λ q l _. r.row-above p q e l }

  pub last-live : (f : ℕ → ℕ) → Bits N f → Solution N checks m f → (j : ℕ) → j < N → LastOne N f j → s.live j ≡ true
  unfolding combined
  last-live f bits solves j l last = go (s.live j) refl
    where
      clear : s.live j ≡ false → (p : ℕ) → p < N → s.live p ≡ true → f p * s.row p j ≡ 0
      clear e p k d =
          elim (dec_le j p) [
            | yes h ↦ rw (last.none_after p (lt_of_le-ne h (λ q. true≢false (sym (rw (← q) at d) ∙ e))) k) (zero-mul _)
            | no h ↦ rw (r.row-above p j d (omega arith)) (mul-zero _)
          ]

      go : (t : Bool) → s.live j ≡ t → s.live j ≡ true
      go true e = e
      go false e =
          let none = parity-none N _ _ (λ p k. chosen_none s f p _ (λ d. clear e p k d)) in
          absurd (omega (arith, last.one_at, r.spans f bits solves j l, none))
