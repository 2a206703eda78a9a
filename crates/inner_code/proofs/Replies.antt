-- Replies and the order of refusals.
--   refuse_if t n p next   refused n p where the test t holds, and else what comes next
--   and_then first next    the first of two places that refuses
--   if_done reply one other   one list where the reply is done, the other where it refuses
-- `refuse-` laws speak of one test, `and_then-` laws of two places, `if_done-` laws of what a reply leaves, each at the outcome that they
-- end in.
use Rattle.std.proofs.Common.{Result, Err, IsErrAnd, ◌≡◌, refl, ap, ◌∙◌, Bool, true, false, List, ℕ, arith}
use Rattle.std.proofs.lemmas.Result.{err_from_is_err_and}
use Rattle.inner_code.specs.declared.refusal.Refusal.{Refusal}
use Rattle.inner_code.specs.Reply.{Reply, done, refused, refuse_if, and_then, if_done}

-- `?` hands a refusal on as it is
pub passed-on : {T : Type 0} (r : Result T Refusal) (f : Refusal) → IsErrAnd r (λ x. x ≡ f) → r ≡ Err f
passed-on r f is = let p = err_from_is_err_and r is in p.1 ∙ ap Err p.2

pub refuse-taken : (t : Bool) (n p : ℕ) (next : Reply) → t ≡ true → refuse_if t n p next ≡ refused n p
unfolding refuse_if
refuse-taken t n p next e = ap (λ (b : Bool). refuse_if b n p next) e

pub refuse-passed : (t : Bool) (n p : ℕ) (next : Reply) → t ≡ false → refuse_if t n p next ≡ next
unfolding refuse_if
refuse-passed t n p next e = ap (λ (b : Bool). refuse_if b n p next) e

-- a test whose outcome is done did not hold
pub refuse-done : (t : Bool) (n p : ℕ) (next : Reply) (values : List ℕ) → refuse_if t n p next ≡ done values → (t ≡ false) × (next ≡ done values)
unfolding refuse_if
refuse-done true n p next values e = let z : ◌≡◌ {A = ℕ} 0 1 = cc in absurd (omega arith)
refuse-done false n p next values e = (refl, e)

pub and_then-passed : (first next : Reply) (values : List ℕ) → first ≡ done values → and_then first next ≡ next
unfolding and_then
and_then-passed first next values e = ap (λ (r : Reply). and_then r next) e

pub and_then-refused : (first next : Reply) (n p : ℕ) → first ≡ refused n p → and_then first next ≡ refused n p
unfolding and_then
and_then-refused first next n p e = ap (λ (r : Reply). and_then r next) e

pub and_then-done : (first next : Reply) (values : List ℕ) → and_then first next ≡ done values
    → ((passed : List ℕ) × (first ≡ done passed)) × (next ≡ done values)
unfolding and_then
and_then-done (done passed) next values e = ((passed, refl), e)
and_then-done (refused n p) next values e = let z : ◌≡◌ {A = ℕ} 0 1 = cc in absurd (omega arith)

pub and_then-assoc : (a b c : Reply) → and_then (and_then a b) c ≡ and_then a (and_then b c)
unfolding and_then
and_then-assoc (done values) b c = refl
and_then-assoc (refused n p) b c = refl

-- a refusal before values that are told is the first place's
pub and_then-back : (first : Reply) (values : List ℕ) (n p : ℕ) → and_then first (done values) ≡ refused n p → first ≡ refused n p
unfolding and_then
and_then-back (done passed) values n p e = let z : ◌≡◌ {A = ℕ} 0 1 = cc in absurd (omega arith)
and_then-back (refused m q) values n p e = e

pub if_done-done : (reply : Reply) (one other values : List ℕ) → reply ≡ done values → if_done reply one other ≡ one
unfolding if_done
if_done-done reply one other values e = rw e

pub if_done-refused : (reply : Reply) (one other : List ℕ) (n p : ℕ) → reply ≡ refused n p → if_done reply one other ≡ other
unfolding if_done
if_done-refused reply one other n p e = rw e
