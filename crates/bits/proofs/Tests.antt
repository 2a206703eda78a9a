-- Laws of tests: what two tests joined by && and || say of each, and a flag that is 0.
--   flag t     1 where the test t holds, 0 where it does not (specs Sum)
-- Laws are named by the joint (and-, or-, flag-) and what they say of it. What the kit has of tests is in borrow.Author.Tests.
use Rattle.std.proofs.Common.{Bool, true, false, ◌&&◌, ◌||◌, ◌≡◌, refl, sym, arith}
use mathlib.Core.Bool.{false≢true}
use Rattle.bits.specs.Sum.{flag}

pub and_both : (s t : Bool) → (s && t) ≡ true → (s ≡ true) × (t ≡ true)
and_both true t e = (refl, e)
and_both false t e = absurd (false≢true e)

pub or_left : (s t : Bool) → s ≡ true → (s || t) ≡ true
or_left s t e = rw e

pub or_right : (s t : Bool) → t ≡ true → (s || t) ≡ true
or_right true t e = refl
or_right false t e = e

pub or-neither : (s t : Bool) → (s || t) ≡ false → (s ≡ false) × (t ≡ false)
or-neither true t e = absurd (false≢true (sym e))
or-neither false t e = (refl, e)

pub flag-zero : (t : Bool) → flag t ≡ 0 → t ≡ false
unfolding flag
flag-zero true e = absurd (omega arith)
flag-zero false e = refl
