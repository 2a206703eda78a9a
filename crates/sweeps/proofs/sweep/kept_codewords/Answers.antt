-- `sweeps::kept_codewords` meets its contract: the test of all of them stops at one that is none.
use Rattle.std.proofs.Common.{ℕ, ◌≡◌, ◌<◌, ◌≤◌, Bool, true, false, List, length, take, MatchBool, sym, arith, rules, tests, length-take, get_or-take}
use Rattle.std.specs.List.{HoldsAt, AllWithin}
use Rattle.std.proofs.lemmas.Bool.{false≢true}
use Rattle.std.proofs.lemmas.Iterator.{cases_from_all, YieldsList-from_slice}
use Rattle.bits.specs.Window.{at}
use Rattle.finder.specs.Finding.{codeword_by}
use Rattle.sweeps.proofs.sweep.kept_codewords.Goals as goal

-- the answer of the test, by the words themselves
module _ (finder kept : List ℕ) (n : ℕ) (within : n ≤ length kept) where
  abbrev Told : Bool → Type 0
  Told r =
      MatchBool r (AllWithin (λ w. codeword_by finder w ≡ true) (take n kept) 0 (length (take n kept)))
      ((k : ℕ) × (k < length (take n kept)) × HoldsAt (λ w. codeword_by finder w ≡ false) (take n kept) k)

  all-true : (r : Bool) → Told r → r ≡ true → (v : ℕ) → v < n → codeword_by finder (at kept v) ≡ true
  unfolding at
  all-true true all e v below = rw (get_or-take) at (all v 0 (omega arith) (simp length-take (omega arith)))
  all-true false some e v below = absurd (false≢true e)

  one-false : (r : Bool) → Told r → r ≡ false → (v : ℕ) × (v < n) × (codeword_by finder (at kept v) ≡ false)
  unfolding at
  one-false true all e = absurd (false≢true (sym e))
  one-false false (v, l, missed) e =
      let below : v < n = omega (arith, simp length-take at l) in (v, below, rw get_or-take at (missed 0))

pub returns : goal.returns
returns c =
    let told : Told c.args.finder.now c.args.kept.now c.args.n (omega arith) c.all.result =
    cases_from_all _ _ c.all.result (λ w. codeword_by c.args.finder.now w ≡ true) (λ w. codeword_by c.args.finder.now w ≡ false) c.all.ensures.ran
    (YieldsList-from_slice (take c.args.n c.args.kept.now) cc) (λ x q k. search (rules, tests)) (λ x q k. search (rules, tests)) in
    record {
      when_true = all-true c.args.finder.now c.args.kept.now c.args.n (omega arith) c.all.result told;
      when_false = one-false c.args.finder.now c.args.kept.now c.args.n (omega arith) c.all.result told;
    }
