-- The code's test of a word and of a vertex, told as a number, and how many vertices of a side fail it.
--   missed_of code w                      1 where the code's test of a word fails, 0 where it passes (specs Answer)
--   missed_by code side wiring block v    the same of the word that vertex v reads (specs Answer)
--   missed_up_to code side wiring m block  how many of the vertices 0 .. m - 1 of a side fail it (specs Answer)
--   missed_word side w, missed side block v  the same by the definition of a codeword (Counting)
--   unsatisfied_at side block             how many vertices of a side read no inner codeword (specs Count)
--   code_of plan name                     a side of a plan as the code holds it (wiring specs Code)
-- Laws are named by their subject, then by the fact: `word-` is about one word, `vertex-` about one vertex, `up-to-` about the vertices before
-- one. At the end of a name, `-told` is what the code's cast of a test tells, `-none` and `-one-more` are the steps of a loop, `-defined` says that
-- in an accepted plan the code's number is the definition's.
use Rattle.std.proofs.Common.{ℕ, ◌+◌, ◌≤◌, ◌<◌, min, Bool, true, false, not, List, [], ◌≡◌, refl, sym, ap, ap₂, ◌∙◌, eqb}
use mir.Val.{bool_byte}
use Rattle.bits.specs.Sum.{flag}
use Rattle.bits.specs.Window.{at}
use Rattle.bits.proofs.Sums.{sum-zero, sum-one-more, sum-ext, flag-le-one}
use Rattle.inner_code.specs.Reply.{done}
use Rattle.inner_code.specs.Reduction.{reduced_by}
use Rattle.inner_code.specs.Sheet.{row_count, row_of}
use Rattle.wiring.specs.Plan.{Plan, sheet_of, count_of, side_of}
use Rattle.wiring.specs.Wiring.{plan_check}
use Rattle.wiring.specs.Code.{code_of}
use Rattle.wiring.specs.declared.side.SideCode.{SideCode}
use Rattle.wiring.specs.declared.side.SideName.{SideName}
use Rattle.wiring.proofs.Locating.{codeword-residue}
use Rattle.wiring.proofs.Plans.{plan-sound}
use Rattle.wiring.proofs.VertexAccess.{read-vertex}
use Rattle.unsatisfied.specs.Count.{unsatisfied_at}
use Rattle.unsatisfied.specs.Answer.{missed_of, missed_by, missed_up_to}
use Rattle.unsatisfied.proofs.Counting.{missed, missed_word, missed-word}

-- a test that is cast to a number is its flag
flag-byte : (t : Bool) → bool_byte t ≡ flag t
unfolding flag
flag-byte true = refl
flag-byte false = refl

-- ---- one word: `left` is what the basis leaves of it

module _ (code : SideCode) (word left : ℕ) (leaves : left ≡ reduced_by (at code.basis) (min code.k 11) word) where
  pub word-told : (bool_byte (not (eqb left 0)) ≡ missed_of code word) × (bool_byte (not (eqb left 0)) ≤ 1)
  unfolding missed_of
  word-told = rw (leaves, flag-byte) (refl, flag-le-one _)

-- ---- the vertices before one

module _ (code : SideCode) (side : SideName) (wiring block : List ℕ) where
  pub up-to-none : 0 ≡ missed_up_to code side wiring 0 block
  unfolding missed_up_to
  up-to-none = sym (sum-zero (λ v. missed_by code side wiring block v))

  pub up-to-one-more : (v count one : ℕ) → count ≡ missed_up_to code side wiring v block → one ≡ missed_by code side wiring block v
      → count + one ≡ missed_up_to code side wiring (v + 1) block
  unfolding missed_up_to
  up-to-one-more v count one c o = ap₂ ◌+◌ c o ∙ sym (sum-one-more v (λ u. missed_by code side wiring block u))

-- ---- the code's numbers are the definition's

module _ (plan : Plan) (accepted : plan_check plan ≡ done []) (name : SideName) where
  pub word-defined : (w : ℕ) → missed_of (code_of plan name) w ≡ missed_word (side_of plan name) w
  unfolding missed_of
  word-defined w =
      let few = ((plan-sound plan accepted).0 name).count-high in
      ap (λ (t : Bool). flag (not t)) (sym (codeword-residue (row_of (sheet_of plan name)) (row_count (sheet_of plan name)) _ refl few w))

  module _ (block : List ℕ) where
    pub vertex-defined : (v : ℕ) → v < count_of plan name
        → missed_by (code_of plan name) name plan.wiring block v ≡ missed (side_of plan name) block v
    unfolding missed_by
    vertex-defined v l =
        ap (missed_of (code_of plan name)) (read-vertex (sheet_of plan name) (count_of plan name) plan.wiring name block v)
        ∙ word-defined _ ∙ sym (missed-word (side_of plan name) block v)

    pub up-to-defined : {code : SideCode} → code ≡ code_of plan name
        → missed_up_to code name plan.wiring code.n block ≡ unsatisfied_at (side_of plan name) block
    unfolding missed_up_to unsatisfied_at
    up-to-defined held = rw held (sum-ext (count_of plan name) _ _ vertex-defined)
