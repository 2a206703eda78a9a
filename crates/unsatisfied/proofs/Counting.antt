-- How many vertices read no inner codeword, and how that changes with one vertex's word and with one bit.
--   unsatisfied_at side block      how many vertices of a side do (specs Count)
--   unsatisfied_count sides block  how many do, left and right: the true count (specs Count)
--   count_change sides before after  the change of the true count, 65,536 added (specs Count)
--   missed side block v           1 where vertex v reads no inner codeword, 0 where it does
--   Whole N side                  the entries of a side are the bits 0 .. N - 1, each once (wiring Permutation)
-- Laws are named by their subject, then by the fact: `at-` is about the vertices of one side, `count-` about both, `change-` about the change.
-- At the end of a name, `-le` is a bound, `-codeword` and `-none` lead from a codeword block to no unsatisfied vertex and back, `-moved` is a
-- block in which one vertex reads another word, `-turned` one in which a bit is turned.
use Rattle.std.proofs.Common.{ℕ, ◌+◌, ◌*◌, ◌/◌, ◌%◌, ◌≤◌, ◌<◌, Bool, true, not, List, ◌≡◌, refl, sym, ap, ◌∙◌, div-add-mod'}
use Rattle.std.proofs.Common.{div-lt_iff_lt-mul, mod-lt, arith, eqb, length}
use native.Mathlib.Decide.{ℕ_discrete}
use borrow.Author.Tests.{not-false}
use Rattle.bits.specs.Sum.{sum, flag}
use Rattle.bits.specs.Window.{turned}
use Rattle.bits.proofs.Sums.{sum-ext, sum-add, sum-at, sum-none, sum-none-each, flag-false, flag-equal, flag-apart, count-le}
use Rattle.bits.proofs.Tests.{flag-zero}
use Rattle.inner_code.specs.Code.{is_codeword}
use Rattle.wiring.specs.Plan.{Side, left, right}
use Rattle.wiring.specs.Block.{vertex_word, satisfied, is_codeword_block}
use Rattle.wiring.specs.declared.side.SideName.{SideName}
use Rattle.wiring.proofs.CodewordBlocks.{codeword-block-each, codeword-block-back}
use Rattle.wiring.proofs.Permutation.{Whole}
use Rattle.wiring.proofs.TurnedBits.{vertex-turned-other}
use Rattle.unsatisfied.specs.Count.{unsatisfied_at, unsatisfied_count, count_change}

-- 1 where vertex v reads no inner codeword
abbrev pub missed : Side → List ℕ → ℕ → ℕ
missed side block v = flag (not (satisfied side block v))

-- the same of a word
abbrev pub missed_word : Side → ℕ → ℕ
missed_word side w = flag (not (is_codeword side.row side.k w))

pub missed-word : (side : Side) (block : List ℕ) (v : ℕ) → missed side block v ≡ missed_word side (vertex_word side block v)
unfolding satisfied
missed-word side block v = refl

-- ---- one side

module _ (side : Side) where
  pub at-le : (block : List ℕ) → unsatisfied_at side block ≤ side.n
  unfolding unsatisfied_at
  at-le block = count-le side.n (λ v. not (satisfied side block v))

  at_none : (block : List ℕ) → ((v : ℕ) → v < side.n → satisfied side block v ≡ true) → unsatisfied_at side block ≡ 0
  unfolding unsatisfied_at
  at_none block all = sum-none side.n _ (λ v l. ap (λ (t : Bool). flag (not t)) (all v l) ∙ flag-false)

  at_each : (block : List ℕ) → unsatisfied_at side block ≡ 0 → (v : ℕ) → v < side.n → satisfied side block v ≡ true
  unfolding unsatisfied_at
  at_each block e v l = not-false _ (flag-zero _ (sum-none-each side.n (λ v. missed side block v) e v l))

  -- where one vertex alone reads another word, the number changes by what becomes of that vertex
  pub at_moved : (before after : List ℕ) (v : ℕ) → v < side.n
      → ((u : ℕ) → u < side.n → (u ≡ v → ⊥) → vertex_word side after u ≡ vertex_word side before u)
      → unsatisfied_at side after + missed side before v ≡ unsatisfied_at side before + missed side after v
  unfolding unsatisfied_at
  at_moved before after v below same =
      let here : (b : List ℕ) → sum side.n (λ u. flag (eqb u v) * missed side b u) ≡ missed side b v = λ b. sum-at side.n v (missed side b) below in
      omega (
        arith,
        here before,
        here after,
        sum-add side.n (missed side after) (λ u. flag (eqb u v) * missed side before u),
        sum-add side.n (missed side before) (λ u. flag (eqb u v) * missed side after u),
        sum-ext side.n (λ u. missed side after u + flag (eqb u v) * missed side before u)
            (λ u. missed side before u + flag (eqb u v) * missed side after u) each,
      )
    where
      each : (u : ℕ) → u < side.n → missed side after u + flag (eqb u v) * missed side before u ≡ missed side before u + flag (eqb u v) * missed side after u
      each u l =
          elim (ℕ_discrete u v) [
            | yes e ↦ rw (flag-equal u v e) (omega arith)
            | no apart ↦
                rw (
                  flag-apart u v apart,
                  missed-word side after u ∙ ap (missed_word side) (same u l apart) ∙ sym (missed-word side before u),
                ) (omega arith)
          ]

  -- a bit that is turned is read by one vertex
  pub at-turned : {N : ℕ} → Whole N side → (block : List ℕ) → N ≤ length block * 8 → (place : ℕ) → place < N
      → unsatisfied_at side (turned block (side.bit place) 1) + missed side block (place / side.d)
      ≡ unsatisfied_at side block + missed side (turned block (side.bit place) 1) (place / side.d)
  at-turned {N} w block room place below =
      let v-lt : place / side.d < side.n = (div-lt_iff_lt-mul w.degree-pos).1 (rw w.entries below) in
      at_moved block (turned block (side.bit place) 1) (place / side.d) v-lt
      (λ u l apart.
      rw (div-add-mod' place side.d) at
      (vertex-turned-other w block room (place / side.d) (place % side.d) v-lt (mod-lt place w.degree-pos) u l apart))

-- ---- both sides

module _ (sides : SideName → Side) where
  pub count-le-all : (block : List ℕ) → unsatisfied_count sides block ≤ (sides left).n + (sides right).n
  unfolding unsatisfied_count
  count-le-all block = omega (arith, at-le (sides left) block, at-le (sides right) block)

  -- the true count is 0 exactly for a codeword block
  pub count-codeword : (block : List ℕ) → is_codeword_block sides block ≡ true → unsatisfied_count sides block ≡ 0
  unfolding unsatisfied_count
  count-codeword block e =
      let none : (name : SideName) → unsatisfied_at (sides name) block ≡ 0 = λ name. at_none (sides name) block (codeword-block-each sides block e name) in
      omega (arith, none left, none right)

  pub count_none : (block : List ℕ) → unsatisfied_count sides block ≡ 0 → is_codeword_block sides block ≡ true
  unfolding unsatisfied_count
  count_none block e = codeword-block-back sides block go
    where
      go : (name : SideName) (v : ℕ) → v < (sides name).n → satisfied (sides name) block v ≡ true
      go SideName.Left = at_each (sides left) block (omega arith)
      go SideName.Right = at_each (sides right) block (omega arith)

  -- the change, from what is above it and what is below
  pub change-is : (before after : List ℕ) (change : ℕ) → change + unsatisfied_count sides before ≡ 65536 + unsatisfied_count sides after
      → change ≡ count_change sides before after
  unfolding count_change
  change-is before after change e = omega arith

  pub change-none : (block : List ℕ) → count_change sides block block ≡ 65536
  unfolding count_change
  change-none block = omega arith
