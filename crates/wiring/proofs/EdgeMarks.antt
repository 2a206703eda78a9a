-- The bytes that tell which edges stand at some entry, and what follows where all do.
--   none_marked n                   n bytes, all 0 (specs Access)
--   marked_after mask edge i marks  the bytes with 1 for each edge that stands among entries 0 .. i - 1, at the number that those of its
--                                  binary digits make that the mask has too (specs Access)
--   entries_check N edge m          the refusal of the first faulty entry below m (specs Wiring)
-- Laws are named by their subject, then by the fact: `masked-` is about the digits that a mask leaves, `marked-` about the bytes, `digits-`
-- about the binary digits of the first edges, `least-` about the least of the first bytes, `entries-` about the check of all entries.
-- `-one-more` is one turn of a loop; `-lowered` is the turn that finds a smaller byte and `-kept` the turn that does not.
use Rattle.std.proofs.Common.{ℕ, zero, suc, ◌+◌, ◌-◌, ◌^◌, ◌≤◌, ◌<◌, List, [], ⊎_elim, ◌≡◌, sym, ap, ◌∙◌, lt-suc_self, eq-or-lt_of_le}
use Rattle.std.proofs.Common.{mod-eq_of_lt, add-one, arith, bit_and, bit_or, length, get_or, set, get_or-set_other}
use native.Mathlib.Nat.{le_step}
use native.Mathlib.Decide.{ℕ_discrete}
use lib.Bits.{or_add_and, and_le_l, and_le_r, and_mask}
use lib.ListN.{length-replicate}
use Rattle.bits.specs.Window.{at}
use Rattle.bits.specs.Search.{least}
use Rattle.bits.proofs.Searches.{least-le, least-one-more}
use Rattle.inner_code.specs.Reply.{done}
use Rattle.wiring.specs.Wiring.{entries_check}
use Rattle.wiring.specs.Access.{none_marked, marked_after}
use Rattle.wiring.proofs.Permutation.{entries-onto, entries-back}
use Rattle.bits.proofs.Lists.{zeros-at}

-- ---- the mask

-- a mask of k digits, all 1, leaves a number that has no more digits as it is
masked_low : (k mask e : ℕ) → mask + 1 ≡ 2 ^ k → e ≤ mask → bit_and e mask ≡ e
masked_low k mask e power low =
    let m : mask ≡ 2 ^ k - 1 = omega arith in
    ap (bit_and e) m ∙ and_mask e k ∙ mod-eq_of_lt (omega arith)

-- ---- the bytes

marked-none : (n e : ℕ) → get_or (none_marked n) e 0 ≡ 0
unfolding none_marked
marked-none n e = zeros-at n e

pub marked-none-length : (n : ℕ) → length (none_marked n) ≡ n
unfolding none_marked
marked-none-length n = length-replicate {A = ℕ} n 0

-- a byte that is set afterwards and was not before is that of an entry
marked-found : (mask : ℕ) (edge : ℕ → ℕ) (i : ℕ) (marks : List ℕ) (e : ℕ) → get_or marks e 0 ≡ 0
    → 0 < get_or (marked_after mask edge i marks) e 0 → (j : ℕ) × (j < i) × (bit_and (edge j) mask ≡ e)
unfolding marked_after
marked-found mask edge zero marks e clear pos = absurd (omega arith)
marked-found mask edge (suc i) marks e clear pos =
    elim (ℕ_discrete (bit_and (edge i) mask) e) [
      | yes same ↦ (i, lt-suc_self i, same)
      | no other ↦
          let kept = get_or-set_other (marked_after mask edge i marks) (bit_and (edge i) mask) e 1 0 (λ q. other (sym q)) in
          let (j, l, q) = marked-found mask edge i marks e clear (rw kept at pos) in
          (j, le_step l, q)
    ]

pub marked-one-more : (mask : ℕ) (edge : ℕ → ℕ) (i e : ℕ) (marks none : List ℕ) → marks ≡ marked_after mask edge i none → e ≡ edge i
    → set marks (bit_and e mask) 1 ≡ marked_after mask edge (i + 1) none
unfolding marked_after
marked-one-more mask edge i e marks none m q = rw (add-one, m, q)

-- ---- the digits of all edges and the least byte, one more at a time

-- no edge so far is above the number that has the binary digits of all
pub digits-one-more : (edge : ℕ → ℕ) (i e digits : ℕ) → ((j : ℕ) → j < i → edge j ≤ digits) → e ≡ edge i
    → (j : ℕ) → j < i + 1 → edge j ≤ bit_or digits e
digits-one-more edge i e digits before is j l =
    ⊎_elim (λ (q : j ≡ i). omega (arith, or_add_and digits e, and_le_l digits e, ap edge q))
    (λ (k : j < i). omega (arith, or_add_and digits e, and_le_r digits e, before j k)) (eq-or-lt_of_le (omega arith))

pub least-lowered : (mark : ℕ → ℕ) (e low : ℕ) → low ≡ least 1 mark e → mark e < low → mark e ≡ least 1 mark (e + 1)
least-lowered mark e low m h = omega (arith, least-one-more 1 mark e)

pub least_kept : (mark : ℕ → ℕ) (e low : ℕ) → low ≡ least 1 mark e → low ≤ mark e → low ≡ least 1 mark (e + 1)
least_kept mark e low m h = omega (arith, least-one-more 1 mark e)

-- ---- all entries

-- N entries that set all of the first N bytes pass the check where no edge is above the mask: each edge below N stands somewhere
pub entries-marked : (k mask N : ℕ) (edge : ℕ → ℕ) → mask + 1 ≡ 2 ^ k → ((i : ℕ) → i < N → edge i ≤ mask)
    → least 1 (at (marked_after mask edge N (none_marked (mask + 1)))) N ≡ 1 → entries_check N edge N ≡ done []
unfolding at
entries-marked k mask N edge power low all = entries-back N edge N (entries-onto N edge onto)
  where
    none : List ℕ
    none = none_marked (mask + 1)

    marks : ℕ → ℕ
    marks = at (marked_after mask edge N none)

    onto : (e : ℕ) → e < N → (i : ℕ) × (i < N) × (edge i ≡ e)
    onto e l =
        let (i, j, q) = marked-found mask edge N none e (marked-none _ e) (omega (arith, all, least-le 1 marks N e l)) in
        (i, j, sym (masked_low k mask (edge i) power (low i j)) ∙ q)
