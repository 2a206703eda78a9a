-- A list whose beginning is written over.
--   written front l   the list l with `front` at its beginning (specs Bit)
--   sets l i vs       the list l with `vs` stored from index i on (lib.Seq)
-- Laws are named `written-` and the fact: -none is the list before a write, -one-more and _all are the turns of a copy, -part is what
-- is lent on, -over the whole when the part comes back, -again a second write, -more what is stored behind the front, -clear one more zero
-- element of a front of zeros, -with_bit one bit of the front that is written.
use Rattle.std.proofs.Common.{ℕ, suc, ◌+◌, ◌-◌, ◌*◌, ◌/◌, ◌%◌, ◌≤◌, ◌<◌, List, [], ◌++◌, ◌≡◌, refl, sym, ap, ap₂, ◌∙◌, add-one, arith}
use Rattle.std.proofs.Common.{length, get_or, set, take, drop, replicate, length-append, length-drop, length-take-le, take-suc, take_all, drop-cons, drop-drop}
use lib.ListN.{length-replicate, replicate-append-replicate, get_or-append}
use lib.Seq.{set_at, append_snoc, take-append_seam}
use lib.Seq.{drop-append_seam, sets, sets-eq, drop-append-add, set-append_left}
use Rattle.bits.specs.Bit.{put_digit, with_bit, written}
use Rattle.bits.proofs.Bytes.{length-with_bit}

pub written_none : (l : List ℕ) → written [] l ≡ l
unfolding written
written_none l = refl

pub length-written : (front l : List ℕ) → length front ≤ length l → length (written front l) ≡ length l
unfolding written
length-written front l h = simp (length-append, length-drop) (omega arith)

-- one more element of the front is copied
pub written-one-more : (front l : List ℕ) (i : ℕ) → i < length front → length front ≤ length l
    → set (written (take i front) l) i (get_or front i 0) ≡ written (take (i + 1) front) l
unfolding written
written-one-more front l i h room =
    let sized : length (take i front) ≡ i = length-take-le i front (omega arith) in
    let more : length (take (suc i) front) ≡ suc i = length-take-le (suc i) front h in
    rw (add-one, sized, more, take-suc front i 0 h, drop-cons l i 0 (omega arith))
    (set_at (take i front) _ _ _ i sized ∙ sym (append_snoc (take i front) _ _))

pub written_all : (front l : List ℕ) (i : ℕ) → i ≡ length front → written (take i front) l ≡ written front l
written_all front l i e = ap (λ (s : List ℕ). written s l) (take_all i front (omega arith))

-- ---- a copy that is lent on

pub written-part : (front l : List ℕ) (size : ℕ) → size ≡ length front → take size (written front l) ≡ front
unfolding written
written-part front l size e = rw e (take-append_seam front (drop (length front) l))

pub written_over : (front other l : List ℕ) (size : ℕ) → size ≡ length front → length other ≡ length front
    → other ++ drop size (written front l) ≡ written other l
unfolding written
written_over front other l size e same =
    ap (λ (r : List ℕ). other ++ r) (rw e (drop-append_seam front (drop (length front) l) ∙ ap (λ (m : ℕ). drop m l) (sym same)))

pub written-again : (front other l : List ℕ) → length other ≡ length front → written front (written other l) ≡ written front l
unfolding written
written-again front other l same =
    ap (λ (r : List ℕ). front ++ r) (rw (← same) (drop-append_seam other (drop (length other) l)))

-- what is stored behind the front joins it
pub written-more : (front piece l : List ℕ) → length front + length piece ≤ length l
    → sets (written front l) (length front) piece ≡ written (front ++ piece) l
unfolding written
written-more front piece l room =
    sets-eq piece (written front l) (length front) (omega (arith, length-written front l (omega arith)))
    ∙ rw (take-append_seam, drop-append-add, drop-drop, length-append)

-- ---- one more zero, one more bit

-- the list with m elements at the front written over by zeros
cleared : (l : List ℕ) (m : ℕ) → written (replicate m 0) l ≡ replicate m 0 ++ drop m l
unfolding written
cleared l m = ap (λ (k : ℕ). replicate m 0 ++ drop k l) (length-replicate m 0)

pub written-clear : (l : List ℕ) (m : ℕ) → m < length l → set (written (replicate m 0) l) m 0 ≡ written (replicate (m + 1) 0) l
written-clear l m h =
    ap (λ (r : List ℕ). set r m 0) (cleared l m ∙ ap (λ (r : List ℕ). replicate m 0 ++ r) (drop-cons l m 0 h))
    ∙ set_at (replicate m 0) (get_or l m 0) (drop (suc m) l) 0 m (length-replicate m 0)
    ∙ sym (append_snoc (replicate m 0) 0 (drop (suc m) l))
    ∙ ap₂ (λ (front : List ℕ) (k : ℕ). front ++ drop k l) (replicate-append-replicate m 1 0) (sym (add-one m))
    ∙ sym (cleared l (m + 1))

append-with_bit : (front rest : List ℕ) (i b : ℕ) → i < length front * 8 → with_bit (front ++ rest) i b ≡ with_bit front i b ++ rest
unfolding with_bit
append-with_bit front rest i b h =
    let inside : i / 8 < length front = omega arith in
    set-append_left front rest (i / 8) _ inside
    ∙ ap (λ (x : ℕ). set front (i / 8) (put_digit x (7 - i % 8) b) ++ rest) (get_or-append front rest 0 (i / 8) inside)

pub written-with_bit : (front l : List ℕ) (i b : ℕ) → i < length front * 8 → with_bit (written front l) i b ≡ written (with_bit front i b) l
unfolding written
written-with_bit front l i b h =
    append-with_bit front (drop (length front) l) i b h ∙ ap (λ (k : ℕ). with_bit front i b ++ drop k l) (sym (length-with_bit front i b))
