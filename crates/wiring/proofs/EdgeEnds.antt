-- The ends of all edges, noted entry by entry.
--   Notable ..                   what the notes need to know of a wiring and the lists (specs Ends)
--   Noted edge dl dr m lefts rights  the left vertex of the edge at each of the first m entries, and the right vertex of each of their edges
--                                (specs Ends)
--   Permuted N wiring            the entries of a wiring are the edges below N, each once (specs Checking)
--   Wired dl dr nl nr wiring     an accepted wiring (specs Checking)
--   Whole N side, vertex_of       a side whose entries are all bits (Permutation), and the vertex that has a bit (Edges)
-- Laws are named by their subject, then by the fact: `noted-` is about both lists of ends. `-none` and `-one-more` are the start of the loop and
-- one turn of it. wired-notable leads from an accepted wiring to the notes.
use Rattle.std.proofs.Common.{ℕ, ◌+◌, ◌*◌, ◌/◌, ◌≤◌, ◌<◌, List, ◌≡◌, sym, ap, ◌∙◌, div-lt_iff_lt-mul, arith, length, set}
use native.Mathlib.Decide.{ℕ_discrete}
use Rattle.bits.proofs.Lists.{at_set_same, at_set_other}
use Rattle.bits.specs.Window.{at}
use Rattle.wiring.specs.Plan.{Side, edge_of}
use Rattle.wiring.specs.Checking.{Permuted, Wired}
use Rattle.wiring.specs.Ends.{Notable, Noted}
use Rattle.wiring.proofs.Permutation.{Whole, wired-even, fitted-edges, place-lt, bit-place}
use Rattle.wiring.proofs.Edges.{vertex_of, vertex-of-lt}

-- ---- the lists of vertices

pub wired-notable : {dl dr nl nr : ℕ} {wiring lefts rights : List ℕ} → Wired dl dr nl nr wiring → nl * dl ≤ length lefts
    → nl * dl ≤ length rights → Notable (nl * dl) dl dr wiring lefts rights
wired-notable w fits fits-right =
    record {
      left-low = w.left-fits.d-low;
      right-low = w.right-fits.d-low;
      few = fitted-edges w.left-fits;
      sized = omega (arith, w.left-fits.sized);
      permuted = w.permuted;
      room = fits;
      room-right = fits-right;
    }

pub noted-none : (edge : ℕ → ℕ) (dl dr : ℕ) (lefts rights : List ℕ) → Noted edge dl dr 0 lefts rights
noted-none edge dl dr lefts rights = record { left_is = λ i l. absurd (omega arith); right_is = λ i l. absurd (omega arith) }

-- entry i is noted at places of its own: no entry before it is i, and none has its edge
pub noted-one-more : {N dl dr : ℕ} {wiring lefts rights : List ℕ} → Permuted N wiring → N ≤ length lefts → N ≤ length rights
    → (i edge : ℕ) → i < N → edge ≡ edge_of wiring i → Noted (edge_of wiring) dl dr i lefts rights
    → Noted (edge_of wiring) dl dr (i + 1) (set lefts i (edge / dl)) (set rights edge (i / dr))
noted-one-more {wiring = wiring} {lefts} {rights} p room room-right i edge below same r =
    record {
      left_is = λ j l. elim (ℕ_discrete j i) [
        | yes e ↦ rw (e, same) (at_set_same lefts i _ (omega arith))
        | no h ↦ at_set_other lefts i j _ h ∙ r.left_is j (omega arith)
      ];
      right_is = λ j l. elim (ℕ_discrete j i) [
        | yes e ↦ rw (e, same) (at_set_same rights (edge_of wiring i) _ (omega (arith, p.edge-lt i below)))
        | no h ↦
            at_set_other rights edge (edge_of wiring j) _ (λ e. h (p.edge-once j i (omega arith) below (e ∙ same)))
            ∙ r.right_is j (omega arith)
      ];
    }

-- every edge stands at an entry, so each has its right vertex
pub noted-right : {N dl : ℕ} {side : Side} {lefts rights : List ℕ} → Whole N side → Noted side.bit dl side.d N lefts rights
    → (e : ℕ) → e < N → at rights e ≡ vertex_of N side e
noted-right {rights = rights} w r e l = ap (at rights) (sym (bit-place w e l)) ∙ r.right_is _ (place-lt w e l)

-- the ends of the edges of an accepted wiring are vertices
pub noted-ends : {dl dr nl nr : ℕ} {wiring lefts rights : List ℕ} → Wired dl dr nl nr wiring
    → Noted (edge_of wiring) dl dr (nl * dl) lefts rights → (i : ℕ) → i < nl * dl → (at lefts i < nl) × (at rights i < nr)
noted-ends {dr = dr} {nr = nr} {wiring} w r i l =
    let p = w.permuted in
    let side : Side = record { n = nr; d = dr; k = 0; row = λ v. 0; bit = edge_of wiring } in
    let whole : Whole _ side =
    record { degree-pos = w.right-fits.d-low; entries = sym (wired-even w); bit-lt = p.edge-lt; bit-once = p.edge-once } in
    (rw (r.left_is i l) ((div-lt_iff_lt-mul w.left-fits.d-low).1 (p.edge-lt i l)), rw (noted-right whole r i l) (vertex-of-lt whole i l))
