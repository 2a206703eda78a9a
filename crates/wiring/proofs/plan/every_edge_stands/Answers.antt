-- `wiring::every_edge_stands` meets its contract: after i turns of the first loop no edge of the first i entries is above `digits` and `marks`
-- has a 1 for each of them; after e turns of the second `least` is the least of the first e marks.
use Rattle.std.proofs.Common.{arith, ◌≡◌, refl, sym, ap, ◌∙◌, ◌+◌, ℕ, List, ◌-◌, min, eqb-true, pow_pos, not-suc-le-zero, length-set}
use Rattle.bits.proofs.Searches.{least-one-more}
use lib.Bits.{and_le_r}
use Rattle.bits.specs.Window.{at}
use Rattle.bits.specs.Search as Search
use Rattle.wiring.specs.Plan.{edge_of}
use Rattle.wiring.specs.Access.{none_marked, marked_after}
use Rattle.wiring.proofs.EdgeMarks.{marked-none-length, entries-marked, marked-one-more, digits-one-more}
use Rattle.wiring.proofs.plan.every_edge_stands.Goals as goal

pub overflow_sub-mask : goal.overflow_sub-mask
overflow_sub-mask g c = let (k, power) = c.requires.is_power in omega (arith, pow_pos k)

pub loop-i-init : goal.loop-i-init
unfolding marked_after none_marked
loop-i-init g c = record { sized = marked-none-length _; below = λ j l. absurd (not-suc-le-zero l); marked = refl }

pub bounds-marks-edge : goal.bounds-marks-edge
bounds-marks-edge g c =
    let (k, power) = c.requires.is_power in
    omega (arith, c.loop-i.invariant.sized, pow_pos k, and_le_r c.edge_at-edge.result (g.row.N - 1))

pub loop-i-preserved : goal.loop-i-preserved
loop-i-preserved g c =
    let turn = c.loop-i in
    let args = c.args in
    let edge = edge_of args.wiring.now in
    let is = c.edge_at-edge.ensures in record {
      sized = simp length-set turn.invariant.sized;
      below = digits-one-more edge turn.i _ turn.digits turn.invariant.below is;
      marked = marked-one-more (g.row.N - 1) edge turn.i _ turn.marks _ turn.invariant.marked is;
    }

pub loop-e-init : goal.loop-e-init
unfolding Search.least
loop-e-init g c = refl

pub bounds-marks-e : goal.bounds-marks-e
bounds-marks-e g c = omega (arith, c.requires.edges_bound)

pub loop-e-preserved : goal.loop-e-preserved
unfolding at
loop-e-preserved g c =
    c.min-least.ensures ∙ ap (λ (x : ℕ). min x (at c.loop-i.marks c.loop-e.e)) c.loop-e.invariant
    ∙ sym (least-one-more 1 (at c.loop-i.marks) c.loop-e.e)

pub returns : goal.returns
returns g c all =
    let last = c.loop-e in
    let end = c.loop-i in
    let args = c.args in
    let N = args.edges in
    let mask = g.row.N - 1 in
    let edge = edge_of args.wiring.now in
    let (k, power) = c.requires.is_power in
    let size : mask + 1 ≡ g.row.N = omega (arith, pow_pos k) in
    let after : ℕ → List ℕ = λ m. marked_after mask edge m (none_marked (mask + 1)) in
    let whole : end.i ≡ N = omega arith in
    let marks : end.marks ≡ after N = end.invariant.marked ∙ ap (λ (n : ℕ). marked_after mask edge end.i (none_marked n)) (sym size) ∙ ap after whole in
    let every : last.e ≡ N = omega arith in
    let low : last.least ≡ Search.least 1 (at end.marks) N = last.invariant ∙ ap (Search.least 1 (at end.marks)) every in
    entries-marked k mask N edge (size ∙ power) (λ i l. omega (arith, end.invariant.below i (rw whole l)))
    (ap (λ (l : List ℕ). Search.least 1 (at l) N) (sym marks) ∙ sym low ∙ eqb-true last.least 1 all)
