-- `messages::eliminate` meets its contract: after m turns the first m checks of the side are done.
use Rattle.std.proofs.Common.{◌≡◌, ◌<◌, div-add-mod', arith}
use Rattle.bits.specs.Bit.{digit}
use Rattle.wiring.specs.Plan.{edge_count}
use Rattle.wiring.specs.PlanParts.{plan_in}
use Rattle.wiring.specs.Checking.{Fitted}
use Rattle.messages.proofs.Pivots.{check-digit-lt}
use Rattle.messages.proofs.Solving.{side-fits, side-within, eliminated-none, eliminated-one-more, eliminated-unused}
use Rattle.messages.proofs.solver.eliminate.Goals as goal
use Rattle.messages.proofs.solver.eliminate.Goals.{After-side-code, else-used-digit-eq1, then-used-digit-eq1}

-- the side fits the plan's wiring
fits : (c : After-side-code) → Fitted c.side-code.result.d c.side-code.result.n c.args.plan.parts.wiring.now
fits c = side-fits c.args.plan c.args.side _ c.side-code.ensures

pub unit_residues-residues-requires : goal.unit_residues-residues-requires
unit_residues-residues-requires c = (fits (goal.at.unit_residues-residues-requires c).After-side-code).d-high

pub used_digits-used-requires : goal.used_digits-used-requires
used_digits-used-requires c = (fits (goal.at.used_digits-used-requires c).After-side-code).d-high

pub loop-m-init : goal.loop-m-init
loop-m-init c = eliminated-none _ _ _

pub nonzero_rem-digit : goal.nonzero_rem-digit
nonzero_rem-digit c = (fits (goal.at.nonzero_rem-digit c).After-side-code).d-low

pub nonzero_div-check : goal.nonzero_div-check
nonzero_div-check c = (fits (goal.at.nonzero_div-check c).After-side-code).d-low

pub overflow_cast-digit : goal.overflow_cast-digit
overflow_cast-digit c = omega (arith, check-digit-lt (fits (goal.at.overflow_cast-digit c).After-side-code) c.loop-m.m)

pub overflow_shr-used : goal.overflow_shr-used
overflow_shr-used c = check-digit-lt (fits (goal.at.overflow_shr-used c).After-side-code) c.loop-m.m

pub overflow_mul-check : goal.overflow_mul-check
overflow_mul-check c = omega (arith, div-add-mod' c.loop-m.m c.side-code.result.d)

pub put_check-requires-clause-within : goal.put_check-requires-clause-within
put_check-requires-clause-within c =
    let low : c.loop-m.m < edge_count (plan_in c.args.plan.parts) = omega arith in
    side-within c.args.plan c.args.side _ c.side-code.ensures _ c.loop-m.m low c.requires

pub loop-m-preserved : goal.loop-m-preserved
unfolding digit
loop-m-preserved c =
    let before = c.loop-m in
    let low : before.m < edge_count (plan_in c.args.plan.parts) = omega arith in
    let units = c.unit_residues-residues.ensures in
    (elim c.if-used-digit-eq1.branch [
      | then-used-digit-eq1 w ↦
          let made = rw c.edges-edges.ensures at w.put_check.ensures in
          rw w.columns-is (eliminated-one-more c.args.plan c.args.side _ c.side-code.ensures _ before.m low units _ _ before.invariant _ made)
      | else-used-digit-eq1 w ↦
          let uses = c.used_digits-used.ensures in
          rw w.columns-is
          (eliminated-unused c.args.plan c.args.side _ c.side-code.ensures _ before.m low c.requires units _ uses w.if-used-digit-eq1.false _ _
          before.invariant)
    ])

pub returns : goal.returns
returns c =
    let end : c.loop-m.m ≡ edge_count (plan_in c.args.plan.parts) = omega arith in
    rw end at c.loop-m.invariant
