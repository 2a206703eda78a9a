-- `decoder::decode_on` meets its contract: a plan has no more edges than there is room for.
use Rattle.std.proofs.Common.{arith}
use Rattle.wiring.specs.Plan.{left}
use Rattle.wiring.proofs.Plans.{plan-fits, plan-few}
use Rattle.decoder.proofs.decoding.decode_on.Goals as goal

pub decode_with-requires-clause-plan_in_bounds : goal.decode_with-requires-clause-plan_in_bounds
decode_with-requires-clause-plan_in_bounds c = omega (arith, (plan-fits _ c.args.plan.now.passed left).sized)

pub decode_with-requires-2-clause-plan_in_bounds : goal.decode_with-requires-2-clause-plan_in_bounds
decode_with-requires-2-clause-plan_in_bounds c = omega (arith, plan-few _ c.args.plan.now.passed)
