-- `decoder::decode_checked` meets its contract: a block that is a codeword at sight is copied; for any other block each finder is prepared for
-- its side's sheet, and one for both where the sheets are the same.
use Rattle.std.proofs.Common.{refl, arith, rules}
use Rattle.wiring.specs.Plan.{left, right}
use Rattle.wiring.specs.PlanParts.{plan_in}
use Rattle.sweeps.proofs.Visiting.{side-preparable}
use Rattle.decoder.proofs.Trials.{check-means, copy-codeword}
use Rattle.decoder.proofs.decoding.decode_checked.Goals as goal

pub is_codeword_at_sight-requires : goal.is_codeword_at_sight-requires
is_codeword_at_sight-requires c = (check-means _ _ _ _ _ c.requires).block-done

pub copy_front-requires : goal.copy_front-requires
copy_front-requires c = (check-means _ _ _ _ _ c.requires).fits

pub returns-then-is_codeword_at_sight : goal.returns-then-is_codeword_at_sight
returns-then-is_codeword_at_sight c =
    copy-codeword _ _ _ _ _ c.requires (search rules) (c.is_codeword_at_sight.ensures c.if-is_codeword_at_sight.true) c.copy_front.ensures

pub prepare_finder-requires : goal.prepare_finder-requires
prepare_finder-requires c = side-preparable (plan_in c.args.plan.parts) c.args.plan.passed left c.args.plan.left_is refl

pub decode_trials-requires : goal.decode_trials-requires
decode_trials-requires c =
    record {
      ready = record {
        plan-done = c.args.plan.passed;
        left-finds = c.prepare_finder.ensures;
        right-finds = λ some. absurd (some refl);
        shared = λ _. c.same.ensures.when_true c.if-same.true;
      };
      limit_value = c.requires;
    }

pub prepare_finder-requires-2 : goal.prepare_finder-requires-2
prepare_finder-requires-2 c = side-preparable (plan_in c.args.plan.parts) c.args.plan.passed right c.args.plan.right_is refl

pub decode_trials-requires-2 : goal.decode_trials-requires-2
decode_trials-requires-2 c =
    let finds = c.prepare_finder-2.ensures in record {
      ready = record {
        plan-done = c.args.plan.passed;
        left-finds = c.prepare_finder.ensures;
        right-finds = λ _. finds;
        shared = λ none. absurd (omega (arith, finds.sized));
      };
      limit_value = c.requires;
    }
