-- `decoder::check_call` meets its contract: each return is the outcome of the first test that refuses.
use Rattle.std.proofs.Common.{arith, ◌≡◌, sym, refl, []}
use Rattle.inner_code.specs.Reply.{done}
use Rattle.inner_code.proofs.Replies.{passed-on}
use Rattle.wiring.specs.Block.{block_check}
use Rattle.wiring.specs.Plan.{Plan, edge_count}
use Rattle.wiring.specs.PlanParts.{plan_in}
use Rattle.wiring.proofs.Blocks.{block-sized}
use Rattle.wiring.proofs.Plans.{plan-refused}
use Rattle.spans.specs.Spans.{spans_check}
use Rattle.decoder.proofs.Settling.{check-plan, check-block, check-spans, check-short, check-limit, check-passed}
use Rattle.decoder.proofs.decoding.check_call.Goals as goal
use Rattle.decoder.proofs.decoding.check_call.Goals.{In_ok-check_spans}

pub returns-in_err-checked : goal.returns-in_err-checked
returns-in_err-checked c =
    rw (passed-on _ _ c.from_residual.ensures.1)
    (record { answer = sym (check-plan _ _ _ _ _ (plan-refused _ _ c.check_plan.ensures _ c.in_err-checked.was)); parts = tt })

pub returns-in_err-check_block : goal.returns-in_err-check_block
returns-in_err-check_block c =
    let plan = plan_in c.in_ok-checked.checked.parts in
    rw (passed-on _ _ c.from_residual-in_err-check_block.ensures.1, ← c.in_ok-checked.ensures.parts) (record {
      answer = sym (check-block plan _ _ _ _ c.in_ok-checked.checked.passed (rw c.edges.ensures at (sym c.in_err-check_block.ensures)));
      parts = tt;
    })

pub returns-in_err-check_spans : goal.returns-in_err-check_spans
returns-in_err-check_spans c =
    let plan = plan_in c.in_ok-checked.checked.parts in
    rw (passed-on _ _ c.from_residual-in_err-check_spans.ensures.1, ← c.in_ok-checked.ensures.parts) (record {
      answer = sym (check-spans plan _ _ _ _ c.in_ok-checked.checked.passed (rw c.edges.ensures at (sym c.in_ok-check_block.ensures))
          (rw c.edges-2.ensures at (sym c.in_err-check_spans.ensures)));
      parts = tt;
    })

-- ---- the plan, the block and the list have passed

module _ (c : In_ok-check_spans) where
  abbrev plan : Plan
  plan = plan_in c.in_ok-checked.checked.parts

  block : block_check (edge_count plan) c.args.received.now ≡ done []
  block = rw c.edges.ensures at (sym c.in_ok-check_block.ensures)

  spans : spans_check (edge_count plan) c.args.lost.now ≡ done []
  spans = rw c.edges-2.ensures at (sym c.in_ok-check_spans.ensures)

pub returns-then-output-received : goal.returns-then-output-received
returns-then-output-received c =
    let at = (goal.at.returns-then-output-received c).In_ok-check_spans in
    rw (← c.in_ok-checked.ensures.parts) (record {
      answer = sym (check-short (plan at) c.args.received.now c.args.lost.now c.args.output.now c.args.limit c.in_ok-checked.checked.passed (block at) (spans at)
          (omega (arith, block-sized _ _ (block at))));
      parts = tt;
    })

pub returns-then-limit-gt-MAX_LIMIT : goal.returns-then-limit-gt-MAX_LIMIT
returns-then-limit-gt-MAX_LIMIT c =
    let at = (goal.at.returns-then-limit-gt-MAX_LIMIT c).In_ok-check_spans in
    rw (← c.in_ok-checked.ensures.parts) (record {
      answer = sym (check-limit (plan at) c.args.received.now c.args.lost.now c.args.output.now c.args.limit c.in_ok-checked.checked.passed (block at) (spans at)
          (omega (arith, block-sized _ _ (block at))) (omega arith));
      parts = tt;
    })

pub returns : goal.returns
returns c =
    let at = (goal.at.returns c).In_ok-check_spans in
    rw (← c.in_ok-checked.ensures.parts) (record {
      answer = sym (check-passed (plan at) c.args.received.now c.args.lost.now c.args.output.now c.args.limit c.in_ok-checked.checked.passed (block at) (spans at)
          (omega (arith, block-sized _ _ (block at))) (omega arith));
      parts = refl;
    })
