-- `sweeps::visit` meets its contract: a codeword stays, and any other word takes the one that the finder finds.
use Rattle.finder.specs.Finding.{Found}
use Rattle.finder.proofs.Finding.{member-means}
use Rattle.wiring.specs.Plan.{sheet_of}
use Rattle.wiring.specs.PlanParts.{plan_in}
use Rattle.wiring.proofs.Sides.{sheet-for}
use Rattle.sweeps.proofs.Rounds.{visit-codeword, visit-low, visit-put, nearest-asked}
use Rattle.sweeps.proofs.sweep.visit.Goals as goal
use Rattle.sweeps.proofs.sweep.visit.Goals.{After-nearest_on-step}

-- the step is one by the side's sheet
found : (c : After-nearest_on-step)
    → Found (sheet_of (plan_in c.args.plan.now.parts) c.args.vertex.side) c.word_of-word.result c.nearest_on-step.result
    c.nearest_on-step.new.finder
found c = rw (sheet-for (plan_in c.args.plan.now.parts) c.args.vertex.side) at c.nearest_on-step.ensures

pub is_codeword-requires : goal.is_codeword-requires
is_codeword-requires c = c.requires.finds.sized

pub returns-then-is_codeword : goal.returns-then-is_codeword
returns-then-is_codeword c =
    let p = c.args.plan.now in
    record {
      visited_at = visit-codeword (plan_in p.parts) p.passed c.args.vertex.side c.requires.finds _ _ c.requires.v_bound c.word_of-word.ensures
          (member-means _ _ c.is_codeword.ensures) c.if-is_codeword.true c.requires.words_read;
      still_finds = c.requires.finds;
    }

pub nearest_on-step-requires : goal.nearest_on-step-requires
nearest_on-step-requires c =
    let (finds, low) = nearest-asked (plan_in c.args.plan.now.parts) c.args.vertex.side c.requires.finds _ _ c.word_of-word.ensures in
    record { finds = finds; word_bound = low }

pub put_told-requires : goal.put_told-requires
put_told-requires c =
    let p = c.args.plan.now in
    record {
      v_bound = c.requires.v_bound;
      pattern_bound = visit-low (plan_in p.parts) p.passed c.args.vertex.side c.requires.finds _ c.args.kept.now c.requires.v_bound
          c.word_of-word.ensures (found (goal.at.put_told-requires c).After-nearest_on-step);
      across = c.requires.across;
      words_read = c.requires.words_read;
    }

pub returns : goal.returns
returns c =
    let p = c.args.plan.now in
    let step = found (goal.at.returns c).After-nearest_on-step in
    record {
      visited_at = visit-put (plan_in p.parts) p.passed c.args.vertex.side c.requires.finds _ _ c.requires.v_bound c.word_of-word.ensures step
          c.put_told.ensures;
      still_finds = step.finds;
    }
