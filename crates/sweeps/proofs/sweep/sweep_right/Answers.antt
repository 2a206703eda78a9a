-- `sweeps::sweep_right` meets its contract: the right side is swept with a finder that finds its sheet's nearest words.
use Rattle.sweeps.proofs.Visiting.{ready-shared, ready-right-swept, ready-shared-swept}
use Rattle.sweeps.proofs.sweep.sweep_right.Goals as goal

-- ---- the call, from where it is known whether there is a right finder

pub sweep_second-requires : goal.sweep_second-requires
sweep_second-requires c =
    record {
      finds = ready-shared c.requires.ready c.if-right_finder-eq0.true;
      listening = c.requires.listening;
    }

pub returns-then-right_finder-eq0 : goal.returns-then-right_finder-eq0
returns-then-right_finder-eq0 c =
    record {
      side_swept = c.sweep_second.ensures.side_swept;
      still_ready = ready-shared-swept c.requires.ready c.if-right_finder-eq0.true c.sweep_second.ensures.still_finds;
      listening_left = c.sweep_second.ensures.listening_left;
    }

pub sweep_second-requires-2 : goal.sweep_second-requires-2
sweep_second-requires-2 c =
    record {
      finds = c.requires.ready.right-finds c.if-right_finder-eq0.false;
      listening = c.requires.listening;
    }

pub returns : goal.returns
returns c =
    record {
      side_swept = c.sweep_second-2.ensures.side_swept;
      still_ready = ready-right-swept c.requires.ready c.sweep_second-2.auto.finder c.if-right_finder-eq0.false c.sweep_second-2.ensures.still_finds;
      listening_left = c.sweep_second-2.ensures.listening_left;
    }
