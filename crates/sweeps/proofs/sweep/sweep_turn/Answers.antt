-- `sweeps::sweep_turn` meets its contract: the side is swept with a finder that finds its sheet's nearest words.
use Rattle.sweeps.proofs.Visiting.{ready-shared, ready-left-swept, ready-right-swept, ready-shared-swept}
use Rattle.sweeps.proofs.sweep.sweep_turn.Goals as goal

pub sweep_news-requires : goal.sweep_news-requires
sweep_news-requires c =
    let is = c.in-Left.is in
    record {
      finds = rw is c.requires.ready.left-finds;
      across = c.requires.across;
      hears = c.requires.hears;
    }

pub sweep_news-requires-then-right_finder-eq0 : goal.sweep_news-requires-then-right_finder-eq0
sweep_news-requires-then-right_finder-eq0 c =
    let is = c.in-Right.is in
    record {
      finds = rw is (ready-shared c.requires.ready c.if-right_finder-eq0.true);
      across = c.requires.across;
      hears = c.requires.hears;
    }

pub returns-then-right_finder-eq0 : goal.returns-then-right_finder-eq0
returns-then-right_finder-eq0 c =
    let is = c.in-Right.is in
    let swept = c.sweep_news-then-right_finder-eq0.ensures in
    record {
      news_swept = swept.news_swept;
      still_ready = ready-shared-swept c.requires.ready c.if-right_finder-eq0.true (rw is at swept.still_finds);
    }

pub sweep_news-requires-in-Right : goal.sweep_news-requires-in-Right
sweep_news-requires-in-Right c =
    let is = c.in-Right.is in
    record {
      finds = rw is (c.requires.ready.right-finds c.if-right_finder-eq0.false);
      across = c.requires.across;
      hears = c.requires.hears;
    }

pub returns-in-Left : goal.returns-in-Left
returns-in-Left c =
    let is = c.in-Left.is in
    let swept = c.sweep_news.ensures in
    record {
      news_swept = swept.news_swept;
      still_ready = ready-left-swept c.requires.ready (rw is at swept.still_finds);
    }

pub returns-else-right_finder-eq0 : goal.returns-else-right_finder-eq0
returns-else-right_finder-eq0 c =
    let is = c.in-Right.is in
    let swept = c.sweep_news-in-Right in record {
      news_swept = swept.ensures.news_swept;
      still_ready = ready-right-swept c.requires.ready swept.auto.finder c.if-right_finder-eq0.false (rw is at swept.ensures.still_finds);
    }
