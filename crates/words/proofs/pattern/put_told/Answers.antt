-- `words::put_told` meets its contract: each arm puts the pattern on a vertex of its side.
use Rattle.words.proofs.pattern.put_told.Goals as goal

pub put_left-requires : goal.put_left-requires
put_left-requires c =
    let is = c.in-Left.is in
    record {
      v_lt_nl = rw is at c.requires.v_bound;
      pattern_bound = rw is at c.requires.pattern_bound;
      places_noted = c.requires.across.noted is;
      words_read = c.requires.words_read;
    }

pub put_right-requires : goal.put_right-requires
put_right-requires c =
    let is = c.in-Right.is in
    record {
      v_lt_nr = rw is at c.requires.v_bound;
      pattern_bound = rw is at c.requires.pattern_bound;
      words_read = c.requires.words_read;
    }

pub returns-in-Left : goal.returns-in-Left
returns-in-Left c = rw c.in-Left.is c.put_left.ensures

pub returns-in-Right : goal.returns-in-Right
returns-in-Right c = rw c.in-Right.is c.put_right.ensures
