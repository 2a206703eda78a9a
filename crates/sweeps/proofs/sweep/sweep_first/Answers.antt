-- `sweeps::sweep_first` meets its contract: after v vertices the block is the one with the first v visited, `changed` counts the bits that
-- changed and `ties` the vertices that wait. A codeword stays, and of any other word the step tells how many bits it changes.
use Rattle.std.proofs.Common.{◌≡◌, ◌<◌, le_of_lt, arith, eqb}
use Rattle.inner_code.specs.Sheet.{degree}
use Rattle.finder.specs.Finding.{Found}
use Rattle.finder.proofs.Finding.{member-means}
use Rattle.bits.specs.Window.{word_at}
use Rattle.wiring.specs.Block.{vertex_word}
use Rattle.wiring.specs.Plan.{side_bit, side_by, left}
use Rattle.wiring.proofs.Permutation.{fitted-vertex}
use Rattle.sweeps.specs.Sweeping.{SideReady}
use Rattle.sweeps.proofs.Visiting.{visits-none, visits-le, visits-few, visits-changed, visits-kept, visits-sweep}
use Rattle.sweeps.proofs.Visiting.{word_lt, word-stays, word-untied, word-found, word-counted, word-waits, word-put, tie-le}
use Rattle.sweeps.proofs.Visiting.{pattern_lt, ready-sheet, ready-whole, ready-vertex}
use Rattle.sweeps.proofs.sweep.sweep_first.Goals as goal
use Rattle.sweeps.proofs.sweep.sweep_first.Goals.{After-left_word-word, then-not-is_codeword, else-not-is_codeword}

-- ---- the call and the loop's head

below : (c : After-left_word-word) → c.loop-v.v < c.args.n
below c = omega arith

-- the word read is the vertex's
read_is : (c : After-left_word-word)
    → c.left_word-word.result ≡ vertex_word (side_by c.args.sheet.now c.args.n c.args.wiring.now left) c.loop-v.block c.loop-v.v
unfolding degree vertex_word word_at side_bit
read_is c = c.left_word-word.ensures

ready : (c : After-left_word-word) → SideReady c.args.sheet.now c.args.n c.args.wiring.now c.loop-v.finder
ready c = c.loop-v.invariant.1

pub bounds-sheet-0 : goal.bounds-sheet-0
bounds-sheet-0 c = ready-sheet c.requires

pub loop-v-init : goal.loop-v-init
loop-v-init c = (visits-none, c.requires)

pub left_word-word-requires : goal.left_word-word-requires
unfolding degree
left_word-word-requires c =
    let fits = c.loop-v.invariant.1.fits in
    record {
      v_bound = omega (arith, fits.n-high);
      d_bound = fits.d-high;
    }

pub is_codeword-requires : goal.is_codeword-requires
is_codeword-requires c = c.loop-v.invariant.1.finds.sized

-- ---- a word that is mended

pub find_nearest-step-requires : goal.find_nearest-step-requires
find_nearest-step-requires c =
    let here = (goal.at.find_nearest-step-requires c).After-left_word-word in
    record {
      finds = (ready here).finds;
      word_bound = word_lt (ready here) left c.loop-v.block (below here) (read_is here);
    }

pub overflow_mul-v : goal.overflow_mul-v
unfolding degree
overflow_mul-v c =
    let here = (goal.at.overflow_mul-v c).After-left_word-word in
    omega (arith, ready-vertex (ready here) (below here))

pub put_pattern-requires : goal.put_pattern-requires
unfolding degree
put_pattern-requires c =
    let here = (goal.at.put_pattern-requires c).After-left_word-word in
    record {
      d_bound = (ready here).fits.d-high;
      pattern_bound = pattern_lt (ready here) left c.loop-v.block (below here) (read_is here) c.find_nearest-step.ensures;
      d_in_bounds = fitted-vertex (ready here).fits _ (below here);
    }

pub overflow_add-changed : goal.overflow_add-changed
overflow_add-changed c =
    let here = (goal.at.overflow_add-changed c).After-left_word-word in
    omega (arith, visits-le (ready here) left (le_of_lt (below here)) c.loop-v.invariant.0)

pub overflow_add-ties : goal.overflow_add-ties
overflow_add-ties c =
    omega (
      arith,
      visits-few c.loop-v.invariant.0,
      c.loop-v.invariant.1.fits.n-high,
      tie-le (eqb c.find_nearest-step.result.changed 0) c.tie-ties.ensures,
    )

-- ---- one more vertex

pub loop-v-preserved : goal.loop-v-preserved
unfolding degree
loop-v-preserved c =
    let here = (goal.at.loop-v-preserved c).After-left_word-word in
    let block = c.loop-v.block in
    let so_far = c.loop-v.invariant.0 in
    let whole = ready-whole (ready here) left in
    let member = member-means _ _ c.is_codeword.ensures in
    elim c.if-not-is_codeword.branch [
      | then-not-is_codeword w ↦
          let found : Found c.args.sheet.now c.left_word-word.result w.find_nearest-step.result w.find_nearest-step.new.finder = w.find_nearest-step.ensures in
          rw (w.changed-is, w.ties-is, w.block-is, w.finder-is) (
            visits-changed whole (below here) so_far (word-found (ready here) left block (below here) (read_is here) found)
                (word-counted (ready here) left block (below here) (read_is here) found)
                (word-waits (ready here) left block (below here) (read_is here) member found w.if-not-is_codeword.true w.tie-ties.ensures)
                (word-put (ready here) left block (below here) (read_is here) w.find_nearest-step.result.word w.put_pattern.ensures),
            record { fits = (ready here).fits; permuted = (ready here).permuted; finds = found.finds },
          )
      | else-not-is_codeword w ↦
          rw (w.changed-is, w.ties-is, w.block-is, w.finder-is) (
            visits-kept whole (below here) so_far (word-stays (ready here) left block (below here) (read_is here) member w.if-not-is_codeword.false)
                (word-untied (ready here) left block (below here) (read_is here) member w.if-not-is_codeword.false),
            ready here,
          )
    ]

pub returns : goal.returns
returns c =
    let turn = c.loop-v in
    record {
      side_swept = visits-sweep turn.invariant.0 (omega arith);
      finds = turn.invariant.1.finds;
    }
