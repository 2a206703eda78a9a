-- Decoding: what sweeps make of a received block.
--   swept_block plan i block   the block after i sweeps
--   settled_after plan block i the block after i sweeps is a codeword
--   settles_at plan block H    the first count from 0 to H after which the block is a codeword; H + 1 where none is
--   sweep_sum plan block i     how many bits sweep i + 1 changes
--   sweep_sums plan block made  the sums of the first 64 sweeps, where so many sweeps are made: 0 for a sweep that is not made
--   visits_in plan block i     how many vertices sweep i + 1 visits: in the first two sweeps the whole side, from the third on the vertices with a bit
--                             that the sweep before changed
--   visits_made plan block made  how many are visited where so many sweeps are made
--   Trial                     what a trial ends in: whether the block settles, at which count, the block at that count, the sums of its sweeps, and the
--                             vertices that they visit
--   trial plan block H        the trial of a block with limit H: an unsettled one has made H sweeps
--   keeps_ones N lost received zeros ones  of the trials with the lost bits 0 and 1, the second is kept: it settles, and where the first does too,
--                             it changes fewer of the received bits outside the spans
--   decoding plan received lost H  what a decoding ends in: both trials are made, and one is kept; unsettled, it leaves the block as received
use Rattle.std.specs.Prelude.{ℕ, ◌+◌, ◌-◌, min, List, Bool, not, cond, ◌&&◌, ◌||◌, leb, ltb}
use Rattle.bits.specs.Bit.{values, flips}
use Rattle.bits.specs.Sum.{sum, flag}
use Rattle.bits.specs.Search.{first_failing}
use Rattle.wiring.specs.Plan.{Plan, Side, side_of, edge_count}
use Rattle.wiring.specs.Block.{heard, is_codeword_block}
use Rattle.spans.specs.Spans.{flips_outside, filled}
use Rattle.sweeps.specs.Sweep.{turn, after_sweeps}

abbrev pub swept_block : Plan → ℕ → List ℕ → List ℕ
swept_block plan i block = after_sweeps (side_of plan) i block

abbrev pub settled_after : Plan → List ℕ → ℕ → Bool
settled_after plan block i = is_codeword_block (side_of plan) (swept_block plan i block)

unfoldable pub settles_at : Plan → List ℕ → ℕ → ℕ
unfolding first_failing is_codeword_block after_sweeps
settles_at plan block H = first_failing (H + 1) (λ i. not (settled_after plan block i))

unfoldable pub sweep_sum : Plan → List ℕ → ℕ → ℕ
unfolding flips after_sweeps
sweep_sum plan block i = flips (edge_count plan) (swept_block plan i block) (swept_block plan (i + 1) block)

unfoldable pub sweep_sums : Plan → List ℕ → ℕ → List ℕ
unfolding values sweep_sum
sweep_sums plan block made = values 64 (λ i. cond (ltb i made) (sweep_sum plan block i) 0)

unfoldable pub visits_in : Plan → List ℕ → ℕ → ℕ
unfolding sum flag heard turn after_sweeps
visits_in plan block i =
    let side : Side = side_of plan (turn i) in
    cond (ltb i 2) side.n (sum side.n (λ v. flag (heard side (swept_block plan (i - 1) block) (swept_block plan i block) v)))

unfoldable pub visits_made : Plan → List ℕ → ℕ → ℕ
unfolding sum visits_in
visits_made plan block made = sum made (visits_in plan block)

pub record Trial : Type 0 where
  pub settled : Bool
  pub count : ℕ
  pub block : List ℕ
  pub sums : List ℕ
  pub visits : ℕ

unfoldable pub trial : Plan → List ℕ → ℕ → Trial
unfolding settles_at after_sweeps sweep_sums visits_made
trial plan block H =
    let at : ℕ = settles_at plan block H in
    let made : ℕ = min at H in
    record { settled = leb at H; count = at; block = swept_block plan at block; sums = sweep_sums plan block made; visits = visits_made plan block made }

unfoldable pub keeps_ones : ℕ → List ℕ → List ℕ → Trial → Trial → Bool
unfolding flips_outside
keeps_ones N lost received zeros ones =
    ones.settled
    && (not zeros.settled || ltb (flips_outside N lost received ones.block) (flips_outside N lost received zeros.block))

unfoldable pub decoding : Plan → List ℕ → List ℕ → ℕ → Trial
unfolding trial filled keeps_ones
decoding plan received lost H =
    let zeros : Trial = trial plan (filled 0 lost received) H in
    let ones : Trial = trial plan (filled 1 lost received) H in
    let kept : Trial = cond (keeps_ones (edge_count plan) lost received zeros ones) ones zeros in
    record { settled = kept.settled; count = kept.count; block = cond kept.settled kept.block received; sums = kept.sums; visits = kept.visits }
