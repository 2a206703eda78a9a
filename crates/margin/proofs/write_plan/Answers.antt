-- `margin::write_plan` meets what each function that writes numbers requires: each F of the loop is covered, for it is below the first that is
-- not, and the last line has that number.
use Rattle.std.proofs.Common.{arith, ◌≡◌, ◌∙◌}
use Rattle.margin.proofs.Outputs.{numbers-within, line-covered, line-sweeps, last-is}
use Rattle.margin.proofs.write_plan.Goals as goal

pub first_uncovered-beyond-requires : goal.first_uncovered-beyond-requires
first_uncovered-beyond-requires g c = numbers-within _ _ c.requires

pub sweeps_named-sweeps-requires : goal.sweeps_named-sweeps-requires
sweeps_named-sweeps-requires g c = numbers-within _ _ c.requires

pub write_line-requires : goal.write_line-requires
write_line-requires g c =
    let sweeps = line-sweeps _ _ c.requires _ _ c.sweeps_named-sweeps.ensures in
    (sweeps, rw sweeps (line-covered _ _ (omega (arith, last-is _ _ c.requires _ c.first_uncovered-beyond.ensures))))

pub write_beyond-requires : goal.write_beyond-requires
write_beyond-requires g c =
    let all : c.loop-flips.lines ≡ c.first_uncovered-beyond.result = omega (arith, c.loop-flips.invariant) in
    all ∙ last-is _ _ c.requires _ c.first_uncovered-beyond.ensures
