-- `unsatisfied::turn_counted` meets its contract: all but the two vertices that read the bit read the same word before and after.
use Rattle.std.proofs.Common.{◌≡◌, refl, ap, ◌∙◌, length}
use Rattle.bits.proofs.Turning.{length-turned}
use Rattle.unsatisfied.proofs.BitChange.{degree-left, degree-right, left-readable, right-readable, change-turned}
use Rattle.unsatisfied.proofs.set.turn_counted.Goals as goal
use Rattle.unsatisfied.proofs.set.turn_counted.Goals.{After-turn_bit}

pub nonzero_div-u : goal.nonzero_div-u
nonzero_div-u c = degree-left c.args.plan c.requires

same-sized : (c : After-turn_bit) → length c.turn_bit.new.bytes ≡ length c.args.block.now
same-sized c = ap length c.turn_bit.ensures ∙ length-turned _ _ _

pub nonzero_div-v : goal.nonzero_div-v
nonzero_div-v c = degree-right c.args.plan c.requires

pub missed_at-left_before-requires : goal.missed_at-left_before-requires
missed_at-left_before-requires c = left-readable c.args.plan c.requires _ refl

pub missed_at-right_before-requires : goal.missed_at-right_before-requires
missed_at-right_before-requires c =
    right-readable c.args.plan c.requires c.entry_with.ensures _ refl

pub missed_at-left_after-requires : goal.missed_at-left_after-requires
missed_at-left_after-requires c =
    left-readable c.args.plan c.requires _ (same-sized (goal.at.missed_at-left_after-requires c).After-turn_bit)

pub missed_at-right_after-requires : goal.missed_at-right_after-requires
missed_at-right_after-requires c =
    right-readable c.args.plan c.requires c.entry_with.ensures _ (same-sized (goal.at.missed_at-right_after-requires c).After-turn_bit)

pub returns : goal.returns
returns c =
    record {
      value = change-turned c.args.plan c.requires c.turn_bit.ensures c.entry_with.ensures
          c.missed_at-left_before.ensures.0 c.missed_at-right_before.ensures.0 c.missed_at-left_after.ensures.0 c.missed_at-right_after.ensures.0
          c.missed_at-left_before.ensures.1 c.missed_at-right_before.ensures.1;
      block_after = c.turn_bit.ensures;
    }
