-- `messages::used_digits` meets its contract: after i turns `used` has the digits of the first i residues.
use Rattle.std.proofs.Common.{◌≡◌, arith}
use Rattle.messages.proofs.Solving.{uses-zero, uses-one-more}
use Rattle.messages.proofs.solver.used_digits.Goals as goal

pub loop-i-init : goal.loop-i-init
loop-i-init c = uses-zero _

pub loop-i-preserved : goal.loop-i-preserved
loop-i-preserved c = uses-one-more _ _ _ c.loop-i.invariant

pub returns : goal.returns
returns c =
    let end : c.loop-i.i ≡ c.args.d = omega arith in
    rw end at c.loop-i.invariant
