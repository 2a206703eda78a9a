-- `spans::make_bytes` meets its contract: after i - first turns the bits of the bytes from `first` to before i are made. A store is eight bits;
-- past the end nothing is stored, and no bit is made.
use Rattle.std.proofs.Common.{◌≡◌, sym, ◌-◌, ◌*◌, ◌%◌, ◌<◌, min, length, arith, rules}
use Rattle.spans.proofs.Filling.{made_none, bytes-stored, bytes-end}
use Rattle.spans.proofs.make_bytes.Goals as goal

pub loop-i-init : goal.loop-i-init
loop-i-init c =
    let none : 8 * (c.args.first - c.args.first) ≡ 0 = omega arith in
    (search rules, λ k. omega (arith, c.type_inv.block k), sym (rw none (made_none (c.args.value % 2) (8 * c.args.first) c.args.block.now)))

pub loop-i-preserved : goal.loop-i-preserved
loop-i-preserved c =
    let turn = c.loop-i in
    let inside : turn.i < min c.args.last (length c.args.block.now) = omega arith in (
      omega arith,
      turn.invariant.1,
      bytes-stored (c.args.value % 2) c.args.first turn.i c.args.block.now turn.block (omega arith) turn.invariant.2 (omega arith) (omega arith)
          turn.invariant.1,
    )

pub returns : goal.returns
returns c =
    let turn = c.loop-i in
    bytes-end (c.args.value % 2) c.args.first turn.i c.args.block.now turn.block (omega arith) turn.invariant.2 c.args.last turn.invariant.0
    (λ l. omega (arith, c.min-i-end.ensures))
