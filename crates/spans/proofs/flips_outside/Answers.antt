-- `spans::flips_outside` meets its contract: after j turns the gaps before the first j pairs are counted, and `reach` is the farthest end of
-- these pairs. The count is at most that end, so no sum wraps.
use Rattle.std.proofs.Common.{rules, ℕ, ◌+◌, ◌/◌, ◌≡◌, sym, ap, ap₂, ◌∙◌, arith, length}
use Rattle.spans.specs.Spans.{end_of}
use Rattle.spans.specs.Walking.{flips_between, flips_in_gaps}
use Rattle.spans.proofs.Filling.{end_is}
use Rattle.spans.proofs.Gaps.{between_le, reach-zero, reach-more, gaps-zero, gaps-one-more, gaps-le, around-is}
use Rattle.spans.proofs.flips_outside.Goals as goal
use Rattle.spans.proofs.flips_outside.Goals.{After-flips_between-count}

pub loop-j-init : goal.loop-j-init
loop-j-init c =
    let args = c.args in
    (sym (reach-zero args.lost.now), search rules, sym (gaps-zero args.lost.now args.a.now args.b.now))

-- the count with one more gap
counted : (c : After-flips_between-count)
    → let args = c.args in
    c.loop-j.count + c.flips_between-count.result ≡ flips_in_gaps args.lost.now args.a.now args.b.now (c.loop-j.j + 1)
counted c =
    let args = c.args in
    let lost = args.lost.now in
    ap₂ ◌+◌ c.loop-j.invariant.2
    (c.flips_between-count.ensures
    ∙ ap₂ (flips_between args.a.now args.b.now) c.loop-j.invariant.0 c.start_of-start.ensures.0)
    ∙ sym (gaps-one-more lost args.a.now args.b.now c.loop-j.j)

pub overflow_add-count : goal.overflow_add-count
overflow_add-count c =
    let args = c.args in
    let turn = c.loop-j in
    omega (
      arith,
      gaps-le args.lost.now args.a.now args.b.now turn.j,
      c.flips_between-count.ensures,
      between_le args.a.now args.b.now turn.reach c.start_of-start.result,
    )

pub loop-j-preserved : goal.loop-j-preserved
loop-j-preserved c =
    let turn = c.loop-j in
    let lost = c.args.lost.now in
    let begins = c.start_of-start.ensures in
    let size = c.length_of.ensures in
    let end : c.start_of-start.result + c.length_of.result ≡ end_of lost turn.j =
    omega (arith, begins.0, size.0, end_is lost turn.j) in (
      c.max-reach.ensures ∙ reach-more lost turn.j turn.reach _ turn.invariant.0 end,
      omega (arith, c.max-reach.ensures, begins.1, size.1, turn.invariant.1),
      counted (goal.at.loop-j-preserved c).After-flips_between-count,
    )

pub overflow_add-result : goal.overflow_add-result
overflow_add-result c =
    let args = c.args in
    let turn = c.loop-j in
    omega (
      arith,
      gaps-le args.lost.now args.a.now args.b.now turn.j,
      c.flips_between.ensures,
      between_le args.a.now args.b.now turn.reach args.bits,
    )

pub returns : goal.returns
returns c =
    let args = c.args in
    let turn = c.loop-j in
    let all : turn.j ≡ length args.lost.now / 4 = omega arith in
    ap₂ ◌+◌ turn.invariant.2 (c.flips_between.ensures ∙ ap (λ (r : ℕ). flips_between args.a.now args.b.now r args.bits) turn.invariant.0)
    ∙ around-is args.bits args.lost.now args.a.now args.b.now turn.j all
