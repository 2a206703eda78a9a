-- `spans::check_spans` meets its contract: after j turns the first j pairs have passed, and `before` is the end of the last of them. Each return is
-- the outcome of the first test that refuses.
use Rattle.std.proofs.Common.{ℕ, ◌+◌, ◌/◌, ◌≡◌, sym, ap, ◌∙◌, add-one, arith, length}
use Rattle.inner_code.specs.Reply.{refused}
use Rattle.spans.specs.Spans.{end_of, end_before, span_check, pairs_check, spans_check}
use Rattle.spans.proofs.Filling.{end_is}
use Rattle.spans.proofs.Checking.{before-zero, before-suc, span-empty, span-beyond, span-early, span-fine, pairs-zero, pairs-one-more}
use Rattle.spans.proofs.Checking.{spans-unsized, spans-refused, spans_all}
use Rattle.spans.proofs.check_spans.Goals as goal
use Rattle.spans.proofs.check_spans.Goals.{After-length_of-length}
use Rattle.spans.proofs.check_spans.Goals.{then-length-eq0-via-then-length-eq0, then-length-eq0-via-else-length-eq0+then-bits-end}

pub returns-then-lost-ne0 : goal.returns-then-lost-ne0
returns-then-lost-ne0 c = sym (spans-unsized _ _ c.if-lost-ne0.true)

pub loop-j-init : goal.loop-j-init
loop-j-init c =
    let args = c.args in
    (pairs-zero args.bits args.lost.now, sym (before-zero args.lost.now))

-- ---- the call from the loop's head on, and the loop's head from where a pair is read

ends : (c : After-length_of-length) → c.start_of-start.result + c.length_of-length.result ≡ end_of c.args.lost.now c.loop-j.j
ends c = omega (arith, c.start_of-start.ensures.0, c.length_of-length.ensures.0, end_is c.args.lost.now c.loop-j.j)

-- a pair that is refused is the first
stops : (c : After-length_of-length) (number : ℕ) → span_check c.args.bits c.args.lost.now c.loop-j.j ≡ refused number 0
    → spans_check c.args.bits c.args.lost.now ≡ refused number 0
stops c number e =
    spans-refused c.args.bits c.args.lost.now c.loop-j.j number 0 c.if-lost-ne0.false c.loop-j.invariant.0 e (omega arith)

pub returns-then-length-eq0 : goal.returns-then-length-eq0
returns-then-length-eq0 c =
    let read = (goal.at.returns-then-length-eq0 c).After-length_of-length in
    let args = c.args in
    sym (stops read 25
    (elim c.then-length-eq0.branch [
      | then-length-eq0-via-then-length-eq0 w ↦ span-empty args.bits args.lost.now c.loop-j.j (sym c.length_of-length.ensures.0 ∙ w.if-length-eq0.true)
      | then-length-eq0-via-else-length-eq0+then-bits-end w ↦ span-beyond args.bits args.lost.now c.loop-j.j (omega (arith, ends read))
    ]))

pub returns-then-start-before : goal.returns-then-start-before
returns-then-start-before c =
    let read = (goal.at.returns-then-start-before c).After-length_of-length in
    sym (stops read 26
    (span-early c.args.bits c.args.lost.now c.loop-j.j (λ q. c.if-length-eq0.false (c.length_of-length.ensures.0 ∙ q))
    (omega (arith, ends read)) (omega (arith, c.start_of-start.ensures.0, c.loop-j.invariant.1))))

pub loop-j-preserved : goal.loop-j-preserved
loop-j-preserved c =
    let read = (goal.at.loop-j-preserved c).After-length_of-length in
    let lost = c.args.lost.now in
    let turn = c.loop-j in
    let fine = span-fine c.args.bits lost turn.j (λ q. c.if-length-eq0.false (c.length_of-length.ensures.0 ∙ q))
    (omega (arith, ends read)) (omega (arith, c.start_of-start.ensures.0, turn.invariant.1)) in (
      pairs-one-more c.args.bits lost turn.j turn.invariant.0 fine,
      ends read ∙ sym (ap (end_before lost) (add-one turn.j) ∙ before-suc lost turn.j),
    )

pub returns : goal.returns
returns c =
    let args = c.args in
    let all : c.loop-j.j ≡ length args.lost.now / 4 = omega arith in
    sym (spans_all args.bits args.lost.now c.if-lost-ne0.false
    (ap (pairs_check args.bits args.lost.now) (sym all) ∙ c.loop-j.invariant.0))
