-- `inner_code::double` meets its contract: after m turns the words 0 to m - 1 stand again, with the row on them, from `count` on.
use Rattle.std.proofs.Common.{◌≡◌, refl, sym, ap, ◌∙◌, ℕ, ◌+◌, arith, List, get_or, set, length-set, bit_xor}
use Rattle.inner_code.specs.Reduction.{doubled}
use Rattle.inner_code.proofs.Listings.{doubled-one-more}
use Rattle.inner_code.proofs.codewords.double.Goals as goal

pub returns-then-words-count : goal.returns-then-words-count
returns-then-words-count c = record { room = λ h. absurd (omega arith); short = λ h. refl }

pub loop-m-init : goal.loop-m-init
unfolding doubled
loop-m-init c = (refl, refl)

pub loop-m-preserved : goal.loop-m-preserved
loop-m-preserved c =
    let before = c.loop-m in
    let args = c.args in (
      length-set before.words (args.count + before.m) _ ∙ before.invariant.0,
      ap (λ (l : List ℕ). set l (args.count + before.m) (bit_xor (get_or l before.m 0) args.row)) before.invariant.1
          ∙ sym (doubled-one-more args.count args.row before.m args.words.now),
    )

pub returns : goal.returns
returns c =
    let args = c.args in
    let end : c.loop-m.m ≡ args.count = omega arith in
    record {
      room = λ h. c.loop-m.invariant.1 ∙ ap (λ (m : ℕ). doubled args.count args.row m args.words.now) end;
      short = λ h. absurd (omega arith);
    }
