-- `messages::parity_of` meets its contract: after w turns `common` has as many ones, but for an even number, as the first w words of the set
-- and the column have in common.
use Rattle.std.proofs.Common.{◌≡◌, ℕ, ◌+◌, ◌*◌, ◌%◌, bit_and, get_or, sym, ap, ◌∙◌, arith}
use lib.Count.{ones}
use Rattle.bits.proofs.Xor.{ones-zero, parity-part, ones-xor-parity}
use Rattle.messages.proofs.LiveRows.{ones-both-none, ones-both-one-more, ones-both-parity}
use Rattle.messages.proofs.encoder.parity_of.Goals as goal

pub loop-w-init : goal.loop-w-init
loop-w-init c = ap (λ (x : ℕ). x % 2) (ones-zero ∙ sym (ones-both-none _ _ _))

pub loop-w-preserved : goal.loop-w-preserved
loop-w-preserved c =
    let args = c.args in
    let before = c.loop-w in
    let word : ℕ = bit_and (get_or args.chosen.now before.w 0) (get_or args.columns.now (8 * args.e + before.w) 0) in
    let more = ones-both-one-more args.chosen.now args.columns.now args.e before.w in
    ones-xor-parity before.common word ∙ parity-part (ones before.common) _ (ones word) before.invariant ∙ ap (λ (x : ℕ). x % 2) (sym more)

pub returns : goal.returns
returns c =
    let end : c.loop-w.w ≡ 8 = omega arith in
    let whole = rw end at c.loop-w.invariant in
    c.from.ensures ∙ whole ∙ ones-both-parity _ _ _ c.fits-chosen
