-- `words::clear_marks` meets its contract: the numbers behind the words are 0.
use Rattle.std.proofs.Common.{◌≡◌, ◌∙◌, ◌≤◌, ◌<◌, ◌+◌, ℕ, List, length, replicate, get_or, arith, rules}
use Rattle.std.proofs.lemmas.List.{places}
use Rattle.std.proofs.lemmas.Grind.{common_steps}
use borrow.Rule.Slice.PartMut.{put_mid, mid_of}
use Rattle.bits.specs.Window.{at}
use Rattle.bits.proofs.Lists.{zeros-at}
use Rattle.words.proofs.news.clear_marks.Goals as goal

-- what is filled up to the end
filled_length : (a k : ℕ) (kept part : List ℕ) → a + k ≡ length kept → length part ≡ length (mid_of a k kept) → length (put_mid a k kept part) ≡ length kept
filled_length a k kept part all same = grind (arith, common_steps)

filled_at : (a k i : ℕ) (kept part : List ℕ) → a + k ≡ length kept → part ≡ replicate (length (mid_of a k kept)) 0 → a ≤ i → i < a + k
    → get_or (put_mid a k kept part) i 0 ≡ 0
filled_at a k i kept part all zeros past below = rw zeros (search (rules, places, zeros-at))

pub returns : goal.returns
unfolding at
returns c =
    record {
      sized = filled_length 2048 256 c.args.kept.now c.fill.new.self (omega arith) c.fill.ensures.len ∙ c.requires;
      each = λ i past below. filled_at 2048 256 i c.args.kept.now c.fill.new.self (omega arith) (c.fill.ensures.after (λ y same. same)) past below;
    }
