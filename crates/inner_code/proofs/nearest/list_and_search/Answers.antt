-- `inner_code::list_and_search` meets its contract: the listed words are the codewords.
use Rattle.std.proofs.Common.{arith, ap, ◌∙◌, ℕ, ◌^◌, ◌≤◌, min, length, replicate}
use lib.ListN.{length-replicate}
use Rattle.inner_code.specs.Sheet.{row_of}
use Rattle.inner_code.specs.Reduction.{step_to}
use Rattle.inner_code.proofs.Listings.{lists-fits, front-searched}
use Rattle.inner_code.proofs.nearest.list_and_search.Goals as goal

-- an array of N zeros has room
room : (k N : ℕ) → 2 ^ min k 11 ≤ N → 2 ^ min k 11 ≤ length (replicate {A = ℕ} N 0)
room k N l = rw (length-replicate {A = ℕ} N 0) l

pub shared_whole_as_front-nearest_listed : goal.shared_whole_as_front-nearest_listed
shared_whole_as_front-nearest_listed g c =
    omega (arith, lists-fits _ _ c.list_codewords-count.ensures (room c.args.k g.row.N c.requires.room))

pub returns : goal.returns
returns g c =
    c.nearest_listed.ensures
    ∙ ap (step_to c.args.word) (front-searched (row_of c.args.sheet.now) c.args.k c.list_codewords-count.ensures (room c.args.k g.row.N c.requires.room) c.args.word)
