-- How the code sweeps and counts what a sweep changes: none of this is needed to believe a contract of a service.
--   nearest_of side w            the nearest word of w by the side's inner code
--   changed_at side w            how many bits the nearest word of w changes
--   changed_by side m block      how many bits the vertices 0 .. m - 1 of a side change, each by the nearest word of what it reads
--   tied_at side w               w is a tie of the side's inner code: more than one pattern has the fewest ones
--   ties_by side m block         how many of the vertices 0 .. m - 1 of a side read such a word
--   SideReady sheet n wiring finder  a side of this sheet and n vertices fits the wiring, whose entries are its edges, and the finder finds
--                               the sheet's nearest words
--   Ready plan left_finder right_finder  the plan is accepted, and each finder finds its side's nearest words; a right finder of no numbers
--                               stands for the left one, and both sides have one sheet
--   SideSwept side before tally after  one sweep as the code makes it: its tally - how many bits it changed, how many ties it left - and the block
--                               that it leaves
--   VisitedAt plan name v changed block kept after told  vertex v of a side is visited: it takes its nearest word, which changes so many bits, and the
--                               list is kept up
--   Hears plan name block kept  a side is to be swept, and every vertex that has no news reads its own nearest word, since it was visited before
--   NewsSwept plan name before kept news after told  a sweep of the vertices with news as the code makes it: it is the whole sweep, and it tells the
--                               vertices that had news
--   BothSwept plan before here there after kept  a left sweep and the right one after it as the code makes them: their tallies, the block that is left,
--                               and the news of the second
use Rattle.std.specs.Prelude.{ℕ, ◌*◌, ◌<◌, List, [], Bool, cond, ◌≡◌, length}
use Rattle.bits.specs.Sum.{sum}
use Rattle.inner_code.specs.Reply.{done}
use Rattle.inner_code.specs.Code.{tied, nearest_word, bits_changed}
use Rattle.inner_code.specs.Sheet.{degree}
use Rattle.finder.specs.Finding.{Finds}
use Rattle.wiring.specs.Plan.{Plan, Side, count_of, side_of, left, right, other}
use Rattle.wiring.specs.Wiring.{plan_check}
use Rattle.wiring.specs.Block.{vertex_word, with_word}
use Rattle.wiring.specs.Checking.{Fitted, Permuted}
use Rattle.wiring.specs.declared.side.SideName.{SideName}
use Rattle.words.specs.Marks.{news_of, mark_at, KeptUp, Listening}
use Rattle.sweeps.specs.Sweep.{sweep}
use Rattle.sweeps.specs.declared.sweep.News.{News}
use Rattle.sweeps.specs.declared.sweep.Tally.{Tally}

abbrev pub nearest_of : Side → ℕ → ℕ
nearest_of side w = nearest_word side.row side.k side.d w

abbrev pub changed_at : Side → ℕ → ℕ
changed_at side w = bits_changed side.row side.k side.d w

abbrev pub tied_at : Side → ℕ → Bool
tied_at side w = tied side.row side.k side.d w

unfoldable pub changed_by : Side → ℕ → List ℕ → ℕ
unfolding sum vertex_word
changed_by side m block = sum m (λ v. changed_at side (vertex_word side block v))

unfoldable pub ties_by : Side → ℕ → List ℕ → ℕ
unfolding sum vertex_word tied
ties_by side m block = sum m (λ v. cond (tied_at side (vertex_word side block v)) 1 0)

pub record SideReady (sheet : List ℕ) (n : ℕ) (wiring finder : List ℕ) : Type 0 where
  pub fits : Fitted (degree sheet) n wiring
  pub permuted : Permuted (n * degree sheet) wiring
  pub finds : Finds sheet finder

pub record Ready (plan : Plan) (left_finder right_finder : List ℕ) : Type 0 where
  pub plan-done : plan_check plan ≡ done []
  pub left-finds : Finds plan.left_sheet left_finder
  pub right-finds : (length right_finder ≡ 0 → ⊥) → Finds plan.right_sheet right_finder
  pub shared : length right_finder ≡ 0 → plan.left_sheet ≡ plan.right_sheet

pub record SideSwept (side : Side) (before : List ℕ) (tally : Tally) (after : List ℕ) : Type 0 where
  pub counted : tally.changed ≡ changed_by side side.n before
  pub waiting : tally.ties ≡ ties_by side side.n before
  pub leaves : after ≡ sweep side before

pub record VisitedAt (plan : Plan) (name : SideName) (v changed : ℕ) (block kept after told : List ℕ) : Type 0 where
  pub counted : changed ≡ changed_at (side_of plan name) (vertex_word (side_of plan name) block v)
  pub leaves : after ≡ with_word (side_of plan name) v (nearest_of (side_of plan name) (vertex_word (side_of plan name) block v)) block
  pub keeps : KeptUp plan name v block kept after told

pub record Hears (plan : Plan) (name : SideName) (block kept : List ℕ) : Type 0 where
  pub since : List ℕ
  pub listening : Listening plan name since block kept
  pub stays : (v : ℕ) → v < count_of plan name
      → nearest_of (side_of plan name) (vertex_word (side_of plan name) since v) ≡ vertex_word (side_of plan name) since v

pub record NewsSwept (plan : Plan) (name : SideName) (before kept : List ℕ) (news : News) (after told : List ℕ) : Type 0 where
  pub swept : SideSwept (side_of plan name) before (record { changed = news.changed; ties = ties_by (side_of plan name) (count_of plan name) before }) after
  pub visited : news.visits ≡ sum (count_of plan name) (λ v. mark_at kept (news_of name) v)
  pub listening : Listening plan (other name) before after told

pub record BothSwept (plan : Plan) (before : List ℕ) (here there : Tally) (after kept : List ℕ) : Type 0 where
  pub between : List ℕ
  pub left-swept : SideSwept (side_of plan left) before here between
  pub right-swept : SideSwept (side_of plan right) between there after
  pub listening : Listening plan left between after kept
