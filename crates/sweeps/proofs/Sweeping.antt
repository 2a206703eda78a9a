-- Sweeps: what a visit of vertices in turn does to a block, what a sweep leaves, and what many sweeps in turn leave.
--   visited map side m block     the block after vertices 0 .. m - 1 of a side are visited in turn (specs Sweep)
--   nearest_of side w             the nearest word of w by the side's inner code (specs Sweeping)
--   sweep side block             the block after every vertex of a side is visited (specs Sweep)
--   changed_by side m block       how many bits the vertices 0 .. m - 1 of a side change (specs Sweeping)
--   turn i                       the side of sweep i + 1: left first, then in turn (specs Sweep)
--   after_sweeps sides i block    the block after i sweeps (specs Sweep)
--   vertex_word side block v      the word that vertex v reads (wiring specs Block)
--   is_codeword_block sides block  every vertex, left and right, reads an inner codeword (wiring specs Block)
--   Whole N side                 the entries of a side are the bits 0 .. N - 1, each once (wiring Permutation)
--   Mends side                   what sweeps need to know of a side's nearest word
-- Laws are named by their subject, then by the fact: `visited-` is about the first m vertices of a side and holds for any map, `sweep-`
-- is about a whole sweep, `after-` about i sweeps in turn. At the end of a name, `-one-more` is one more step, `-other` a bit that no
-- visited vertex has, `-word` and `-later` the words of visited vertices and of those still to come, `-block` the check of 11 and 12,
-- `-bytes` that bytes stay below 256, `-skip` and `-fixed` a map that leaves words as they are, `-again` a side swept twice, `-stays`, `-still`
-- and `-ended` a block that does not change any more, `-satisfied` vertices that read codewords, `-tied` those that wait for their neighbours.
use Rattle.std.proofs.Common.{ℕ, zero, suc, ◌+◌, ◌*◌, ◌^◌, ◌≤◌, ◌<◌, true, false, List, [], ⊎_elim, ◌≡◌, refl, ap, ◌∙◌, le_refl}
use Rattle.std.proofs.Common.{lt-suc_self, not-suc-le-zero, eq-or-lt_of_le, le_of_suc-le-suc, add-zero, add-suc, add-one, arith, bit_xor}
use Rattle.std.proofs.Common.{eqb, length, get_or, eq-eqb}
use mathlib.Core.Bool.{and-true}
use mathlib.Core.Logic.{◌≢◌}
use native.Mathlib.Nat.{le_step}
use lib.Arith.{digits_lt}
use lib.Count.{ones}
use Rattle.wiring.proofs.Blocks.{block_room}
use Rattle.bits.specs.Bit.{bit_at, flips}
use Rattle.bits.proofs.Sums.{sum-ext}
use Rattle.bits.proofs.Searches.{first-all}
use Rattle.inner_code.specs.Reply.{done}
use Rattle.inner_code.specs.Code.{is_codeword}
use Rattle.inner_code.proofs.NearestWord.{nearest-codeword, nearest-lt, nearest-fixed, nearest-again, nearest-tied, tied-open, changed-ones}
use Rattle.inner_code.proofs.SheetChecks.{Sound}
use Rattle.wiring.specs.Plan.{Plan, Side, sheet_of, side_of, other}
use Rattle.wiring.specs.Block.{vertex_word, with_word, satisfied, first_unsatisfied, is_codeword_block, block_check}
use Rattle.wiring.specs.declared.side.SideName.{SideName}
use Rattle.wiring.proofs.Permutation.{Whole}
use Rattle.wiring.proofs.Blocks.{block-sized, block-clear, block_back}
use Rattle.wiring.proofs.VertexWords.{vertex-lt, length-scattered, scattered-bytes, scattered-other, with_word-same, with_word-fixed, with_word-other}
use Rattle.wiring.proofs.VertexWords.{flips-words}
use Rattle.wiring.proofs.CodewordBlocks.{codeword-block-each}
use Rattle.sweeps.specs.Sweeping.{nearest_of, tied_at, changed_by}
use Rattle.sweeps.specs.Sweep.{visited, sweep, turn, after_sweeps}

-- ---- vertices visited in turn

module _ (map : ℕ → ℕ) (side : Side) where
  pub visited-one-more : (v : ℕ) (block : List ℕ)
      → visited map side (v + 1) block ≡ with_word side v (map (vertex_word side (visited map side v block) v)) (visited map side v block)
  unfolding visited
  visited-one-more v block = rw add-one

  -- a vertex whose word the map leaves as it is changes nothing
  pub visited-skip : (v : ℕ) (block : List ℕ)
      → map (vertex_word side (visited map side v block) v) ≡ vertex_word side (visited map side v block) v
      → visited map side (v + 1) block ≡ visited map side v block
  visited-skip v block e = visited-one-more v block ∙ rw e (with_word-fixed side (visited map side v block) v)

  pub length-visited : (m : ℕ) (block : List ℕ) → length (visited map side m block) ≡ length block
  unfolding visited
  length-visited zero block = refl
  length-visited (suc m) block = length-scattered side.bit side.d (m * side.d) _ side.d _ ∙ length-visited m block

  visited-bytes : (m : ℕ) (block : List ℕ) → ((k : ℕ) → get_or block k 0 < 256) → (k : ℕ) → get_or (visited map side m block) k 0 < 256
  unfolding visited
  visited-bytes zero block small = small
  visited-bytes (suc m) block small = scattered-bytes side.bit side.d (m * side.d) _ side.d _ (visited-bytes m block small)

  visited-other : (m : ℕ) (block : List ℕ) (e : ℕ) → ((i : ℕ) → i < m * side.d → side.bit i ≢ e)
      → bit_at (visited map side m block) e ≡ bit_at block e
  unfolding visited
  visited-other zero block e none = refl
  visited-other (suc m) block e none =
      scattered-other side.bit side.d (m * side.d) _ side.d _ e (λ j l. none (m * side.d + j) (digits_lt (lt-suc_self m) l))
      ∙ visited-other m block e (λ i l. none i (omega arith))

  visited-fixed : (m : ℕ) (block : List ℕ) → ((v : ℕ) → v < m → map (vertex_word side block v) ≡ vertex_word side block v)
      → visited map side m block ≡ block
  unfolding visited
  visited-fixed zero block same = refl
  visited-fixed (suc m) block same =
      rw (visited-fixed m block (λ v l. same v (le_step l)), same m (lt-suc_self m)) (with_word-fixed side block m)

  module _ {N : ℕ} (whole : Whole N side) where
    -- a vertex still to come reads what it read at first
    pub visited-later : (m : ℕ) (block : List ℕ) (v : ℕ) → m ≤ v → v < side.n
        → vertex_word side (visited map side m block) v ≡ vertex_word side block v
    unfolding visited
    visited-later zero block v l h = refl
    visited-later (suc m) block v l h =
        with_word-other whole _ _ v m h (omega arith) (omega arith) ∙ visited-later m block v (omega arith) h

    visited-word : ((w : ℕ) → w < 2 ^ side.d → map w < 2 ^ side.d) → (m : ℕ) (block : List ℕ) → N ≤ length block * 8
        → m ≤ side.n → (v : ℕ) → v < m → vertex_word side (visited map side m block) v ≡ map (vertex_word side block v)
    unfolding visited
    visited-word map-lt zero block room h v l = absurd (not-suc-le-zero l)
    visited-word map-lt (suc m) block room h v l =
        let before : List ℕ = visited map side m block in
        ⊎_elim
        (λ (e : v ≡ m).
        rw e (with_word-same whole _ before m (map-lt _ (vertex-lt side before m)) (rw length-visited room) h
        ∙ ap map (visited-later m block m (le_refl m) h)))
        (λ (k : v < m). with_word-other whole _ before v m (omega arith) h (omega arith) ∙ visited-word map-lt m block room (omega arith) v k)
        (eq-or-lt_of_le (le_of_suc-le-suc l))

-- ---- the nearest word of a side

pub record Mends (side : Side) : Type 0 where
  pub map-lt : (w : ℕ) → w < 2 ^ side.d → nearest_of side w < 2 ^ side.d
  pub map-fixed : (w : ℕ) → is_codeword side.row side.k w ≡ true → nearest_of side w ≡ w
  pub map-again : (w : ℕ) → w < 2 ^ side.d → nearest_of side (nearest_of side w) ≡ nearest_of side w
  pub map-codeword : (w : ℕ) → w < 2 ^ side.d → tied_at side w ≡ false → is_codeword side.row side.k (nearest_of side w) ≡ true
  pub tied-stays : (w : ℕ) → tied_at side w ≡ true → nearest_of side w ≡ w
  pub tied-missed : (w : ℕ) → tied_at side w ≡ true → is_codeword side.row side.k w ≡ false

pub sheet-mends : (plan : Plan) → ((name : SideName) → Sound (sheet_of plan name)) → (name : SideName) → Mends (side_of plan name)
sheet-mends plan sound name =
    let s = sound name in
    record {
      map-lt = nearest-lt _ _ _ s.degree-high s.rows-lt;
      map-fixed = nearest-fixed _ _ _ s.degree-high s.rows-lt;
      map-again = nearest-again _ _ _ s.degree-high s.rows-lt;
      map-codeword = nearest-codeword _ _ _ s.degree-high s.rows-lt;
      tied-stays = nearest-tied _ _ _ s.degree-high s.rows-lt;
      tied-missed = tied-open _ _ _ s.degree-high s.rows-lt;
    }

-- ---- one sweep

-- a side whose words are their own nearest ones is swept into itself
pub sweep-fixed : (side : Side) (block : List ℕ) → ((v : ℕ) → v < side.n → nearest_of side (vertex_word side block v) ≡ vertex_word side block v)
    → sweep side block ≡ block
unfolding sweep
sweep-fixed side = visited-fixed (nearest_of side) side side.n

pub length-sweep : (side : Side) (block : List ℕ) → length (sweep side block) ≡ length block
unfolding sweep
length-sweep side = length-visited (nearest_of side) side side.n

sweep-bytes : (side : Side) (block : List ℕ) → ((k : ℕ) → get_or block k 0 < 256) → (k : ℕ) → get_or (sweep side block) k 0 < 256
unfolding sweep
sweep-bytes side = visited-bytes (nearest_of side) side side.n

module _ {N : ℕ} {side : Side} (whole : Whole N side) (block : List ℕ) (pass : block_check N block ≡ done []) where
  -- after a sweep every vertex of the side reads the nearest word of what it read before
  pub sweep-word : Mends side → (v : ℕ) → v < side.n → vertex_word side (sweep side block) v ≡ nearest_of side (vertex_word side block v)
  unfolding sweep
  sweep-word mends = visited-word (nearest_of side) side whole mends.map-lt side.n block room (le_refl side.n)
    where
      room : N ≤ length block * 8
      room = block_room N block pass

  pub sweep-block : block_check N (sweep side block) ≡ done []
  unfolding sweep
  sweep-block =
      block_back N _ (length-visited (nearest_of side) side side.n block ∙ block-sized N block pass)
      (λ i h. visited-other (nearest_of side) side side.n block i
      (λ j l e. omega (arith, whole.bit-lt j (rw whole.entries at l))) ∙ block-clear N block pass i h)

  -- the ones of the patterns that a side's vertices put on their words add up to the bits that the sweep changes
  pub sweep-flips : Mends side → flips N block (sweep side block) ≡ changed_by side side.n block
  unfolding changed_by
  sweep-flips mends =
      flips-words whole block (sweep side block)
      ∙ sum-ext side.n _ _ (λ v l.
      ap (λ (x : ℕ). ones (bit_xor (vertex_word side block v) x)) (sweep-word mends v l)
      ∙ changed-ones side.row side.k side.d (vertex_word side block v))

  -- after a sweep every vertex of the side reads its own nearest word
  pub sweep-stays : Mends side → (v : ℕ) → v < side.n
      → nearest_of side (vertex_word side (sweep side block) v) ≡ vertex_word side (sweep side block) v
  sweep-stays mends v l = rw (sweep-word mends v l) (mends.map-again _ (vertex-lt side block v))

  -- so that a side that is swept again stays
  pub sweep-again : Mends side → sweep side (sweep side block) ≡ sweep side block
  sweep-again mends = sweep-fixed side (sweep side block) (sweep-stays mends)

  -- without ties it is satisfied
  pub sweep-satisfied : Mends side → ((v : ℕ) → v < side.n → tied_at side (vertex_word side block v) ≡ false)
      → first_unsatisfied side (sweep side block) ≡ side.n
  unfolding first_unsatisfied satisfied
  sweep-satisfied mends none =
      first-all side.n _ (λ v l. rw (sweep-word mends v l) (mends.map-codeword _ (vertex-lt side block v) (none v l)))

  -- a tie is left as it is
  pub sweep-tied : Mends side → (v : ℕ) → v < side.n → tied_at side (vertex_word side block v) ≡ true → satisfied side (sweep side block) v ≡ false
  unfolding satisfied
  sweep-tied mends v l e = rw (sweep-word mends v l, mends.tied-stays _ e) (mends.tied-missed _ e)

-- ---- many sweeps

module _ (sides : SideName → Side) where
  pub after-zero : (block : List ℕ) → after_sweeps sides 0 block ≡ block
  unfolding after_sweeps
  after-zero block = refl

  pub after-one-more : (i : ℕ) (block : List ℕ) → after_sweeps sides (i + 1) block ≡ sweep (sides (turn i)) (after_sweeps sides i block)
  unfolding after_sweeps
  after-one-more i block = rw add-one

  pub length-after : (i : ℕ) (block : List ℕ) → length (after_sweeps sides i block) ≡ length block
  unfolding after_sweeps
  length-after zero block = refl
  length-after (suc i) block = length-sweep (sides (turn i)) _ ∙ length-after i block

  pub after-bytes : (i : ℕ) (block : List ℕ) → ((k : ℕ) → get_or block k 0 < 256) → (k : ℕ) → get_or (after_sweeps sides i block) k 0 < 256
  unfolding after_sweeps
  after-bytes zero block small = small
  after-bytes (suc i) block small = sweep-bytes (sides (turn i)) _ (after-bytes i block small)

  -- a codeword block is swept into itself
  pub sweep-codeword : (name : SideName) → Mends (sides name) → (block : List ℕ) → is_codeword_block sides block ≡ true
      → sweep (sides name) block ≡ block
  unfolding satisfied
  sweep-codeword name mends block e =
      sweep-fixed (sides name) block (λ v l. mends.map-fixed _ (codeword-block-each sides block e name v l))

  pub after-stays : ((name : SideName) → Mends (sides name)) → (i j : ℕ) (block : List ℕ) → is_codeword_block sides (after_sweeps sides i block) ≡ true
      → after_sweeps sides (i + j) block ≡ after_sweeps sides i block
  unfolding after_sweeps
  after-stays mends i zero block e = rw add-zero
  after-stays mends i (suc j) block e = rw (add-suc, after-stays mends i j block e) (sweep-codeword (turn (i + j)) (mends (turn (i + j))) _ e)

  -- a block that a sweep of either side leaves as it is stays
  pub after-still : (i j : ℕ) (block : List ℕ) → ((name : SideName) → sweep (sides name) (after_sweeps sides i block) ≡ after_sweeps sides i block)
      → after_sweeps sides (i + j) block ≡ after_sweeps sides i block
  unfolding after_sweeps
  after-still i zero block same = rw add-zero
  after-still i (suc j) block same = rw (add-suc, after-still i j block same) (same (turn (i + j)))

  -- where one side is satisfied, the other decides
  pub other-side : (block : List ℕ) (name : SideName) → first_unsatisfied (sides name) block ≡ (sides name).n
      → is_codeword_block sides block ≡ eqb (first_unsatisfied (sides (other name)) block) (sides (other name)).n
  unfolding is_codeword_block other
  other-side block SideName.Left e = rw (eq-eqb _ _ e)
  other-side block SideName.Right e = rw (eq-eqb (first_unsatisfied (sides SideName.Right) block) _ e) (and-true _)

  module _ {N : ℕ} (whole : (name : SideName) → Whole N (sides name)) where
    pub after_block : (i : ℕ) (block : List ℕ) → block_check N block ≡ done [] → block_check N (after_sweeps sides i block) ≡ done []
    unfolding after_sweeps
    after_block zero block pass = pass
    after_block (suc i) block pass = sweep-block (whole (turn i)) _ (after_block i block pass)

    -- from the second sweep on, a sweep that leaves the block as it is is followed by none that does not
    pub after-ended : ((name : SideName) → Mends (sides name)) → (i : ℕ) (block : List ℕ) → 1 ≤ i → block_check N block ≡ done []
        → sweep (sides (turn i)) (after_sweeps sides i block) ≡ after_sweeps sides i block
        → (j : ℕ) → after_sweeps sides (i + j) block ≡ after_sweeps sides i block
    unfolding after_sweeps turn
    after-ended mends zero block h pass same j = absurd (not-suc-le-zero h)
    after-ended mends (suc i) block h pass same j =
        after-still (suc i) j block
        (either (turn i) (sweep-again (whole (turn i)) _ (after_block i block pass) (mends (turn i))) same)
      where
        -- both sides, from one and the other
        either : (name : SideName) → sweep (sides name) (after_sweeps sides (suc i) block) ≡ after_sweeps sides (suc i) block
            → sweep (sides (other name)) (after_sweeps sides (suc i) block) ≡ after_sweeps sides (suc i) block
            → (side : SideName) → sweep (sides side) (after_sweeps sides (suc i) block) ≡ after_sweeps sides (suc i) block
        either SideName.Left here there SideName.Left = here
        either SideName.Left here there SideName.Right = there
        either SideName.Right here there SideName.Left = there
        either SideName.Right here there SideName.Right = here
