-- Sweeps restore a codeword block from a block that differs from it in few bits.
--   differs_at a b i               bit i of two blocks differs (report specs Report)
--   flips N a b                   the number of bits 0 .. N - 1 in which two blocks differ (bits specs Bit)
--   wrong_at side wrong v          how many bits of vertex v are wrong (Convergence)
--   sweep, after_sweeps            the block after a sweep, and after i sweeps (sweeps specs Sweep)
--   sweeps_named m F               the sweeps named for F flips, 0 where F is not covered (specs Margin)
--   Mending N sides D F wrong     what is known of sweeps that mend (Convergence)
--   Nears side D                  what is needed of a side's nearest word: a word that differs from a codeword in fewer than D/2 digits
--                                 is mended to it
-- Laws are named by their subject, then by the fact: `flips-` is about the bits of two blocks, `sweep-` about one sweep, `after-` about
-- many. The theorem is after-restores.
use Rattle.std.proofs.Common.{ℕ, ◌+◌, ◌*◌, ◌^◌, ◌≤◌, ◌<◌, true, false, List, [], ◌≡◌, sym, ◌∙◌, bit_xor}
use mathlib.Core.Logic.{◌≢◌}
use lib.Count.{ones}
use Rattle.bits.specs.Bit.{flips}
use Rattle.bits.proofs.Flips.{flips-comm}
use Rattle.bits.proofs.Sums.{sum-ext}
use Rattle.inner_code.specs.Reply.{done}
use Rattle.inner_code.specs.Code.{is_codeword}
use Rattle.wiring.specs.Plan.{Side, left}
use Rattle.wiring.specs.Block.{vertex_word, satisfied, block_check, is_codeword_block, Block}
use Rattle.wiring.specs.declared.side.SideName.{SideName}
use Rattle.wiring.proofs.Permutation.{Joined}
use Rattle.wiring.proofs.Blocks.{block-ext}
use Rattle.wiring.proofs.VertexWords.{vertex-lt, vertex-bits, vertex-differing}
use Rattle.wiring.proofs.CodewordBlocks.{codeword-block-each}
use Rattle.sweeps.specs.Sweeping.{nearest_of}
use Rattle.sweeps.specs.Sweep.{sweep, turn, after_sweeps}
use Rattle.sweeps.proofs.Sweeping.{Mends, sweep-word, after_block, after-bytes}
use Rattle.report.specs.Report.{differs_at}
use Rattle.report.proofs.Runs.{differs-flag, differs-agree, differs_none, flips-differ}
use Rattle.radius.specs.Margin.{sweeps_named}
use Rattle.radius.proofs.Convergence.{measures_on, wrong_at, Mending, converges}

-- ---- two blocks, bit by bit

module _ (a b : List ℕ) where
  -- the words that a vertex reads differ in as many digits as its bits
  flips-vertex : (side : Side) (v : ℕ) → ones (bit_xor (vertex_word side a v) (vertex_word side b v)) ≡ wrong_at side (differs_at a b) v
  unfolding wrong_at
  flips-vertex side v = vertex-differing side a b v ∙ sum-ext side.d _ _ (λ j l. sym (differs-flag a b (side.bit (v * side.d + j))))

-- ---- sweeps

pub record Nears (side : Side) (D : ℕ) : Type 0 where
  pub mends : Mends side
  pub near : (x c : ℕ) → x < 2 ^ side.d → is_codeword side.row side.k c ≡ true → 2 * ones (bit_xor x c) < D → nearest_of side x ≡ c

module _ {N : ℕ} {sides : SideName → Side} (g : Joined N sides) (D : SideName → ℕ) (nears : (name : SideName) → Nears (sides name) (D name))
    (c : List ℕ) (code : is_codeword_block sides c ≡ true) where
  -- a vertex with fewer than D/2 wrong bits comes right
  sweep-mends : (block : List ℕ) → block_check N block ≡ done [] → (name : SideName) (v : ℕ) → v < (sides name).n
      → 2 * wrong_at (sides name) (differs_at block c) v < D name
      → (j : ℕ) → j < (sides name).d → differs_at (sweep (sides name) block) c ((sides name).bit (v * (sides name).d + j)) ≡ false
  unfolding satisfied
  sweep-mends block pass name v l few j h =
      let side : Side = sides name in
      let after : List ℕ = sweep side block in
      let word-c = codeword-block-each sides c code name v l in
      let near = (nears name).near _ _ (vertex-lt side block v) word-c (rw (flips-vertex block c side v) few) in
      differs-agree after c _ (vertex-bits side after c v (sweep-word (g.whole name) block pass (nears name).mends v l ∙ near) j h)

  -- what is known of the sweeps of a received block: the wrong bits are those in which it differs from the codeword block
  pub after-mending : 0 < D left → (received : List ℕ) → block_check N received ≡ done [] → (F : ℕ) → flips N c received ≤ F
      → Mending N sides D F (λ i. differs_at (after_sweeps sides i received) c)
  unfolding after_sweeps
  after-mending distance-pos received pass F few =
      record {
        joined = g;
        distance-pos = distance-pos;
        few = rw (flips-comm N c received ∙ flips-differ received c N) at few;
        mends = λ i. sweep-mends (after_sweeps sides i received) (after_block sides g.whole i received pass) (turn i);
      }

pub after-restores : {N : ℕ} {sides : SideName → Side} {D : SideName → ℕ} {F : ℕ} (c received : List ℕ)
    → Mending N sides D F (λ i. differs_at (after_sweeps sides i received) c) → Block N c → Block N received
    → let q : ℕ = sweeps_named (measures_on N sides D) F in q ≢ 0 → after_sweeps sides q received ≡ c
after-restores {N} {sides} {D} {F} c received s whole block some =
    let q : ℕ = sweeps_named (measures_on N sides D) F in
    let after : Block N (after_sweeps sides q received) = record {
      bytes = after-bytes sides q received block.bytes;
      checked = after_block sides s.joined.whole q received block.checked;
    } in
    block-ext N _ c after whole (λ e l. differs_none _ c e (converges s some e l))
