-- `sweeps::all_codewords` meets its contract: the words so far are codewords, or one is found that is none.
use Rattle.std.proofs.Common.{true≢false, List, [], ◌≡◌, refl, sym, ◌∙◌, ℕ, arith, below_more}
use Rattle.inner_code.specs.Sheet.{degree}
use Rattle.inner_code.proofs.SheetChecks.{sound}
use Rattle.finder.proofs.Finding.{member-means}
use Rattle.wiring.proofs.Plans.{sheet-some}
use Rattle.wiring.specs.Block.{satisfied}
use Rattle.wiring.specs.Plan.{side_by, left}
use Rattle.sweeps.proofs.Visiting.{left-tells}
use Rattle.sweeps.proofs.sweep.all_codewords.Goals as goal
use Rattle.sweeps.proofs.sweep.all_codewords.Goals.{After-is_codeword}

pub bounds-sheet-0 : goal.bounds-sheet-0
bounds-sheet-0 c = let s = sound _ [] c.requires.finds.accepted in sheet-some c.args.sheet.now (omega (arith, s.degree-low))

pub loop-v-init : goal.loop-v-init
loop-v-init c = λ _ u l. absurd (omega arith)

pub left_word-word-requires : goal.left_word-word-requires
unfolding degree
left_word-word-requires c =
    record {
      v_bound = omega (arith, c.requires.n_bound);
      d_bound = (sound _ [] c.requires.finds.accepted).degree-high;
    }

pub is_codeword-requires : goal.is_codeword-requires
is_codeword-requires c = c.requires.finds.sized

-- the word of a vertex is tested by the side's inner code
tells : (c : After-is_codeword) (wiring : List ℕ)
    → c.is_codeword.result ≡ satisfied (side_by c.args.sheet.now c.args.n wiring left) c.args.block.now c.loop-v.v
unfolding degree
tells c wiring =
    left-tells c.requires.finds _ wiring _ c.loop-v.v refl c.left_word-word.ensures (member-means _ _ c.is_codeword.ensures)

pub returns-then-not-is_codeword : goal.returns-then-not-is_codeword
returns-then-not-is_codeword c = record {
  when_true = λ e. absurd (true≢false (sym e));
  when_false = λ _ wiring. (c.loop-v.v, omega arith, sym (tells (goal.at.returns-then-not-is_codeword c).After-is_codeword wiring) ∙ c.if-not-is_codeword.true);
}

pub loop-v-preserved : goal.loop-v-preserved
loop-v-preserved c =
    λ wiring. below_more _ c.loop-v.v (c.loop-v.invariant wiring) (sym (tells (goal.at.loop-v-preserved c).After-is_codeword wiring) ∙ c.if-not-is_codeword.false)

pub returns : goal.returns
returns c = record {
  when_true = λ _ wiring v l. c.loop-v.invariant wiring v (omega arith);
  when_false = λ e. absurd (true≢false e);
}
