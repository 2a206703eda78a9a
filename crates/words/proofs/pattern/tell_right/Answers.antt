-- `words::tell_right` meets its contract: one digit of the word is turned, and the vertex is marked.
use Rattle.std.proofs.Common.{List, ◌≡◌, ◌∙◌, ap, ap₂, ℕ, ◌+◌, ◌-◌, ◌*◌, ◌%◌, ◌^◌, div-add-mod', mod-lt, arith, bit_xor, get_or, set}
use Rattle.std.proofs.Common.{length-set}
use Rattle.bits.specs.Window.{at}
use Rattle.wiring.specs.declared.side.SideName.{SideName}
use Rattle.words.specs.Marks.{news_of, marked, told_right}
use Rattle.words.proofs.Marks.{marks-high}
use Rattle.words.proofs.pattern.tell_right.Goals as goal
use Rattle.words.proofs.pattern.tell_right.Goals.{After-vertex_at-v}

-- the entry is one of the vertex's
over : (c : After-vertex_at-v) → c.vertex_at-v.result * c.args.d + c.args.place % c.args.d ≡ c.args.place
over c = rw c.vertex_at-v.ensures (div-add-mod' c.args.place c.args.d)

pub overflow_mul-v : goal.overflow_mul-v
overflow_mul-v c = omega (arith, over (goal.at.overflow_mul-v c).After-vertex_at-v)

pub overflow_sub-place : goal.overflow_sub-place
overflow_sub-place c = omega (arith, over (goal.at.overflow_sub-place c).After-vertex_at-v)

pub overflow_sub-d-2 : goal.overflow_sub-d-2
overflow_sub-d-2 c = omega (arith, over (goal.at.overflow_sub-d-2 c).After-vertex_at-v, mod-lt c.args.place c.requires.d_nonzero.0)

pub mark-requires : goal.mark-requires
mark-requires c =
    let v = c.vertex_at-v in record {
      kept_len = length-set {A = ℕ} c.args.kept.now v.result _ ∙ c.requires.kept_len;
      from_bound = omega (arith, c.news_of.ensures, marks-high SideName.Right);
      v_bound = omega (arith, v.ensures, c.requires.d_bound);
    }

pub returns : goal.returns
unfolding told_right at news_of
returns c =
    let kept : List ℕ = c.args.kept.now in
    let digit : c.args.d - 1 - (c.args.place - c.vertex_at-v.result * c.args.d) ≡ c.args.d - 1 - c.args.place % c.args.d =
    omega (arith, over (goal.at.returns c).After-vertex_at-v) in
    c.mark.ensures
    ∙ ap₂ (λ (x from : ℕ). marked (set kept c.vertex_at-v.result x) from c.vertex_at-v.result)
    (ap (bit_xor (get_or kept c.vertex_at-v.result 0)) (c.power.ensures ∙ ap (λ (i : ℕ). 2 ^ i) digit)) c.news_of.ensures
    ∙ ap (λ (v : ℕ). marked (set kept v (bit_xor (get_or kept v 0) (2 ^ (c.args.d - 1 - c.args.place % c.args.d)))) 2176 v) c.vertex_at-v.ensures
