-- `inner_code::nearest_word` meets its contract: each return is the outcome of the first test that holds, and the search over the
-- listed codewords finds the nearest word.
use Rattle.std.proofs.Common.{arith, ◌≡◌, sym, ap, ap₂, ◌∙◌, refl, ℕ, ◌*◌, ◌%◌, ◌^◌, ◌<◌, ◌≤◌, min, [], ◌∷◌, one-mul, pow_mono}
use native.Mathlib.Nat.{min-eq_left}
use Rattle.inner_code.specs.Reply.{done}
use Rattle.inner_code.specs.Code.{combination}
use Rattle.inner_code.specs.Reduction.{searched, step_to}
use Rattle.inner_code.specs.Sheet.{degree, row_count, row_of}
use Rattle.inner_code.proofs.Replies.{passed-on}
use Rattle.inner_code.proofs.SheetChecks.{Accepted, accepted, turned-back}
use Rattle.inner_code.proofs.NearestWord.{nearest-answer-refused, nearest-answer-high, nearest-answer-word, nearest-searched}
use Rattle.inner_code.proofs.NearestWord.{step-word, step-changed, changed-ones}
use Rattle.inner_code.proofs.nearest.nearest_word.Goals as goal
use Rattle.inner_code.proofs.nearest.nearest_word.Goals.{In_ok-values}

-- what an accepted sheet gives
sheet : (c : In_ok-values) → Accepted c.args.sheet.now c.check_into.new.basis c.in_ok-values.values
sheet c = accepted c.check_into.ensures c.in_ok-values.was

-- a word of 64 bits holds 2^d
power : (d : ℕ) → d ≤ 16 → (1 * 2 ^ d) % 18446744073709551616 ≡ 2 ^ d
power d h = omega (arith, one-mul (2 ^ d), pow_mono {i = d} {j = 16} h)

pub returns-in_err-values : goal.returns-in_err-values
returns-in_err-values c =
    rw (passed-on _ _ c.from_residual.ensures.1) (sym (nearest-answer-refused _ _ _ _ (turned-back c.check_into.ensures c.in_err-values.was)))

pub overflow_shl-values : goal.overflow_shl-values
overflow_shl-values c = omega (arith, (sheet c).d-is, (sheet c).sheet-sound.degree-high)

pub returns-then-values-word : goal.returns-then-values-word
returns-then-values-word c =
    let p = sheet (goal.at.returns-then-values-word c).In_ok-values in
    let limit = power _ p.sheet-sound.degree-high in
    let test = ap (λ (d : ℕ). (1 * 2 ^ d) % 18446744073709551616) p.d-is in
    sym (nearest-answer-high _ _ p.sheet-done (omega (arith, limit, test, c.if-values-word.true)))

low : (c : In_ok-values) → c.args.word < (1 * 2 ^ c.in_ok-values.values.d) % 18446744073709551616 → c.args.word < 2 ^ degree c.args.sheet.now
low c below =
    let p = sheet c in
    omega (arith, power _ p.sheet-sound.degree-high, ap (λ (d : ℕ). (1 * 2 ^ d) % 18446744073709551616) p.d-is)

pub overflow_cast-word : goal.overflow_cast-word
overflow_cast-word c =
    let at = (goal.at.overflow_cast-word c).In_ok-values in
    omega (arith, low at c.if-values-word.false, pow_mono {j = 16} (sheet at).sheet-sound.degree-high)

pub returns : goal.returns
returns c =
    let at = (goal.at.returns c).In_ok-values in
    let p = sheet at in
    let below = low at c.if-values-word.false in
    let sheet = c.args.sheet.now in
    let word = c.args.word in
    let rows : min c.in_ok-values.values.k 11 ≡ row_count sheet = ap (λ (k : ℕ). min k 11) p.k-is ∙ min-eq_left p.sheet-sound.count-high in
    let nearest = ap (λ (k : ℕ). searched (combination (row_of sheet) k) (2 ^ k) word) rows
    ∙ nearest-searched (row_of sheet) (row_count sheet) (degree sheet) p.sheet-sound.degree-high p.sheet-sound.rows-lt
    (combination (row_of sheet) (row_count sheet)) (λ m h. refl) word below in
    let step = c.nearest_of_rows.ensures ∙ ap (step_to word) nearest in
    ap₂ (λ (x n : ℕ). done (x ∷ n ∷ [])) (step-word word _ step)
    (step-changed word _ step ∙ changed-ones (row_of sheet) (row_count sheet) (degree sheet) word)
    ∙ sym (nearest-answer-word sheet word p.sheet-done below)
