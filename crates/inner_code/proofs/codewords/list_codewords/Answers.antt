-- `inner_code::list_codewords` meets its contract: after i turns the codewords of the first i rows are listed.
use Rattle.std.proofs.Common.{◌≡◌, refl, sym, ap, ap₂, ◌∙◌, List, ℕ, suc, ◌*◌, ◌≤◌, ◌%◌, ◌^◌, min, arith, pow-suc, add-one, length}
use Rattle.std.proofs.Common.{set, length-set, pow_mono, pow_pos, set-set}
use Rattle.inner_code.specs.Sheet.{row_of}
use Rattle.inner_code.specs.Reduction.{doubled, listed}
use Rattle.bits.proofs.Windows.{shifted_one}
use Rattle.inner_code.proofs.Listings.{length-doubled, listed-one-more, listed-again, words-most}
use Rattle.inner_code.proofs.codewords.list_codewords.Goals as goal
use Rattle.inner_code.proofs.codewords.list_codewords.Goals.{After-min-rows, At-loop-i, Else-words-rows, In-loop-i}

-- the number of words that are listed
limit : (c : After-min-rows)
    → (1 * 2 ^ c.min-rows.result) % 2 ^ 64 ≡ 2 ^ min c.args.k 11
limit c =
    let rows = c.min-rows.ensures in
    shifted_one c.min-rows.result 64 (omega (arith, rows)) ∙ ap (λ (j : ℕ). 2 ^ j) rows

pub returns-then-words-rows : goal.returns-then-words-rows
returns-then-words-rows c = record { room = λ h. absurd (omega (arith, limit (goal.at.returns-then-words-rows c).After-min-rows)); short = λ h. (refl, refl) }

-- past the test they have room
room : (c : Else-words-rows)
    → 2 ^ min c.args.k 11 ≤ length c.args.words.now
room c = omega (arith, shifted_one c.min-rows.result 64 (omega arith), ap (λ (j : ℕ). 2 ^ j) c.min-rows.ensures)

pub bounds-words-0 : goal.bounds-words-0
bounds-words-0 c = omega (arith, room c, pow_pos (min c.args.k 11))

pub loop-i-init : goal.loop-i-init
unfolding listed
loop-i-init c = (refl, sym (set-set c.args.words.now 0 0 0), refl)

-- ---- from the loop on

sized : (c : At-loop-i) → length c.loop-i.words ≡ length c.args.words.now
sized c = c.loop-i.invariant.2 ∙ length-set c.args.words.now 0 0

-- before the last row is reached there are to be as many words again
count_fits : (c : In-loop-i) → 2 * c.loop-i.count ≤ 2 ^ min c.args.k 11
count_fits c =
    let before = c.loop-i in
    let k = c.args.k in
    let more : suc before.i ≤ min k 11 = omega (arith, c.min-rows.ensures) in
    omega (arith, before.invariant.0, pow-suc 2 before.i, pow_mono {i = suc before.i} {j = min k 11} more)

pub overflow_mul-count : goal.overflow_mul-count
overflow_mul-count c = omega (arith, count_fits (goal.at.overflow_mul-count c).In-loop-i, words-most c.args.k)

pub loop-i-preserved : goal.loop-i-preserved
unfolding row_of
loop-i-preserved c =
    let before = c.loop-i in
    let args = c.args in
    let pair = c.pair in
    let doubling = c.double.ensures.room (omega (arith, count_fits (goal.at.loop-i-preserved c).In-loop-i, room (goal.at.loop-i-preserved c).Else-words-rows, sized (goal.at.loop-i-preserved c).At-loop-i)) in
    let count = before.invariant.0 in (
      rw add-one (omega (arith, count, pow-suc 2 before.i)),
      doubling
          ∙ ap₂ (λ (n : ℕ) (l : List ℕ). doubled n pair.result n l) count before.invariant.1
          ∙ ap (λ (r : ℕ). doubled (2 ^ before.i) r (2 ^ before.i) (listed (row_of args.sheet.now) before.i (set args.words.now 0 0)))
          pair.ensures
          ∙ sym (listed-one-more (row_of args.sheet.now) before.i (set args.words.now 0 0)),
      ap length doubling ∙ length-doubled _ _ _ _ ∙ before.invariant.2,
    )

pub shape_of-words : goal.shape_of-words
shape_of-words c = sized (goal.at.shape_of-words c).At-loop-i

pub returns : goal.returns
returns c =
    let before = c.loop-i in
    let args = c.args in
    let row = row_of args.sheet.now in
    let all : before.i ≡ min args.k 11 = omega (arith, c.min-rows.ensures) in
    record {
      room = λ h. (
        before.invariant.0 ∙ ap (λ (j : ℕ). 2 ^ j) all,
        before.invariant.1 ∙ listed-again row before.i args.words.now ∙ ap (λ (j : ℕ). listed row j args.words.now) all,
      );
      short = λ h. absurd (omega (arith, room (goal.at.returns c).Else-words-rows));
    }
