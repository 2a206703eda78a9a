-- `tables::look_up` meets its contract: each return is the outcome of the first test that holds, and the entry that is read is that of the
-- word's class.
use Rattle.std.proofs.Common.{arith, ◌≡◌, sym, ap, ◌∙◌, ℕ, ◌*◌, ◌-◌, ◌%◌, ◌^◌, ◌<◌, min, [], ◌∷◌, bit_xor, pow_mono}
use lib.Count.{ones}
use Rattle.bits.specs.Window.{at}
use Rattle.bits.proofs.Windows.{shifted_one}
use Rattle.inner_code.specs.Reply.{done}
use Rattle.inner_code.specs.Reduction.{reduced_by}
use Rattle.inner_code.specs.Sheet.{degree, row_count, row_of}
use Rattle.inner_code.proofs.Replies.{passed-on}
use Rattle.inner_code.proofs.SheetChecks.{Accepted, accepted, turned-back}
use Rattle.tables.specs.Answer.{table_bytes}
use Rattle.tables.specs.Numbering.{free_mask, squeezed_by}
use Rattle.tables.proofs.Numbers.{class-number}
use Rattle.tables.proofs.Tables.{size_is, number_is}
use Rattle.tables.proofs.LookUps.{look-refused, look-high, look-short, look-done, look-pattern}
use Rattle.tables.proofs.looking.look_up.Goals as goal
use Rattle.tables.proofs.looking.look_up.Goals.{In_ok-values}

-- ---- what an accepted sheet gives

module _ (c : In_ok-values) where
  sheet : Accepted c.args.sheet.now c.check_into.new.basis c.in_ok-values.values
  sheet = accepted c.check_into.ensures c.in_ok-values.was

  limit : (1 * 2 ^ c.in_ok-values.values.d) % 2 ^ 64 ≡ 2 ^ degree c.args.sheet.now
  limit = shifted_one c.in_ok-values.values.d 64 (omega (arith, sheet.d-is, sheet.sheet-sound.degree-high)) ∙ ap (λ (d : ℕ). 2 ^ d) sheet.d-is

  size : (2 * 2 ^ (c.in_ok-values.values.d - c.in_ok-values.values.k)) % 18446744073709551616 ≡ table_bytes c.args.sheet.now
  size = size_is _ sheet.sheet-sound _ _ sheet.d-is sheet.k-is

  module _ (below : c.args.word < (1 * 2 ^ c.in_ok-values.values.d) % 2 ^ 64) where
    low : c.args.word < 2 ^ degree c.args.sheet.now
    low = omega (arith, limit)

    short : c.args.word < 65536
    short = omega (arith, low, pow_mono {j = 16} sheet.sheet-sound.degree-high)

pub returns-in_err-values : goal.returns-in_err-values
returns-in_err-values c =
    rw (passed-on _ _ c.from_residual.ensures.1) (look-refused _ _ _ _ _ (turned-back c.check_into.ensures c.in_err-values.was))

pub overflow_shl-values : goal.overflow_shl-values
overflow_shl-values c = omega (arith, (sheet c).d-is, (sheet c).sheet-sound.degree-high)

pub returns-then-values-word : goal.returns-then-values-word
returns-then-values-word c =
    let at = (goal.at.returns-then-values-word c).In_ok-values in
    look-high c.args.sheet.now c.args.word c.args.table.now (sheet at).sheet-done (omega (arith, limit at, c.if-values-word.true))

pub overflow_sub-values : goal.overflow_sub-values
overflow_sub-values c =
    let s = sheet (goal.at.overflow_sub-values c).In_ok-values in
    omega (arith, s.d-is, s.k-is, s.sheet-sound.count-degree)

pub overflow_shl-values-2 : goal.overflow_shl-values-2
overflow_shl-values-2 c =
    let s = sheet (goal.at.overflow_shl-values-2 c).In_ok-values in
    omega (arith, s.d-is, s.sheet-sound.degree-high)

pub returns-then-table-values : goal.returns-then-table-values
returns-then-table-values c =
    let at = (goal.at.returns-then-table-values c).In_ok-values in
    look-short c.args.sheet.now c.args.word c.args.table.now (sheet at).sheet-done (low at c.if-values-word.false)
    (omega (arith, size at, c.if-table-values.true))

pub overflow_cast-word : goal.overflow_cast-word
overflow_cast-word c = omega (arith, short (goal.at.overflow_cast-word c).In_ok-values c.if-values-word.false)

pub pattern_of-pattern-requires : goal.pattern_of-pattern-requires
pattern_of-pattern-requires c =
    let s = sheet (goal.at.pattern_of-pattern-requires c).In_ok-values in
    omega (arith, s.d-is, s.sheet-sound.degree-high)

pub returns : goal.returns
returns c =
    let place = (goal.at.returns c).In_ok-values in
    let below = c.if-values-word.false in
    let p = sheet place in
    let args = c.args in
    let sheet = args.sheet.now in
    let basis = c.check_into.new.basis in
    let rows = ap (λ (k : ℕ). min k 11) p.k-is in
    let left = c.residue-left in
    let class = c.squeeze-class.ensures
    ∙ ap (λ (m : ℕ). squeezed_by m 16 left.result) (c.free_digits.ensures ∙ ap (free_mask (at basis)) rows)
    ∙ number_is sheet p.sheet-sound basis p.basis-is args.word left.result
    (left.ensures ∙ ap (λ (n : ℕ). reduced_by (at basis) n args.word) rows)
    ∙ sym (class-number (row_of sheet) (row_count sheet) args.word (short place below)) in
    ap (λ (x : ℕ). done (bit_xor args.word x ∷ ones x ∷ []))
    (look-pattern sheet args.word args.table.now _ _ _ _ class c.pair.ensures c.pattern_of-pattern.ensures p.d-is)
    ∙ look-done sheet args.word args.table.now p.sheet-done (low place below) (omega (arith, size place, c.if-table-values.false))
