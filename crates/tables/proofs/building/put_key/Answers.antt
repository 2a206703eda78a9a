-- `tables::put_key` meets its contract: its three stores are those of the key's parts.
use Rattle.std.proofs.Common.{◌≡◌, ℕ, ◌/◌, ◌%◌, List, ap, ◌∙◌, get_or, arith}
use Rattle.tables.proofs.Keys.{puts-key}
use Rattle.tables.proofs.building.put_key.Goals as goal

pub returns : goal.returns
returns c =
    let args = c.args in
    let key = args.key in
    let bytes = c.to_be_bytes.ensures in
    let cost : get_or c.to_be_bytes.result 1 0 ≡ key / 65536 = ap (λ (l : List ℕ). get_or l 1 0) bytes ∙ omega arith in
    let high : get_or c.to_be_bytes.result 2 0 ≡ key / 256 % 256 = ap (λ (l : List ℕ). get_or l 2 0) bytes ∙ omega arith in
    let low : get_or c.to_be_bytes.result 3 0 ≡ key % 256 = ap (λ (l : List ℕ). get_or l 3 0) bytes ∙ omega arith in
    rw (cost, high, low) (puts-key args.table.now args.costs.now args.c key (omega arith) (omega arith) (omega arith))
