use Rattle.std.proofs.Common.{◌≡◌, ◌≤◌, ℕ, List}
use Rattle.wiring.specs.Plan.{left, right}
use Rattle.wiring.specs.Access.{both_codes, unsatisfied_by}
use Rattle.wiring.specs.declared.side.SideCode.{SideCode}
use Rattle.wiring.specs.declared.side.SideName.{SideName}
use Rattle.wiring.proofs.Locating.{found_by}
use Rattle.wiring.proofs.locator.first_unsatisfied.Given as goal

-- a side of which every vertex has passed
abbrev pub passed : SideCode → SideCode → List ℕ → List ℕ → SideName → Type 0
passed l r wiring block name = found_by (both_codes l r) wiring block name ≡ (both_codes l r name).n

abbrev pub invariant-loop-v : goal.invariant-loop-v
invariant-loop-v l = unsatisfied_by l.code l.side l.wiring l.v l.block ≡ l.v

abbrev pub invariant-loop-side : goal.invariant-loop-side
invariant-loop-side l = record {
  first : 1 ≤ l.side-index → passed l.left l.right l.wiring l.block left;
  second : 2 ≤ l.side-index → passed l.left l.right l.wiring l.block right;
}
