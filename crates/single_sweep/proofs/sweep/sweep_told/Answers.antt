-- `single_sweep::sweep_told` meets its contract: after v vertices the block is the one with the first v visited, and `change` is how the true count
-- has changed. A codeword stays; any other word takes its nearest one, which is a codeword unless it is a tie.
use Rattle.std.proofs.Common.{◌≡◌, ℕ, ◌+◌, ◌-◌, ◌*◌, ◌≤◌, ◌<◌, Bool, true, false, not, List, [], length, refl, ap, ◌∙◌, arith, cond}
use Rattle.std.proofs.Common.{bit_xor, eqb}
use mir.Val.{bool_byte}
use Rattle.inner_code.specs.Reply.{done}
use Rattle.inner_code.specs.Sheet.{degree}
use Rattle.inner_code.specs.declared.nearest.Step.{Step}
use Rattle.finder.specs.Finding.{Finds, Found}
use Rattle.finder.proofs.Finding.{Member, member-means}
use Rattle.words.specs.Words.{pattern_put}
use Rattle.wiring.specs.Plan.{Plan, sheet_of, count_of, side_of, side_bit, edge_count, other}
use Rattle.wiring.specs.PlanParts.{plan_in}
use Rattle.wiring.specs.Wiring.{plan_check}
use Rattle.wiring.specs.Block.{block_check, vertex_word}
use Rattle.wiring.specs.Access.{read_word}
use Rattle.wiring.specs.Code.{code_of}
use Rattle.wiring.specs.declared.side.SideCode.{SideCode}
use Rattle.wiring.specs.declared.side.SideName.{SideName}
use Rattle.wiring.proofs.Blocks.{block_room}
use Rattle.wiring.proofs.VertexAccess.{read-vertex, plan-readable}
use Rattle.wiring.proofs.VertexWords.{vertex-lt}
use Rattle.unsatisfied.specs.Count.{unsatisfied_at}
use Rattle.sweeps.proofs.Visiting.{word-stays, word-found, word-counted, word-put, found_lt, pattern_lt, ready-side}
use Rattle.single_sweep.specs.Telling.{Visited}
use Rattle.single_sweep.proofs.Visits.{visited-none, visited-kept, visited-mended, visited-all, visited-length}
use Rattle.single_sweep.proofs.Visits.{change-few, side-few, word-missed, word-mended}
use Rattle.single_sweep.proofs.sweep.sweep_told.Goals as goal
use Rattle.single_sweep.proofs.sweep.sweep_told.Goals.{After-put_told-told}

-- the block has room for all bits
room : (plan : Plan) → plan_check plan ≡ done [] → {name : SideName} {before block : List ℕ} {v change : ℕ}
    → block_check (edge_count plan) before ≡ done [] → Visited plan name before v change block → edge_count plan ≤ length block * 8
room plan accepted {name} {before} pass so_far = omega (arith, visited-length plan accepted name so_far, block_room (edge_count plan) before pass)

-- ---- the vertex at the loop's head, and the word that is read there

module _ (plan : Plan) (name : SideName) {code : SideCode} (held : code ≡ code_of plan name) where
  below : {v : ℕ} → v < code.n → v < count_of plan name
  below l = rw held at l

  -- the word read is the vertex's
  read_is : (block : List ℕ) (v : ℕ) {word : ℕ} → word ≡ read_word name plan.wiring code.d block v → word ≡ vertex_word (side_of plan name) block v
  read_is block v e = rw held at e ∙ read-vertex (sheet_of plan name) _ _ name block v

pub loop-v-init : goal.loop-v-init
loop-v-init c = record { visited = visited-none _ c.args.plan.passed c.args.side _; finds = c.requires.finds }

pub read_word-word-requires : goal.read_word-word-requires
read_word-word-requires c =
    let plan = plan_in c.args.plan.parts in
    let accepted = c.args.plan.passed in
    rw c.side-code.ensures
    (plan-readable plan accepted c.loop-v.block (room plan accepted c.requires.block_done c.loop-v.invariant.visited) c.args.side c.loop-v.v
    (below plan c.args.side c.side-code.ensures c.loop-v-test.true))

pub loop-v-preserved-then-is_codeword : goal.loop-v-preserved-then-is_codeword
loop-v-preserved-then-is_codeword c =
    let plan = plan_in c.args.plan.parts in
    let accepted = c.args.plan.passed in
    let side = c.args.side in
    let turn = c.loop-v in
    let under = below plan side c.side-code.ensures c.loop-v-test.true in
    let stays = word-stays (ready-side plan accepted side turn.invariant.finds) side turn.block under
    (read_is plan side c.side-code.ensures turn.block turn.v c.read_word-word.ensures) (member-means _ _ c.is_codeword.ensures) c.if-is_codeword.true in
    record { visited = visited-kept _ accepted side turn.invariant.visited stays; finds = turn.invariant.finds }

pub find_nearest-step-requires : goal.find_nearest-step-requires
find_nearest-step-requires c =
    let plan = plan_in c.args.plan.parts in
    let side = c.args.side in
    let read = read_is plan side c.side-code.ensures c.loop-v.block c.loop-v.v c.read_word-word.ensures in
    rw c.sheet-sheet.ensures
    (record { finds = c.loop-v.invariant.finds; word_bound = rw read (vertex-lt (side_of plan side) c.loop-v.block c.loop-v.v) })

-- ---- a word that is no codeword

pub put_told-told-requires : goal.put_told-told-requires
put_told-told-requires c =
    let plan = plan_in c.args.plan.parts in
    let accepted = c.args.plan.passed in
    let side = c.args.side in
    let under = below plan side c.side-code.ensures c.loop-v-test.true in
    record {
      v_bound = under;
      pattern_bound = pattern_lt (ready-side plan accepted side c.loop-v.invariant.finds) side c.loop-v.block under
          (read_is plan side c.side-code.ensures c.loop-v.block c.loop-v.v c.read_word-word.ensures)
          (rw c.sheet-sheet.ensures at c.find_nearest-step.ensures);
      across = c.requires.across;
      room = room plan accepted c.requires.block_done c.loop-v.invariant.visited;
    }

-- ---- the vertex mended

-- a test that is cast to a number, as the definition has it
as_cond : (t : Bool) → bool_byte (not t) ≡ cond t 0 1
as_cond true = refl
as_cond false = refl

module _ (plan : Plan) (accepted : plan_check plan ≡ done []) (name : SideName) {before block finder : List ℕ} {v change : ℕ}
    (so_far : Visited plan name before v change block) (finds : Finds (sheet_of plan name) finder) (below : v < count_of plan name)
    (room : edge_count plan ≤ length block * 8) where
  mends : {word : ℕ} (told : ℕ) {step : Step} {r : Bool} {finder' after : List ℕ} → word ≡ vertex_word (side_of plan name) block v → Member finder word r
      → r ≡ false → Found (sheet_of plan name) word step finder'
      → after ≡ pattern_put (side_bit name plan.wiring) (degree (sheet_of plan name)) (v * degree (sheet_of plan name)) (bit_xor word step.word)
      (degree (sheet_of plan name)) block
      → told + unsatisfied_at (side_of plan (other name)) block ≡ 65536 + unsatisfied_at (side_of plan (other name)) after
      → (settled : ℕ) → settled ≡ cond (eqb step.changed 0) 0 1
      → (65536 + settled ≤ change + told) × Visited plan name before (v + 1) (change + told - 65536 - settled) after
  mends {word} told {step} is member none found put tells settled e =
      let ready = ready-side plan accepted name finds in
      let mapped = word-found ready name block below is found in
      let counted = word-counted ready name block below is found in
      let puts = word-put ready name block below is step.word put in
      let low = found_lt ready name block below is found in
      let missed = word-missed plan accepted name finds member block v is none in
      visited-mended plan accepted name so_far told settled below mapped puts tells
      (rw e (word-mended plan accepted name block room below missed mapped counted puts low))

mended : (c : After-put_told-told) → let settled : ℕ = bool_byte (not (eqb c.find_nearest-step.result.changed 0)) in
    (65536 + settled ≤ c.loop-v.change + c.put_told-told.result)
    × Visited (plan_in c.args.plan.parts) c.args.side c.args.block.now (c.loop-v.v + 1)
    (c.loop-v.change + c.put_told-told.result - 65536 - settled) c.put_told-told.new.block
mended c =
    let plan : Plan = plan_in c.args.plan.parts in
    let accepted = c.args.plan.passed in
    let side = c.args.side in
    let turn = c.loop-v.invariant in
    let is = c.side-code.ensures in
    let told = c.put_told-told.ensures in
    mends plan accepted side turn.visited turn.finds (below plan side is c.loop-v-test.true)
    (room plan accepted c.requires.block_done turn.visited) c.put_told-told.result
    (read_is plan side is c.loop-v.block c.loop-v.v c.read_word-word.ensures) (member-means _ _ c.is_codeword.ensures)
    c.if-is_codeword.false (rw c.sheet-sheet.ensures at c.find_nearest-step.ensures) told.block_after told.told _ (as_cond _)

pub overflow_add-change : goal.overflow_add-change
overflow_add-change c =
    let plan = plan_in c.args.plan.parts in
    let accepted = c.args.plan.passed in
    omega (
      arith,
      change-few plan accepted c.args.side c.loop-v.invariant.visited,
      c.put_told-told.ensures.told,
      side-few plan accepted (other c.args.side) c.put_told-told.new.block,
    )

pub overflow_sub-change : goal.overflow_sub-change
overflow_sub-change c = omega (arith, (mended (goal.at.overflow_sub-change c).After-put_told-told).0)

pub overflow_sub-change-in-loop-v : goal.overflow_sub-change-in-loop-v
overflow_sub-change-in-loop-v c = omega (arith, (mended (goal.at.overflow_sub-change-in-loop-v c).After-put_told-told).0)

pub loop-v-preserved : goal.loop-v-preserved
loop-v-preserved c =
    record {
      visited = (mended (goal.at.loop-v-preserved c).After-put_told-told).1;
      finds = (rw c.sheet-sheet.ensures at c.find_nearest-step.ensures).finds;
    }

pub returns : goal.returns
returns c =
    let swept = visited-all (plan_in c.args.plan.parts) c.args.plan.passed c.args.side c.loop-v.invariant.visited
    (omega (arith, ap (λ (x : SideCode). x.n) c.side-code.ensures)) in
    record { value = swept.0; block_after = swept.1 }
