-- One sweep as the code makes it: vertices that stay, vertices that are mended, and how many bits change.
--   changed_at, changed_by       how many bits a word's nearest word changes, and those of a side's first vertices together (specs Sweeping)
--   tied_at, ties_by             whether a word is a tie, and how many of a side's first vertices read one (specs Sweeping)
--   SideSwept                  what a whole sweep gives (specs Sweeping)
--   visited, sweep, nearest_of  the block after some vertices, and after all, have their nearest word (specs Sweep, Visiting)
--   Visits side before v changed ties block   the first v vertices are visited: `changed` bits changed, `ties` vertices wait, and the block is
--                              `block`
-- Laws are named by their subject, then by the fact: `changed-` is about the number of bits that change, `ties-` about the vertices that
-- wait, `visits-` about the block so far, `word-`, `found-` and `pattern-` about one vertex's word in the code, `ready-` about a side of a
-- checked plan.
use Rattle.std.proofs.Common.{ℕ, ◌+◌, ◌*◌, ◌^◌, ◌≤◌, ◌<◌, Bool, true, false, cond, List, [], ◌≡◌, refl, sym, ap, ap₂, ◌∙◌, le_refl}
use Rattle.std.proofs.Common.{le_trans, le_of_eq, arith, bit_xor, eqb, length, replicate}
use Rattle.bits.proofs.Sums.{sum-zero, sum-one-more, sum_mono, sum-const, sum-none-each, sum-some}
use lib.Bits.{xor_lt}
use Rattle.bits.specs.Window.{word_at}
use Rattle.bits.proofs.Xor.{xor-cancel}
use Rattle.inner_code.specs.Code.{is_codeword}
use Rattle.inner_code.specs.Sheet.{degree, row_count, row_of}
use Rattle.inner_code.specs.declared.nearest.Step.{Step}
use Rattle.inner_code.proofs.NearestWord.{nearest-lt, nearest-fixed, untied-codeword, changed-none, changed-none-back, changed-tied, changed-le}
use Rattle.inner_code.specs.Reply.{done}
use Rattle.finder.specs.Finding.{Finds, Found, Preparable}
use Rattle.inner_code.proofs.SheetChecks.{Sound, sound, sound-accepted}
use Rattle.finder.proofs.Finding.{Member}
use Rattle.wiring.specs.Plan.{Plan, Side, left, sheet_of, count_of, side_bit, side_by, side_of}
use Rattle.wiring.specs.Wiring.{plan_check}
use Rattle.wiring.specs.Code.{code_of}
use Rattle.wiring.specs.declared.side.SideCode.{SideCode}
use Rattle.wiring.specs.declared.side.SideName.{SideName}
use Rattle.wiring.proofs.VertexWords.{vertex-lt}
use Rattle.wiring.proofs.Plans.{plan-sound, fitted-sheet}
use Rattle.wiring.specs.Block.{vertex_word, with_word, satisfied}
use Rattle.wiring.proofs.Permutation.{Whole, edges_le, fitted-vertex, fitted-edges, side-fits, side-edges, side-lt, side-once}
use Rattle.sweeps.specs.Sweep.{visited, sweep}
use Rattle.sweeps.specs.Sweeping.{changed_at, changed_by, tied_at, ties_by, Ready, SideReady, SideSwept, nearest_of}
use Rattle.words.specs.Words.{pattern_put}
use Rattle.words.proofs.Patterns.{pattern-word}
use Rattle.sweeps.proofs.Sweeping.{length-visited, visited-one-more, visited-skip, visited-later}

-- ---- how many bits change

module _ (side : Side) (block : List ℕ) where
  changed-start : changed_by side 0 block ≡ 0
  unfolding changed_by
  changed-start = sum-zero (λ v. changed_at side (vertex_word side block v))

  changed-one-more : (v : ℕ) → changed_by side (v + 1) block ≡ changed_by side v block + changed_at side (vertex_word side block v)
  unfolding changed_by
  changed-one-more v = sum-one-more v _

  -- where none does, every word of the side is its own nearest one
  pub changed-zero : (m : ℕ) → changed_by side m block ≡ 0 → (v : ℕ) → v < m → nearest_of side (vertex_word side block v) ≡ vertex_word side block v
  unfolding changed_by
  changed-zero m e v l = changed-none _ _ _ _ (sum-none-each m (λ v. changed_at side (vertex_word side block v)) e v l)

-- ---- how many vertices wait

-- 1 for a tie
abbrev pub waits : Bool → ℕ
waits t = cond t 1 0

waits-le : (t : Bool) → waits t ≤ 1
waits-le true = omega arith
waits-le false = omega arith

pub tie-le : (t : Bool) {tie : ℕ} → tie ≡ waits t → tie ≤ 1
tie-le t e = omega (arith, e, waits-le t)

module _ (side : Side) (block : List ℕ) where
  ties-start : ties_by side 0 block ≡ 0
  unfolding ties_by
  ties-start = sum-zero (λ v. waits (tied_at side (vertex_word side block v)))

  ties-one-more : (v : ℕ) → ties_by side (v + 1) block ≡ ties_by side v block + waits (tied_at side (vertex_word side block v))
  unfolding ties_by
  ties-one-more v = sum-one-more v _

  pub ties-le : (m : ℕ) → ties_by side m block ≤ m
  unfolding ties_by
  ties-le m =
      le_trans (sum_mono m _ (λ v. 1) (λ v l. waits-le (tied_at side (vertex_word side block v)))) (le_of_eq (sum-const m 1 ∙ omega arith))

  waits-none : (t : Bool) → waits t ≡ 0 → t ≡ false
  waits-none true e = absurd (omega (arith, e))
  waits-none false e = refl

  pub ties-none : (m : ℕ) → ties_by side m block ≡ 0 → (v : ℕ) → v < m → tied_at side (vertex_word side block v) ≡ false
  unfolding ties_by
  ties-none m e v l = waits-none _ (sum-none-each m (λ v. waits (tied_at side (vertex_word side block v))) e v l)

  waits-some : (t : Bool) → 0 < waits t → t ≡ true
  waits-some true h = refl
  waits-some false h = absurd (omega (arith, h))

  pub ties-some : (m : ℕ) → (ties_by side m block ≡ 0 → ⊥) → (v : ℕ) × (v < m) × (tied_at side (vertex_word side block v) ≡ true)
  unfolding ties_by
  ties-some m some =
      let (v, l, h) = sum-some m (λ v. waits (tied_at side (vertex_word side block v))) (omega (arith, some)) in
      (v, l, waits-some _ h)

-- a vertex changes d bits at most
changed-by-le : (sheet : List ℕ) (n : ℕ) (wiring : List ℕ) (name : SideName) → Sound sheet → (m : ℕ) (block : List ℕ)
    → changed_by (side_by sheet n wiring name) m block ≤ m * degree sheet
unfolding changed_by
changed-by-le sheet n wiring name s m block =
    le_trans
    (sum_mono m _ (λ v. degree sheet) (λ v l.
    changed-le _ _ _ s.degree-high s.rows-lt _ (vertex-lt (side_by sheet n wiring name) block v)))
    (le_of_eq (sum-const m (degree sheet)))

-- ---- vertices visited so far

pub record Visits (side : Side) (before : List ℕ) (v changed ties : ℕ) (block : List ℕ) : Type 0 where
  pub counted : changed ≡ changed_by side v before
  pub waiting : ties ≡ ties_by side v before
  pub swept : block ≡ visited (nearest_of side) side v before

pub visits-none : {side : Side} {before : List ℕ} → Visits side before 0 0 0 before
unfolding visited
visits-none {side} {before} = record { counted = sym (changed-start side before); waiting = sym (ties-start side before); swept = refl }

pub visits-le : {sheet : List ℕ} {n : ℕ} {wiring finder : List ℕ} → SideReady sheet n wiring finder → (name : SideName) {before : List ℕ}
    {v changed ties : ℕ} {block : List ℕ} → v ≤ n → Visits (side_by sheet n wiring name) before v changed ties block → changed ≤ 32768
visits-le {sheet} {n} {wiring} ready name {before} {v} within all =
    let s = sound sheet [] ready.finds.accepted in
    omega (
      arith,
      all.counted,
      changed-by-le sheet n wiring name s v before,
      edges_le v (degree sheet) (le_trans within ready.fits.n-high) s.degree-high,
    )

-- how many wait is a matter of the block at first
pub visits-ties : {side : Side} {before : List ℕ} {v changed ties : ℕ} {block : List ℕ} → Visits side before v changed ties block
    → Visits side before v changed (ties_by side v before) block
visits-ties all = record { counted = all.counted; waiting = refl; swept = all.swept }

-- no more wait than there are
pub visits-few : {side : Side} {before : List ℕ} {v changed ties : ℕ} {block : List ℕ} → Visits side before v changed ties block → ties ≤ v
visits-few {side} {before} {v} all = omega (arith, all.waiting, ties-le side before v)

module _ {N : ℕ} {side : Side} (whole : Whole N side) {before block : List ℕ} {v changed ties : ℕ} (below : v < side.n)
    (so_far : Visits side before v changed ties block) where
  -- vertex v still reads what it read at first
  pub visit-first : vertex_word side block v ≡ vertex_word side before v
  visit-first = ap (λ (l : List ℕ). vertex_word side l v) so_far.swept ∙ visited-later (nearest_of side) side whole v before v (le_refl v) below

  abbrev Stays : Type 0
  Stays = nearest_of side (vertex_word side block v) ≡ vertex_word side block v

  pub visits-changed : {mended bits tie : ℕ} {after : List ℕ} → mended ≡ nearest_of side (vertex_word side block v)
      → bits ≡ changed_at side (vertex_word side block v) → tie ≡ waits (tied_at side (vertex_word side block v))
      → after ≡ with_word side v mended block → Visits side before (v + 1) (changed + bits) (ties + tie) after
  visits-changed mapped told waited e =
      record {
        counted = omega (arith, changed-one-more side before v, told ∙ ap (changed_at side) visit-first, so_far.counted);
        waiting = omega (arith, ties-one-more side before v, waited ∙ ap (λ (w : ℕ). waits (tied_at side w)) visit-first, so_far.waiting);
        swept = e
            ∙ ap₂ (λ (x : ℕ) (l : List ℕ). with_word side v x l)
            (mapped ∙ ap (λ (l : List ℕ). nearest_of side (vertex_word side l v)) so_far.swept) so_far.swept
            ∙ sym (visited-one-more (nearest_of side) side v before);
      }

  -- a vertex that stays, whether it waits or not
  pub visits-stays : Stays → {tie : ℕ} → tie ≡ waits (tied_at side (vertex_word side block v)) → Visits side before (v + 1) changed (ties + tie) block
  visits-stays stays waited =
      record {
        counted = omega (
          arith,
          changed-one-more side before v,
          sym (ap (changed_at side) visit-first) ∙ changed-none-back _ _ _ _ stays,
          so_far.counted,
        );
        waiting = omega (arith, ties-one-more side before v, waited ∙ ap (λ (w : ℕ). waits (tied_at side w)) visit-first, so_far.waiting);
        swept = so_far.swept
            ∙ sym (visited-skip (nearest_of side) side v before (rw so_far.swept at stays));
      }

  pub visits-kept : Stays → tied_at side (vertex_word side block v) ≡ false → Visits side before (v + 1) changed ties block
  visits-kept stays untied =
      let none : ties + 0 ≡ ties = omega arith in
      rw none at (visits-stays stays {tie = 0} (sym (ap waits untied)))

-- after the last vertex
pub visits-sweep : {side : Side} {before : List ℕ} {v changed ties : ℕ} {block : List ℕ} → Visits side before v changed ties block
    → v ≡ side.n → SideSwept side before (record { changed = changed; ties = ties }) block
unfolding sweep
visits-sweep {side} {before} all end =
    record {
      counted = all.counted ∙ ap (λ (m : ℕ). changed_by side m before) end;
      waiting = all.waiting ∙ ap (λ (m : ℕ). ties_by side m before) end;
      leaves = all.swept ∙ ap (λ (m : ℕ). visited (nearest_of side) side m before) end;
    }

pub ready-whole : {sheet : List ℕ} {n : ℕ} {wiring finder : List ℕ} → SideReady sheet n wiring finder → (name : SideName)
    → Whole (n * degree sheet) (side_by sheet n wiring name)
ready-whole ready name =
    record { degree-pos = ready.fits.d-low; entries = refl; bit-lt = side-lt ready.permuted name; bit-once = side-once ready.permuted name }

-- the entries of a vertex
pub ready-vertex : {sheet : List ℕ} {n : ℕ} {wiring finder : List ℕ} → SideReady sheet n wiring finder → {v : ℕ} → v < n
    → v * degree sheet + degree sheet ≤ 32768
ready-vertex {sheet} {n} ready {v} below = omega (arith, fitted-vertex ready.fits v below, ready.fits.sized, fitted-edges ready.fits)

-- ---- a vertex's word as the code has it, and what the finder says of it

-- a left vertex's word as the finder tests it: the wiring does not matter, and so no more than the sheet need be known
pub left-tells : {sheet finder : List ℕ} → Finds sheet finder → (n : ℕ) (wiring block : List ℕ) (v : ℕ) {d word : ℕ} {r : Bool} → d ≡ degree sheet
    → word ≡ word_at block (v * d) d → Member finder word r → r ≡ satisfied (side_by sheet n wiring left) block v
unfolding satisfied vertex_word word_at side_bit
left-tells {sheet} finds n wiring block v d-is read member =
    let word-is = read ∙ ap (λ (x : ℕ). word_at block (v * x) x) d-is in
    member.tells sheet finds (rw word-is (vertex-lt (side_by sheet n wiring left) block v)) ∙ ap (is_codeword (row_of sheet) (row_count sheet)) word-is

-- as a checked plan has it
pub left-read : (plan : Plan) (block : List ℕ) (v : ℕ) {d word : ℕ} → d ≡ degree plan.left_sheet
    → word ≡ word_at block (v * d) d → word ≡ vertex_word (side_of plan left) block v
unfolding vertex_word word_at side_bit
left-read plan block v d-is read = read ∙ ap (λ (x : ℕ). word_at block (v * x) x) d-is

module _ {sheet : List ℕ} {n : ℕ} {wiring finder : List ℕ} (ready : SideReady sheet n wiring finder) (name : SideName) (block : List ℕ)
    {v word : ℕ} (below : v < n) (word-is : word ≡ vertex_word (side_by sheet n wiring name) block v) where
  abbrev side : Side
  side = side_by sheet n wiring name

  pub word_lt : word < 2 ^ degree sheet
  word_lt = rw word-is (vertex-lt side block v)

  module _ {r : Bool} (member : Member finder word r) where
    abbrev ok : Sound sheet
    ok = sound sheet [] ready.finds.accepted

    pub word-tells : r ≡ is_codeword (row_of sheet) (row_count sheet) (vertex_word side block v)
    word-tells = member.tells sheet ready.finds word_lt ∙ ap (is_codeword (row_of sheet) (row_count sheet)) word-is

    -- a codeword stays and is no tie
    pub word-stays : r ≡ true → nearest_of side (vertex_word side block v) ≡ vertex_word side block v
    word-stays e = nearest-fixed _ _ _ ok.degree-high ok.rows-lt _ (sym word-tells ∙ e)

    pub word-untied : r ≡ true → tied_at side (vertex_word side block v) ≡ false
    word-untied e = untied-codeword _ _ _ ok.degree-high ok.rows-lt _ (sym word-tells ∙ e)

    -- any other word is a tie exactly if its step changes nothing
    pub word-waits : {step : Step} {after : List ℕ} {tie : ℕ} → Found sheet word step after → r ≡ false → tie ≡ waits (eqb step.changed 0)
        → tie ≡ waits (tied_at side (vertex_word side block v))
    word-waits found e told =
        told ∙ ap waits (ap (λ (x : ℕ). eqb x 0) (found.counted ∙ ap (changed_at side) word-is)
        ∙ changed-tied _ _ _ ok.degree-high ok.rows-lt _ (vertex-lt side block v) (sym word-tells ∙ e))

    -- the same where the bits that are changed are told
    pub visit-waits : r ≡ false → {bits tie : ℕ} → bits ≡ changed_at side (vertex_word side block v) → tie ≡ waits (eqb bits 0)
        → tie ≡ waits (tied_at side (vertex_word side block v))
    visit-waits e counted told =
        told ∙ ap waits (ap (λ (x : ℕ). eqb x 0) counted
        ∙ changed-tied _ _ _ ok.degree-high ok.rows-lt _ (vertex-lt side block v) (sym word-tells ∙ e))

  module _ {step : Step} {after : List ℕ} (found : Found sheet word step after) where
    pub word-found : step.word ≡ nearest_of side (vertex_word side block v)
    word-found = found.nearest ∙ ap (nearest_of side) word-is

    pub word-counted : step.changed ≡ changed_at side (vertex_word side block v)
    word-counted = found.counted ∙ ap (changed_at side) word-is

    pub found_lt : step.word < 2 ^ degree sheet
    found_lt =
        let s = sound sheet [] ready.finds.accepted in
        rw word-found (nearest-lt _ _ _ s.degree-high s.rows-lt _ (vertex-lt side block v))

    -- the pattern that leads from one word to the other
    pub pattern_lt : bit_xor word step.word < 2 ^ degree sheet
    pattern_lt = xor_lt (degree sheet) word step.word word_lt found_lt

  -- the pattern put on the vertex's bits puts the other word there
  pub word-put : (mended : ℕ) {after : List ℕ}
      → after ≡ pattern_put (side_bit name wiring) (degree sheet) (v * degree sheet) (bit_xor word mended) (degree sheet) block
      → after ≡ with_word side v mended block
  word-put mended e =
      e ∙ pattern-word (ready-whole ready name) v below (bit_xor word mended) block
      ∙ ap (λ (x : ℕ). with_word side v x block)
      (ap (λ (x : ℕ). bit_xor (vertex_word side block v) (bit_xor x mended)) word-is ∙ xor-cancel (vertex_word side block v) mended)

-- the sheet of a side has its first byte
pub ready-sheet : {sheet : List ℕ} {n : ℕ} {wiring finder : List ℕ} → SideReady sheet n wiring finder → 0 < length sheet
ready-sheet {sheet} ready = fitted-sheet sheet ready.fits

-- ---- the sides of a checked plan

-- what the finder of a side is set up from, with the side as its check has told it
pub side-preparable : (plan : Plan) → plan_check plan ≡ done [] → (name : SideName) {code : SideCode} → code ≡ code_of plan name → {finder : List ℕ}
    → finder ≡ replicate 4640 0 → Preparable (sheet_of plan name) code.k code.basis finder
side-preparable plan accepted name held zeros =
    record {
      accepted = sound-accepted (sheet_of plan name) ((plan-sound plan accepted).0 name);
      rows = ap (λ (x : SideCode). x.k) held;
      echelon = ap (λ (x : SideCode). x.basis) held;
      zeros = zeros;
    }

pub ready-side : (plan : Plan) → plan_check plan ≡ done [] → (name : SideName) {finder : List ℕ} → Finds (sheet_of plan name) finder
    → SideReady (sheet_of plan name) (count_of plan name) plan.wiring finder
ready-side plan accepted name finds =
    let w = (plan-sound plan accepted).1 in
    record { fits = side-fits plan w name; permuted = rw (side-edges plan w name) w.permuted; finds = finds }

-- a finder that is used still finds, and the other one is not touched
module _ {plan : Plan} {l r : List ℕ} (ready : Ready plan l r) {after : List ℕ} where
  pub ready-left-swept : Finds plan.left_sheet after → Ready plan after r
  ready-left-swept finds =
      record { plan-done = ready.plan-done; left-finds = finds; right-finds = ready.right-finds; shared = ready.shared }

  pub ready-right-swept : length after ≡ length r → (length r ≡ 0 → ⊥) → Finds plan.right_sheet after → Ready plan l after
  ready-right-swept kept some finds =
      record {
        plan-done = ready.plan-done;
        left-finds = ready.left-finds;
        right-finds = λ _. finds;
        shared = λ none. absurd (some (sym kept ∙ none));
      }

  -- the left finder serves the right side
  pub ready-shared-swept : length r ≡ 0 → Finds plan.right_sheet after → Ready plan after r
  ready-shared-swept none finds = ready-left-swept (rw (ready.shared none) finds)

pub ready-shared : {plan : Plan} {l r : List ℕ} → Ready plan l r → length r ≡ 0 → Finds plan.right_sheet l
ready-shared ready none = rw (ready.shared none) at ready.left-finds

pub visits-length : {side : Side} {before : List ℕ} {v changed ties : ℕ} {block : List ℕ} → Visits side before v changed ties block
    → length block ≡ length before
visits-length {side} {before} {v} all = ap length all.swept ∙ length-visited (nearest_of side) side v before
