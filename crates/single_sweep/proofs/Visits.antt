-- Vertices visited in turn, and the true count as they are.
--   Visited plan side before v change block  the first v vertices of a side are visited (specs Telling)
--   missed side block v           1 where vertex v reads no inner codeword (unsatisfied Counting)
--   SideReady ..                  a side that fits its wiring, and a finder for it (sweeps specs Sweeping)
-- Laws are named `visited-`: `-none` at the start, `-kept` a vertex that stays, `-mended` one that takes another word, `-all` after the last;
-- `word-mended` says what becomes of a vertex that read no codeword, `side-few` and
-- `change-few` bound the numbers.
use Rattle.std.proofs.Common.{ℕ, ◌+◌, ◌-◌, ◌*◌, ◌^◌, ◌≤◌, ◌<◌, Bool, true, false, cond, not, List, [], ◌≡◌, refl, sym, ap, ap₂, ◌∙◌, arith}
use Rattle.std.proofs.Common.{eqb, length, eqb-true}
use Rattle.bits.specs.Sum.{flag}
use Rattle.bits.proofs.Sums.{flag_true, flag-false}
use Rattle.inner_code.specs.Code.{is_codeword}
use Rattle.inner_code.specs.Reply.{done}
use Rattle.inner_code.proofs.NearestWord.{nearest-codeword, changed-none, changed-tied}
use Rattle.inner_code.proofs.SheetChecks.{Sound}
use Rattle.finder.specs.Finding.{Finds}
use Rattle.finder.proofs.Finding.{Member}
use Rattle.wiring.specs.Plan.{Plan, Side, edge_count, sheet_of, count_of, side_of, left, other}
use Rattle.wiring.specs.Wiring.{plan_check}
use Rattle.wiring.specs.Block.{vertex_word, with_word}
use Rattle.wiring.specs.declared.side.SideName.{SideName}
use Rattle.wiring.proofs.Plans.{plan-sound, plan-whole, plan-fits}
use Rattle.wiring.proofs.VertexWords.{vertex-lt, with_word-same, with_word-other}
use Rattle.unsatisfied.specs.Count.{unsatisfied_at, unsatisfied_count, count_change}
use Rattle.unsatisfied.proofs.Counting.{missed, missed_word, missed-word, at-le, at_moved, change-is}
use Rattle.sweeps.specs.Sweep.{visited, sweep}
use Rattle.sweeps.specs.Sweeping.{nearest_of, changed_at, tied_at}
use Rattle.sweeps.proofs.Sweeping.{visited-one-more, visited-skip, length-visited}
use Rattle.single_sweep.specs.Telling.{Visited}
use Rattle.single_sweep.proofs.TurnedBits.{count-split}

-- the numbers that the code adds and takes away are in range
module _ (plan : Plan) (accepted : plan_check plan ≡ done []) where
  pub side-few : (name : SideName) (block : List ℕ) → unsatisfied_at (side_of plan name) block ≤ 2048
  side-few name block = omega (arith, at-le (side_of plan name) block, (plan-fits plan accepted name).n-high)

  both-few : (block : List ℕ) → unsatisfied_count (side_of plan) block ≤ 4096
  both-few block = omega (arith, count-split (side_of plan) left block, side-few left block, side-few (other left) block)

module _ (plan : Plan) (accepted : plan_check plan ≡ done []) (name : SideName) where
  abbrev side : Side
  side = side_of plan name

  pub visited-none : (before : List ℕ) → Visited plan name before 0 65536 before
  unfolding visited
  visited-none before = record { swept = refl; counted = refl }

  module _ {before block : List ℕ} {v change : ℕ} (so_far : Visited plan name before v change block) where
    pub visited-length : length block ≡ length before
    visited-length = ap length so_far.swept ∙ length-visited (nearest_of side) side v before

    pub change-few : change ≤ 69632
    change-few = omega (arith, so_far.counted, both-few plan accepted block)

    -- a vertex that reads its own nearest word stays
    pub visited-kept : nearest_of side (vertex_word side block v) ≡ vertex_word side block v → Visited plan name before (v + 1) change block
    visited-kept stays =
        record {
          swept = so_far.swept ∙ sym (visited-skip (nearest_of side) side v before (rw so_far.swept at stays));
          counted = so_far.counted;
        }

    -- one that takes another word changes the count of its own side by what becomes of it, and that of the other side by what was told there
    pub visited-mended : (told settled : ℕ) {x : ℕ} {after : List ℕ} → v < count_of plan name → x ≡ nearest_of side (vertex_word side block v)
        → after ≡ with_word side v x block
        → told + unsatisfied_at (side_of plan (other name)) block ≡ 65536 + unsatisfied_at (side_of plan (other name)) after
        → settled + missed side after v ≡ missed side block v
        → (65536 + settled ≤ change + told) × Visited plan name before (v + 1) (change + told - 65536 - settled) after
    visited-mended told settled {x} {after} below mapped puts tells settles =
        let own : unsatisfied_at side after + missed side block v ≡ unsatisfied_at side block + missed side after v =
        at_moved side block after v below
        (λ u l apart.
        ap (λ (b : List ℕ). vertex_word side b u) puts ∙ with_word-other (plan-whole plan accepted name) x block u v l below apart) in
        let now : unsatisfied_count (side_of plan) after ≡ unsatisfied_at side after + unsatisfied_at (side_of plan (other name)) after =
        count-split (side_of plan) name after in
        let was : unsatisfied_count (side_of plan) block ≡ unsatisfied_at side block + unsatisfied_at (side_of plan (other name)) block =
        count-split (side_of plan) name block in (
          omega (arith, own, now, was, tells, settles, so_far.counted, both-few plan accepted before, side-few plan accepted (other name) block),
          record {
            swept = puts
                ∙ ap₂ (λ (x : ℕ) (l : List ℕ). with_word side v x l)
                (mapped ∙ ap (λ (l : List ℕ). nearest_of side (vertex_word side l v)) so_far.swept) so_far.swept
                ∙ sym (visited-one-more (nearest_of side) side v before);
            counted = omega (arith, own, now, was, tells, settles, so_far.counted, both-few plan accepted before, side-few plan accepted (other name) block);
          },
        )

    pub visited-all : v ≡ count_of plan name → (change ≡ count_change (side_of plan) before block) × (block ≡ sweep side before)
    unfolding sweep
    visited-all end = (
      change-is (side_of plan) before block change so_far.counted,
      so_far.swept ∙ ap (λ (m : ℕ). visited (nearest_of side) side m before) end,
    )

  -- ---- a word that the finder takes for none is no codeword

  pub word-missed : {finder : List ℕ} {word : ℕ} {r : Bool} → Finds (sheet_of plan name) finder → Member finder word r → (block : List ℕ) (v : ℕ)
      → word ≡ vertex_word side block v → r ≡ false → is_codeword side.row side.k (vertex_word side block v) ≡ false
  word-missed finds member block v is e =
      sym (member.tells (sheet_of plan name) finds (rw is (vertex-lt side block v)) ∙ ap (is_codeword side.row side.k) is) ∙ e

  -- ---- what becomes of a vertex that read no codeword: it reads one, or it is a tie and stays

  module _ (block : List ℕ) (room : edge_count plan ≤ length block * 8) {v x changed : ℕ} {after : List ℕ} (below : v < count_of plan name)
      (unread : is_codeword side.row side.k (vertex_word side block v) ≡ false) (mapped : x ≡ nearest_of side (vertex_word side block v))
      (counted : changed ≡ changed_at side (vertex_word side block v)) (puts : after ≡ with_word side v x block) where
    abbrev ok : Sound (sheet_of plan name)
    ok = (plan-sound plan accepted).0 name

    abbrev word : ℕ
    word = vertex_word side block v

    reads : (low : x < 2 ^ side.d) → missed side after v ≡ missed_word side (nearest_of side word)
    reads low =
        missed-word side after v
        ∙ ap (missed_word side)
        (ap (λ (b : List ℕ). vertex_word side b v) puts ∙ with_word-same (plan-whole plan accepted name) x block v low room below ∙ mapped)

    pub word-mended : x < 2 ^ side.d → cond (eqb changed 0) 0 1 + missed side after v ≡ missed side block v
    word-mended low = go (tied_at side word) refl
      where
        tells : eqb changed 0 ≡ tied_at side word
        tells =
            ap (λ (c : ℕ). eqb c 0) counted
            ∙ changed-tied side.row side.k side.d ok.degree-high ok.rows-lt word (vertex-lt side block v) unread

        was : missed side block v ≡ 1
        was = missed-word side block v ∙ ap (λ (t : Bool). flag (not t)) unread ∙ flag_true

        go : (t : Bool) → tied_at side word ≡ t → cond (eqb changed 0) 0 1 + missed side after v ≡ missed side block v
        go true e =
            let same : nearest_of side word ≡ word = changed-none _ _ _ _ (sym counted ∙ eqb-true _ _ (tells ∙ e)) in
            rw (tells, e) (omega (arith, reads low ∙ ap (missed_word side) same ∙ sym (missed-word side block v)))
        go false e =
            let satisfied-now : is_codeword side.row side.k (nearest_of side word) ≡ true =
            nearest-codeword _ _ _ ok.degree-high ok.rows-lt word (vertex-lt side block v) e in
            rw (tells, e) (omega (arith, was, reads low ∙ ap (λ (t : Bool). flag (not t)) satisfied-now ∙ flag-false))
