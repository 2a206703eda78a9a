-- One sweep as visits make it, of all vertices or of those with news: what is kept goes with the block, and the vertices of the other side that hear
-- of a changed bit are marked.
--   Visits side before v changed ties block   the first v vertices of a side are visited (Visiting)
--   VisitedAt, Hears, Listening, NewsSwept    one visit, what a side that is to be swept knows, and a sweep by news (specs Sweeping, words specs Marks)
--   NewsTold, mark_at, news_of                  the marks of a side (words specs Marks)
--   Round plan name before v changed ties block kept   the first v vertices of a side are visited, and what is kept goes with it
--   NewsRound plan name before kept₀ p changed visits block kept   the vertices below p that had news are visited: it is as if all had been
-- Laws are named by their subject, then by the fact: `hears-` is about a vertex without news, `round-` about visits so far, `news-round-` about visits
-- of vertices with news so far, `scan-` about the marks of sixteen vertices as a number whose ones are taken off from the highest on.
use Rattle.std.proofs.Common.{ℕ, zero, suc, ◌+◌, ◌-◌, ◌*◌, ◌/◌, ◌%◌, ◌^◌, ◌≤◌, ◌<◌, min, Bool, true, false, true≢false, List, [], ◌≡◌, refl}
use Rattle.std.proofs.Common.{sym, ap, ap₂, ◌∙◌, le_refl, pow-suc, add-one, arith, bit_xor, length, set, length-set}
use mathlib.Mathlib.Data.Bool.Basic.{eq-false_of_not-eq-true}
use native.Mathlib.Decide.{dec_le}
use native.Mathlib.Nat.{min-eq_left, min-eq_right}
use lib.Bits.{xor_zero_l}
use Rattle.bits.specs.Bit.{digit}
use Rattle.bits.specs.Sum.{sum}
use Rattle.bits.specs.Window.{at}
use Rattle.bits.proofs.Sums.{sum-zero, sum-one-more, sum_mono, sum-const}
use Rattle.bits.proofs.Tests.{flag-zero}
use Rattle.bits.proofs.Xor.{digit-high, digit-zero, digit-upper, digit-pow-same, digit-pow-other}
use Rattle.inner_code.specs.Reply.{done}
use Rattle.inner_code.specs.Sheet.{degree}
use Rattle.inner_code.specs.declared.nearest.Step.{Step}
use Rattle.inner_code.proofs.NearestWord.{changed-none-back}
use Rattle.finder.specs.Finding.{codeword_by, Finds, Found}
use Rattle.finder.proofs.Finding.{Member, member-means}
use Rattle.wiring.specs.Plan.{Plan, Side, sheet_of, count_of, side_of, left, right, other}
use Rattle.wiring.specs.Wiring.{plan_check}
use Rattle.wiring.specs.Block.{vertex_word, with_word, satisfied, is_codeword_block}
use Rattle.wiring.specs.declared.side.SideName.{SideName}
use Rattle.wiring.proofs.CodewordBlocks.{codeword-block-each, codeword-block-back}
use Rattle.bits.proofs.Lists.{at_set_other}
use Rattle.wiring.proofs.Sides.{other-twice, sheet-for}
use Rattle.wiring.proofs.VertexWords.{with_word-fixed, heard-back, vertex-lt}
use Rattle.sweeps.specs.Sweeping.{nearest_of, tied_at, ties_by, SideReady, VisitedAt, Hears, NewsSwept}
use Rattle.words.specs.Words.{WordsRead}
use Rattle.words.specs.Marks.{news_of, mark_at, NewsTold, Listening, PutAt}
use Rattle.words.proofs.Patterns.{digit-below}
use Rattle.wiring.proofs.Plans.{plan-fits, plan-whole}
use Rattle.words.proofs.Marks.{mark-le, mark-ext, mark-off, marks-low, marks-apart, news-ext, news-silent}
use Rattle.words.proofs.Putting.{kept_same}
use Rattle.sweeps.proofs.Visiting.{ready-side, word-tells, word-stays, word-counted, word-found, word-put, pattern_lt}
use Rattle.sweeps.proofs.Visiting.{Visits, waits, visits-none, visits-changed, visits-kept, visits-stays, visits-ties, visits-le, visits-sweep, visit-first}
use Rattle.wiring.specs.Access.{sheet_for}
use Rattle.sweeps.proofs.Visiting.{Visits, waits, visits-none, visits-changed, visits-kept, visits-stays, visits-ties, visits-le, visits-sweep, visit-first}

pub record Round (plan : Plan) (name : SideName) (before : List ℕ) (v changed ties : ℕ) (block kept : List ℕ) : Type 0 where
  pub visits : Visits (side_of plan name) before v changed ties block
  pub reads : WordsRead (side_of plan right) block kept
  pub news : NewsTold plan (other name) before block kept

module _ {plan : Plan} {name : SideName} {before : List ℕ} where
  pub round-start : {since kept : List ℕ} → Listening plan name since before kept → Round plan name before 0 0 0 before kept
  round-start listening = record { visits = visits-none; reads = listening.reads; news = listening.silent }

  -- one more vertex is visited
  pub round-visited : plan_check plan ≡ done [] → {v changed ties bits tie : ℕ} {block kept after told : List ℕ} → v < count_of plan name
      → Round plan name before v changed ties block kept → VisitedAt plan name v bits block kept after told
      → tie ≡ waits (tied_at (side_of plan name) (vertex_word (side_of plan name) block v))
      → Round plan name before (v + 1) (changed + bits) (ties + tie) after told
  round-visited accepted below r visit waited =
      let w = plan-whole plan accepted name in
      record {
        visits = visits-changed w below r.visits refl visit.counted waited visit.leaves;
        reads = visit.keeps.reads;
        news = visit.keeps.tells before (sym (visit-first w below r.visits)) r.news;
      }

  -- one more reads a codeword and is passed over
  pub round-kept : plan_check plan ≡ done [] → {v changed ties : ℕ} {block kept : List ℕ} → v < count_of plan name
      → Round plan name before v changed ties block kept
      → nearest_of (side_of plan name) (vertex_word (side_of plan name) block v) ≡ vertex_word (side_of plan name) block v
      → tied_at (side_of plan name) (vertex_word (side_of plan name) block v) ≡ false → Round plan name before (v + 1) changed ties block kept
  round-kept accepted below r stays untied =
      record { visits = visits-kept (plan-whole plan accepted name) below r.visits stays untied; reads = r.reads; news = r.news }

  -- all are
  pub round-listening : plan_check plan ≡ done [] → {v changed ties : ℕ} {block kept : List ℕ} → Round plan name before v changed ties block kept
      → ((u : ℕ) → u < 2048 → mark_at kept (news_of name) u ≡ 0) → Listening plan (other name) before block kept
  round-listening accepted {block = block} {kept} r clear =
      record {
        reads = r.reads;
        news = r.news;
        silent = ap-side (sym (other-twice name));
      }
    where
      ap-side : {side : SideName} → name ≡ side → NewsTold plan side block block kept
      ap-side e = rw e at (news-silent {plan = plan} clear (plan-fits plan accepted name).n-high block)

-- ---- one visit

-- what `nearest_on` asks of a finder and of the word that a vertex reads
pub nearest-asked : (plan : Plan) (name : SideName) {finder : List ℕ} → Finds (sheet_of plan name) finder → (block : List ℕ) (v : ℕ) {word : ℕ}
    → word ≡ vertex_word (side_of plan name) block v
    → let sheet = sheet_for name plan.left_sheet plan.right_sheet in Finds sheet finder × (word < 2 ^ degree sheet)
nearest-asked plan name finds block v is = rw (sheet-for plan name) (finds, rw is (vertex-lt (side_of plan name) block v))

module _ (plan : Plan) (accepted : plan_check plan ≡ done []) (name : SideName) {finder : List ℕ} (finds : Finds (sheet_of plan name) finder)
    (block kept : List ℕ) {v word : ℕ} (below : v < count_of plan name) (word-is : word ≡ vertex_word (side_of plan name) block v) where
  abbrev ready : SideReady (sheet_of plan name) (count_of plan name) plan.wiring finder
  ready = ready-side plan accepted name finds

  -- a codeword stays
  pub visit-codeword : {r : Bool} → Member finder word r → r ≡ true → WordsRead (side_of plan right) block kept
      → VisitedAt plan name v 0 block kept block kept
  visit-codeword member e reads =
      let stays = word-stays ready name block below word-is member e in
      record {
        counted = sym (changed-none-back _ _ _ _ stays);
        leaves = sym (ap (λ (x : ℕ). with_word (side_of plan name) v x block) stays ∙ with_word-fixed (side_of plan name) block v);
        keeps = kept_same reads;
      }

  module _ {step : Step} {after : List ℕ} (found : Found (sheet_of plan name) word step after) where
    pub visit-low : bit_xor word step.word < 2 ^ degree (sheet_of plan name)
    visit-low = pattern_lt ready name block below word-is found

    -- any other word takes its nearest one
    pub visit-put : {left_over told : List ℕ} → PutAt plan name v (bit_xor word step.word) block kept left_over told
        → VisitedAt plan name v step.changed block kept left_over told
    visit-put put =
        record {
          counted = word-counted ready name block below word-is found;
          leaves = word-put ready name block below word-is step.word put.puts
              ∙ ap (λ (x : ℕ). with_word (side_of plan name) v x block) (word-found ready name block below word-is found);
          keeps = put.keeps;
        }

-- ---- both sides tested

-- a vertex that reads no codeword
pub satisfied-not : (sides : SideName → Side) (block : List ℕ) (name : SideName) (v : ℕ) → v < (sides name).n → satisfied (sides name) block v ≡ false
    → is_codeword_block sides block ≡ false
satisfied-not sides block name v l e = eq-false_of_not-eq-true (λ q. true≢false (sym (codeword-block-each sides block q name v l) ∙ e))

-- the left side is satisfied, and the words kept of the right side tell the rest
pub satisfied-both : (plan : Plan) → plan_check plan ≡ done [] → (block : List ℕ)
    → ((v : ℕ) → v < plan.nl → satisfied (side_of plan left) block v ≡ true) → {kept finder : List ℕ} → WordsRead (side_of plan right) block kept
    → Finds plan.right_sheet finder → (r : Bool)
    → (r ≡ true → (v : ℕ) → v < plan.nr → codeword_by finder (at kept v) ≡ true)
    → (r ≡ false → (v : ℕ) × (v < plan.nr) × (codeword_by finder (at kept v) ≡ false))
    → r ≡ is_codeword_block (side_of plan) block
unfolding satisfied
satisfied-both plan accepted block lefts {kept} {finder} reads finds true all one =
    sym (codeword-block-back (side_of plan) block (both (λ v l. sym (tests v l) ∙ all refl v l)))
  where
    tests : (v : ℕ) → v < plan.nr → codeword_by finder (at kept v) ≡ satisfied (side_of plan right) block v
    tests v l = word-tells (ready-side plan accepted right finds) right block l (reads.each v l) (member-means finder (at kept v) refl)

    both : ((v : ℕ) → v < plan.nr → satisfied (side_of plan right) block v ≡ true) → (name : SideName) (v : ℕ) → v < count_of plan name
        → satisfied (side_of plan name) block v ≡ true
    both rights SideName.Left v l = lefts v l
    both rights SideName.Right v l = rights v l
satisfied-both plan accepted block lefts {kept} {finder} reads finds false all one =
    let (v, l, missed) = one refl in
    let tests = word-tells (ready-side plan accepted right finds) right block l (reads.each v l) (member-means finder (at kept v) refl) in
    sym (satisfied-not (side_of plan) block right v l (sym tests ∙ missed))

-- ---- vertices without news

-- such a vertex reads its own nearest word
hears-stays : {plan : Plan} {name : SideName} {block kept : List ℕ} → Hears plan name block kept → (v : ℕ) → v < count_of plan name
    → mark_at kept (news_of name) v ≡ 0 → nearest_of (side_of plan name) (vertex_word (side_of plan name) block v) ≡ vertex_word (side_of plan name) block v
hears-stays {plan} {name} {block} h v l none =
    let same = heard-back (side_of plan name) h.since block v (flag-zero _ (sym (h.listening.news.each v l) ∙ none)) in
    ap (nearest_of (side_of plan name)) same ∙ h.stays v l ∙ sym same

-- ---- visits of vertices with news

pub record NewsRound (plan : Plan) (name : SideName) (before kept₀ : List ℕ) (p changed visits : ℕ) (block kept : List ℕ) : Type 0 where
  pub so_far : Round plan name before (min p (count_of plan name)) changed (ties_by (side_of plan name) (min p (count_of plan name)) before) block kept
  pub seen : visits ≡ sum (min p (count_of plan name)) (λ v. mark_at kept₀ (news_of name) v)

module _ {plan : Plan} {name : SideName} {before kept₀ : List ℕ} (accepted : plan_check plan ≡ done []) (h : Hears plan name before kept₀) where
  abbrev side : Side
  side = side_of plan name

  abbrev n : ℕ
  n = count_of plan name

  abbrev At : ℕ → ℕ → ℕ → List ℕ → List ℕ → Type 0
  At p changed visits block kept = NewsRound plan name before kept₀ p changed visits block kept

  pub news-round-start : At 0 0 0 before kept₀
  news-round-start =
      let none : min 0 n ≡ 0 = min-eq_left (omega arith) in
      let begin = round-start h.listening in
      record {
        so_far = rw none (record { visits = visits-ties begin.visits; reads = begin.reads; news = begin.news });
        seen = rw none (sym (sum-zero (λ v. mark_at kept₀ (news_of name) v)));
      }

  -- a vertex without news is passed over
  news-round-pass : {p changed visits : ℕ} {block kept : List ℕ} → p < 2048 → mark_at kept₀ (news_of name) p ≡ 0 → At p changed visits block kept
      → At (p + 1) changed visits block kept
  news-round-pass {p} {changed} {visits} {block} {kept} few none r =
      elim (dec_le n p) [
        | yes past ↦
            let here : min p n ≡ n = min-eq_right past in
            let next : min (p + 1) n ≡ n = min-eq_right (omega arith) in
            let same : min p n ≡ min (p + 1) n = here ∙ sym next in
            record { so_far = rw same at r.so_far; seen = rw same at r.seen }
        | no within ↦
            let here : min p n ≡ p = min-eq_left (omega arith) in
            let next : min (p + 1) n ≡ p + 1 = min-eq_left (omega arith) in
            let now-at : Round plan name before p changed (ties_by side p before) block kept = rw here at r.so_far in
            let seen_at : visits ≡ sum p (λ v. mark_at kept₀ (news_of name) v) = rw here at r.seen in
            let below : p < n = omega arith in
            let w = plan-whole plan accepted name in
            let first = visit-first w below now-at.visits in
            let stays = ap (nearest_of side) first ∙ hears-stays h p below none ∙ sym first in
            record {
              so_far = rw next (record {
                visits = visits-ties (visits-stays w below now-at.visits stays refl);
                reads = now-at.reads;
                news = now-at.news;
              });
              seen = rw next (omega (arith, seen_at, sum-one-more p (λ v. mark_at kept₀ (news_of name) v), none));
            }
      ]

  -- so are several
  news-round-run : (k : ℕ) {p changed visits : ℕ} {block kept : List ℕ} → p + k ≤ 2048
      → ((u : ℕ) → p ≤ u → u < p + k → mark_at kept₀ (news_of name) u ≡ 0) → At p changed visits block kept → At (p + k) changed visits block kept
  news-round-run zero {p} {changed} {visits} {block} {kept} few none r =
      let same : p ≡ p + 0 = omega arith in
      rw same at r
  news-round-run (suc k) {p} {changed} {visits} {block} {kept} few none r =
      let same : p + k + 1 ≡ p + suc k = omega arith in
      rw same at (news-round-pass (omega arith) (none (p + k) (omega arith) (omega arith))
      (news-round-run k (omega arith) (λ u l m. none u l (omega arith)) r))

  -- a vertex with news is visited
  news-round-visited : {p changed visits bits : ℕ} {block kept after told : List ℕ} → p < n → mark_at kept₀ (news_of name) p ≡ 1
      → At p changed visits block kept → VisitedAt plan name p bits block kept after told → At (p + 1) (changed + bits) (visits + 1) after told
  news-round-visited {p} {changed} {visits} {bits} {block} {kept} {after} {told} below mark r visit =
      let here : min p n ≡ p = min-eq_left (omega arith) in
      let next : min (p + 1) n ≡ p + 1 = min-eq_left (omega arith) in
      let now-at : Round plan name before p changed (ties_by side p before) block kept = rw here at r.so_far in
      let seen_at : visits ≡ sum p (λ v. mark_at kept₀ (news_of name) v) = rw here at r.seen in
      let more = round-visited accepted below now-at visit refl in
      record {
        so_far = rw next (record { visits = visits-ties more.visits; reads = more.reads; news = more.news });
        seen = rw next (omega (arith, seen_at, sum-one-more p (λ v. mark_at kept₀ (news_of name) v), mark));
      }

  -- what is kept changes elsewhere than in the right words and the other side's marks
  news-round-kept : {p changed visits : ℕ} {block kept told : List ℕ} → At p changed visits block kept → WordsRead (side_of plan right) block told
      → NewsTold plan (other name) before block told → At p changed visits block told
  news-round-kept r reads news =
      record { so_far = record { visits = r.so_far.visits; reads = reads; news = news }; seen = r.seen }

  -- how many bits have changed, and how many vertices are visited, at most
  pub news-round-changed : {p changed visits : ℕ} {block kept finder : List ℕ} → Finds (sheet_of plan name) finder → At p changed visits block kept
      → changed ≤ 32768
  news-round-changed finds r = visits-le (ready-side plan accepted name finds) name (omega arith) r.so_far.visits

  pub news-round-few : {p changed visits : ℕ} {block kept : List ℕ} → At p changed visits block kept → visits ≤ 2048
  news-round-few {p} r =
      omega (
        arith,
        r.seen,
        sum_mono (min p n) _ (λ v. 1) (λ v l. mark-le kept₀ (news_of name) v),
        sum-const (min p n) 1,
        (plan-fits plan accepted name).n-high,
      )

  -- all are passed
  pub news-round-end : {p changed visits : ℕ} {block kept : List ℕ} → n ≤ p → At p changed visits block kept
      → ((u : ℕ) → u < 2048 → mark_at kept (news_of name) u ≡ 0)
      → NewsSwept plan name before kept₀ (record { changed = changed; visits = visits }) block kept
  news-round-end {p} {changed} {visits} {block} {kept} past r clear =
      let all : min p n ≡ n = min-eq_right past in
      let end : Round plan name before n changed (ties_by side n before) block kept = rw all at r.so_far in
      record {
        swept = visits-sweep end.visits refl;
        visited = rw all at r.seen;
        listening = round-listening accepted end clear;
      }

  -- the marks of all vertices that there are, sixteen to a number, are taken off
  pub news-round-clear : (kept : List ℕ) (numbers : ℕ) → n ≤ 16 * numbers → ((j : ℕ) → j < numbers → at kept (news_of name + j) ≡ 0)
      → ((j : ℕ) → numbers ≤ j → j < 128 → at kept (news_of name + j) ≡ at kept₀ (news_of name + j))
      → (u : ℕ) → u < 2048 → mark_at kept (news_of name) u ≡ 0
  news-round-clear kept numbers past off same u l =
      elim (dec_le numbers (u / 16)) [
        | yes beyond ↦
            mark-ext kept₀ kept (news_of name) u (same (u / 16) beyond (omega arith)) ∙ h.listening.news.none u (omega arith) l
        | no within ↦ mark-off kept (news_of name) u (off (u / 16) (omega arith))
      ]

-- ---- sixteen marks as a number, of which the ones at and above some digit are taken off

pub record Scan (marks i p rest : ℕ) : Type 0 where
  pub low : 16 * i ≤ p
  pub high : p ≤ 16 * i + 16
  pub small : (g : ℕ) → g < 16 → 2 ^ g ≤ rest → g < 16 * i + 16 - p
  pub digits : (g : ℕ) → g < 16 * i + 16 - p → digit rest g ≡ digit marks g

module _ (kept : List ℕ) (from i : ℕ) where
  -- the mark of a vertex is a digit
  scan-mark : (u : ℕ) → 16 * i ≤ u → u < 16 * i + 16 → mark_at kept from u ≡ digit (at kept (from + i)) (16 * i + 15 - u)
  unfolding mark_at
  scan-mark u low high =
      let upper : u / 16 ≡ i = omega arith in
      let lower : 15 - u % 16 ≡ 16 * i + 15 - u = omega arith in
      ap₂ (λ (x g : ℕ). digit (at kept (from + x)) g) upper lower

  scan-start : Scan (at kept (from + i)) i (16 * i) (at kept (from + i))
  scan-start = record { low = le_refl _; high = omega arith; small = λ g few low. omega arith; digits = λ g l. refl }

  module _ {p rest : ℕ} (s : Scan (at kept (from + i)) i p rest) where
    -- no one is left
    scan-none : rest ≡ 0 → (u : ℕ) → p ≤ u → u < 16 * i + 16 → mark_at kept from u ≡ 0
    scan-none none u l h =
        scan-mark u (omega (arith, s.low)) h ∙ sym (s.digits (16 * i + 15 - u) (omega arith))
        ∙ ap (λ (x : ℕ). digit x (16 * i + 15 - u)) none ∙ digit-zero (16 * i + 15 - u)

    module _ (g : ℕ) (low : 2 ^ g ≤ rest) (high : rest < 2 ^ (g + 1)) (few : g < 16) where
      scan-within : g < 16 * i + 16 - p
      scan-within = s.small g few low

      -- the next vertex with news
      abbrev next : ℕ
      next = 16 * i + (15 - g)

      scan-next : (p ≤ next) × (next < 16 * i + 16)
      scan-next = (omega (arith, scan-within, s.low, s.high), omega arith)

      -- those before it have none
      scan-skips : (u : ℕ) → p ≤ u → u < next → mark_at kept from u ≡ 0
      scan-skips u l h =
          let above : g + 1 ≤ 16 * i + 15 - u = omega (arith, scan-within, s.low) in
          scan-mark u (omega (arith, s.low)) (omega arith) ∙ sym (s.digits (16 * i + 15 - u) (omega (arith, s.high)))
          ∙ digit-high (g + 1) rest (16 * i + 15 - u) high above

      left_over : rest ≡ 2 ^ g + (rest - 2 ^ g)
      left_over = omega (arith, low)

      left-small : rest - 2 ^ g < 2 ^ g
      left-small = omega (arith, rw add-one at high, pow-suc 2 g)

      scan-marked : mark_at kept from next ≡ 1
      scan-marked =
          let at_g : 16 * i + 15 - next ≡ g = omega (arith, few) in
          scan-mark next (omega arith) (omega arith) ∙ ap (digit (at kept (from + i))) at_g ∙ sym (s.digits g scan-within)
          ∙ ap (λ (x : ℕ). digit x g) left_over ∙ digit-upper g (rest - 2 ^ g) g left-small
          ∙ ap₂ bit_xor (digit-pow-same 1 g (omega arith)) (digit-high g (rest - 2 ^ g) g left-small (le_refl g))

      -- it is taken off
      scan-more : {power : ℕ} → power ≡ 2 ^ g → Scan (at kept (from + i)) i (next + 1) (rest - power)
      scan-more {power} is =
          let fewer : 16 * i + 16 - (next + 1) ≡ g = omega (arith, few) in
          record {
            low = omega arith;
            high = omega arith;
            small = λ j l below. rw fewer (digit-below j (rest - power) g below (rw is left-small));
            digits = λ j l.
                let below : j < g = omega (arith, fewer) in
                sym (sym (s.digits j (omega (arith, scan-within)))
                ∙ ap (λ (x : ℕ). digit x j) left_over ∙ digit-upper g (rest - 2 ^ g) j left-small
                ∙ ap (λ (x : ℕ). bit_xor x (digit (rest - 2 ^ g) j)) (digit-pow-other 1 g j (omega arith) (λ e. omega arith))
                ∙ xor_zero_l (digit (rest - 2 ^ g) j) ∙ ap (λ (x : ℕ). digit (rest - x) j) (sym is));
          }

-- ---- the visits of sixteen vertices so far

pub record NewsScan (plan : Plan) (name : SideName) (before kept₀ : List ℕ) (i changed visits : ℕ) (block kept : List ℕ) (rest : ℕ) : Type 0 where
  pub reached : ℕ
  pub round : NewsRound plan name before kept₀ reached changed visits block kept
  pub scan : Scan (at kept₀ (news_of name + i)) i reached rest

module _ {plan : Plan} {name : SideName} {before kept₀ : List ℕ} (accepted : plan_check plan ≡ done []) (h : Hears plan name before kept₀) {i : ℕ}
    (few : i < 128) where
  -- the sixteen marks are taken off the list
  pub news-scan-start : {changed visits rest : ℕ} {block kept told : List ℕ} → NewsRound plan name before kept₀ (16 * i) changed visits block kept
      → told ≡ set kept (news_of name + i) 0 → rest ≡ at kept₀ (news_of name + i)
      → NewsScan plan name before kept₀ i changed visits block told rest
  news-scan-start {block = block} {kept} {told} r tells is =
      record {
        reached = 16 * i;
        round = news-round-kept accepted h r
            (record {
              sized = ap length tells ∙ length-set kept (news_of name + i) 0 ∙ r.so_far.reads.sized;
              room = r.so_far.reads.room;
              each = λ u l.
                  ap (λ (k : List ℕ). at k u) tells
                  ∙ at_set_other kept (news_of name + i) u 0 (λ e. omega (arith, marks-low name, (plan-fits plan accepted right).n-high))
                  ∙ r.so_far.reads.each u l;
            })
            (news-ext r.so_far.news
            (λ j l.
            ap (λ (k : List ℕ). at k (news_of (other name) + j)) tells
            ∙ at_set_other kept (news_of name + i) (news_of (other name) + j) 0 (λ e. marks-apart name i j few l (sym e)))
            (plan-fits plan accepted (other name)).n-high);
        scan = rw is (scan-start kept₀ (news_of name) i);
      }

  module _ {changed visits rest : ℕ} {block kept : List ℕ} (s : NewsScan plan name before kept₀ i changed visits block kept rest) where
    -- no one is left
    pub news-scan-end : rest ≡ 0 → NewsRound plan name before kept₀ (16 * (i + 1)) changed visits block kept
    news-scan-end none =
        let k : ℕ = 16 * i + 16 - s.reached in
        let last : s.reached + k ≡ 16 * (i + 1) = omega (arith, s.scan.high) in
        rw last at (news-round-run accepted h k (omega (arith, s.scan.high))
        (λ u l m. scan-none kept₀ (news_of name) i s.scan none u l (omega (arith, s.scan.high))) s.round)

    module _ (g : ℕ) (low : 2 ^ g ≤ rest) (high : rest < 2 ^ (g + 1)) (small : g < 16) where
      -- the next vertex with news
      pub news-scan-vertex : 16 * i + (15 - g) < count_of plan name
      news-scan-vertex =
          let v : ℕ = 16 * i + (15 - g) in
          let marked-now = scan-marked kept₀ (news_of name) i s.scan g low high small in
          elim (dec_le (count_of plan name) v) [
            | yes past ↦ absurd (omega (arith, marked-now, h.listening.news.none v past (omega arith)))
            | no within ↦ omega arith
          ]

      pub news-scan-more : {bits power : ℕ} {after told : List ℕ} → VisitedAt plan name (16 * i + (15 - g)) bits block kept after told → power ≡ 2 ^ g
          → NewsScan plan name before kept₀ i (changed + bits) (visits + 1) after told (rest - power)
      news-scan-more visit is =
          let v : ℕ = 16 * i + (15 - g) in
          let (ahead, within) = scan-next kept₀ (news_of name) i s.scan g low high small in
          let k : ℕ = v - s.reached in
          let there : s.reached + k ≡ v = omega (arith, ahead) in
          let at-v : NewsRound plan name before kept₀ v changed visits block kept =
          rw there at (news-round-run accepted h k (omega (arith, ahead))
          (λ u l m. scan-skips kept₀ (news_of name) i s.scan g low high small u l (omega (arith, ahead))) s.round) in
          record {
            reached = v + 1;
            round = news-round-visited accepted h news-scan-vertex (scan-marked kept₀ (news_of name) i s.scan g low high small) at-v visit;
            scan = scan-more kept₀ (news_of name) i s.scan g low high small is;
          }
