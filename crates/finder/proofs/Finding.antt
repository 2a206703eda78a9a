-- The finder of nearest words: what its parts hold, how they come to stand there, and that the word found is the nearest word.
--   Placed start part before after   `after` is `before` with `part` in it from `start` on
--   put_back start size part l       l with `part` in place of its `size` numbers from `start` on
--   Preparable, Finds, Found, Renumbered  what holds of a finder and of the functions over it (specs Finding)
--   filled_finder sheet k basis finder    the finder with both tables, the codewords, their number and d put in; all else stays
--   Filled sheet k basis before after    what stands in the finder that is filled: the tables, the codewords, their number, d, and the slots of
--                                    before
--   Hit finder left a                the rows leave this of 2^a
--   None, One, Many, Singles         of the patterns of a single one below 2^b the rows leave this of none, of one, of more; one of these
--   ListedIn row n start size before after    the combinations of n rows stand in the part of `size` numbers from `start` on
--   Member finder w r                r tells whether w is a codeword
-- Laws are named by their subject, then by the fact: `placed-` is about a part put into a list, `single-` about the patterns of a single one
-- (-few: none is tried), `search-` about the nearest of the listed codewords, `sought-` about the word sought, `left-` about what the rows
-- leave of a word, `kept-` about the patterns kept, `number-` and `renumbered-` about classes that are numbered, `member-` about the test,
-- `pays-` about the time to number classes, `found-` leads to a Found, by the case that the code takes, and `listed-`, `filled-`,
-- `fresh-` and `prepared-` lead to a Finds.
use Rattle.std.proofs.Common.{Result, Ok, Err, ℕ, zero, suc, ◌+◌, ◌-◌, ◌*◌, ◌/◌, ◌%◌, ◌^◌, ◌≤◌, ◌<◌, min, Bool, true, false, ◌&&◌, ◌⊎◌, inl}
use Rattle.std.proofs.Common.{inr, ⊎_elim, List, [], ◌++◌, ◌≡◌, refl, sym, ap, ap₂, ◌∙◌, subst, zero-mul, one-mul, add-one, arith}
use Rattle.std.proofs.Common.{below_more, eq-eqb, ne_eqb, le-leb, leb-true, bit_xor, eqb, leb, length, get_or, set, take, drop, replicate}
use Rattle.std.proofs.Common.{length-set, length-append, length-drop, pow_mono, pow_pos, pow-add, shr_lt, get_or-append-add, length-take-le}
use Rattle.std.proofs.Common.{get_or-take, get_or-drop, get_or-set_same, get_or-set_other}
use mathlib.Mathlib.Data.Bool.Basic.{eq-false_of_not-eq-true}
use mathlib.Core.Path.{subst⁻¹}
use native.Mathlib.Nat.{le_dest, min-eq_left}
use native.Mathlib.Decide.{ℕ_discrete, dec_lt}
use borrow.Author.Tests.{lt-leb}
use lib.Bits.{xor_comm, xor_shifted, xor_zero_r}
use lib.Count.{ones}
use lib.ListN.{length-replicate, get_or-replicate, get_or-append}
use lib.Pow.{pow-lt}
use Rattle.bits.specs.Bit.{digit, pair_at}
use Rattle.bits.specs.Window.{at}
use Rattle.bits.proofs.Tests.{and_both}
use Rattle.bits.proofs.Xor.{xor-cancel, digit_lt}
use Rattle.inner_code.specs.Reply.{done}
use Rattle.inner_code.specs.Code.{combination, is_codeword, nearest_pattern, nearest_word}
use Rattle.inner_code.specs.Reduction.{reduced, reduced_by, with_echelon, searched, step_to, listed}
use Rattle.inner_code.specs.Checking.{SheetInto}
use Rattle.inner_code.specs.declared.nearest.Step.{Step}
use Rattle.inner_code.specs.declared.refusal.Refusal.{Refusal}
use Rattle.inner_code.specs.declared.sheet.Sheet.{Sheet}
use Rattle.inner_code.specs.Sheet.{degree, row_count, row_of, sheet_check}
use Rattle.tables.specs.Answer.{table_bytes, table_of}
use Rattle.tables.specs.Numbering.{weight_of, squeezed, number_of}
use Rattle.finder.specs.Finding.{listed_in, digits_in, numbered_in, searches_in, low_in, high_in, left_in, name_in, pattern_in, entry_in, word_in}
use Rattle.finder.specs.Finding.{Preparable, WellFormed, Finds, Found, power_left, with_part, codeword_by, slot_of}
use Rattle.finder.specs.Finding.{single_more, single_below, single_in, searched_in, sought_by, entry_pattern, entries_of, sheet_entries, power_number}
use Rattle.finder.specs.Finding.{renumbered_finder, Renumbered, Fewer, numbers_pay}
use Rattle.tables.proofs.Numbers.{number-xor, number-zero, number-codeword, number-coset, combination-rows}
use Rattle.tables.proofs.Tables.{number-low, number_is, table-length}
use Rattle.tables.proofs.LookUps.{table-number}
use Rattle.inner_code.proofs.NearestWord.{searched-ext, nearest-fixed, nearest-searched, step-word, step-changed, changed-ones}
use Rattle.inner_code.proofs.EchelonForm.{codeword-reduced, reduced-codeword, reduced-powers, reduced-halves, reduced_by-stored}
use Rattle.inner_code.proofs.Combinations.{combination-xor, combination-none}
use Rattle.inner_code.proofs.Cosets.{coset-pattern, single-one, single-many}
use Rattle.inner_code.proofs.Listings.{length-listed, listed-word, words-most}
use Rattle.inner_code.proofs.SheetChecks.{Sound, sound, accepted, turned-back}

-- ---- a part put into a list: one that was lent as a slice of its own and comes back

record Placed (start : ℕ) (part before after : List ℕ) : Type 0 where
  sized : length after ≡ length before
  inside : (i : ℕ) → i < length part → get_or after (start + i) 0 ≡ get_or part i 0
  ahead : (i : ℕ) → i < start → get_or after i 0 ≡ get_or before i 0
  behind : (i : ℕ) → start + length part ≤ i → get_or after i 0 ≡ get_or before i 0

pub part-sized : (start size : ℕ) (l : List ℕ) → start + size ≤ length l → length (take size (drop start l)) ≡ size
part-sized start size l room = length-take-le size (drop start l) (omega (arith, length-drop start l))

placed-back : (start k : ℕ) (part before : List ℕ) → start + k ≤ length before → length part ≡ k
    → Placed start part before (take start before ++ (part ++ drop k (drop start before)))
placed-back start k part before room size = record { sized = sized; inside = inside; ahead = ahead; behind = behind }
  where
    front : length (take start before) ≡ start
    front = length-take-le start before (omega arith)

    rest : List ℕ
    rest = drop k (drop start before)

    sized : length (take start before ++ (part ++ rest)) ≡ length before
    sized = simp (length-append, length-drop) (omega (arith, front))

    inside : (i : ℕ) → i < length part → get_or (take start before ++ (part ++ rest)) (start + i) 0 ≡ get_or part i 0
    inside i h =
        ap (λ (j : ℕ). get_or (take start before ++ (part ++ rest)) (j + i) 0) (sym front) ∙ get_or-append-add (take start before) (part ++ rest) i 0
        ∙ get_or-append part rest 0 i h

    ahead : (i : ℕ) → i < start → get_or (take start before ++ (part ++ rest)) i 0 ≡ get_or before i 0
    ahead i h = get_or-append (take start before) (part ++ rest) 0 i (omega (arith, front)) ∙ get_or-take start before i 0 h

    behind : (i : ℕ) → start + length part ≤ i → get_or (take start before ++ (part ++ rest)) i 0 ≡ get_or before i 0
    behind i h =
        let (t, e) = le_dest h in
        let far : i ≡ length (take start before) + (length part + t) = omega (arith, front, e) in
        let near : i ≡ start + (k + t) = omega arith in
        ap (λ (j : ℕ). get_or (take start before ++ (part ++ rest)) j 0) far ∙ get_or-append-add (take start before) (part ++ rest) (length part + t) 0
        ∙ get_or-append-add part rest t 0 ∙ get_or-drop k (drop start before) t 0 ∙ get_or-drop start before (k + t) 0
        ∙ ap (λ (j : ℕ). get_or before j 0) (sym near)

-- a part that is lent as a slice of its own, and put back
abbrev pub put_back : ℕ → ℕ → List ℕ → List ℕ → List ℕ
put_back start size part l = take start l ++ (part ++ drop size (drop start l))

pub back-is : (start size : ℕ) (part l m : List ℕ) (f : List ℕ → List ℕ) → part ≡ f (take size (drop start l)) → l ≡ m
    → put_back start size part l ≡ with_part start size f m
unfolding with_part
back-is start size part l m f filled_by same =
    ap (λ (p : List ℕ). put_back start size p l) filled_by ∙ ap (λ (n : List ℕ). put_back start size (f (take size (drop start n))) n) same

-- the high half of a word has as many digits as the word has above eight
half_lt : (d w : ℕ) → w < 2 ^ d → w / 256 < 2 ^ (d - 8)
half_lt d w h =
    elim (dec_lt d 8) [
      | yes low ↦
          let none : w / 256 ≡ 0 = omega (arith, h, pow-lt low) in
          rw none (pow_pos (d - 8))
      | no high ↦
          let whole : d - 8 + 8 ≡ d = omega arith in
          shr_lt (d - 8) 8 (rw whole h)
    ]

-- ---- the entries of a table, taken over

pub entries-one-more : (d : ℕ) (table : List ℕ) (n : ℕ) (l : List ℕ)
    → entries_of d table (n + 1) l ≡ set (entries_of d table n l) n (entry_pattern d (pair_at table (2 * n)))
unfolding entries_of
entries-one-more d table n l = rw add-one

pub length-entries_of : (d : ℕ) (table : List ℕ) (n : ℕ) (l : List ℕ) → length (entries_of d table n l) ≡ length l
unfolding entries_of
length-entries_of d table zero l = refl
length-entries_of d table (suc n) l = length-set (entries_of d table n l) n _ ∙ length-entries_of d table n l

pub entries_at : (d : ℕ) (table : List ℕ) (n : ℕ) (l : List ℕ) → n ≤ length l → (c : ℕ) → c < n
    → get_or (entries_of d table n l) c 0 ≡ entry_pattern d (pair_at table (2 * c))
unfolding entries_of
entries_at d table zero l room c h = absurd (omega arith)
entries_at d table (suc n) l room c h =
    elim (ℕ_discrete c n) [
      | yes e ↦ rw e (get_or-set_same (entries_of d table n l) n _ 0 (omega (arith, length-entries_of d table n l)))
      | no e ↦ get_or-set_other (entries_of d table n l) n c _ 0 e ∙ entries_at d table n l (omega arith) c (omega arith)
    ]

-- ---- the patterns of a single one

module _ (finder : List ℕ) (left : ℕ) where
  pub single-few : listed_in finder ≤ 64 → single_in finder left ≡ 0
  unfolding single_in
  single-few few = rw (le-leb _ _ few)

  pub single-all : 64 < listed_in finder → single_in finder left ≡ single_below finder left (digits_in finder)
  unfolding single_in
  single-all many = rw (lt-leb _ _ many)

  pub single-start : 0 ≡ single_below finder left 0
  unfolding single_below
  single-start = refl

  pub single-met : (b : ℕ) → left_in finder (2 ^ b) ≡ left → single_more (single_below finder left b) (2 ^ b) ≡ single_below finder left (b + 1)
  unfolding single_below
  single-met b same = rw (add-one, eq-eqb _ _ same)

  pub single-missed : (b : ℕ) → (left_in finder (2 ^ b) ≡ left → ⊥) → single_below finder left b ≡ single_below finder left (b + 1)
  unfolding single_below
  single-missed b other = rw (add-one, ne_eqb _ _ other)

pub more-first : (found p : ℕ) → found ≡ 0 → single_more found p ≡ p
unfolding single_more
more-first found p e = rw (eq-eqb found 0 e)

pub more-next : (found p : ℕ) → (found ≡ 0 → ⊥) → single_more found p ≡ 65536
unfolding single_more
more-next found p e = rw (ne_eqb found 0 e)

abbrev Hit : List ℕ → ℕ → ℕ → Type 0
Hit finder left a = left_in finder (2 ^ a) ≡ left

record None (finder : List ℕ) (left b r : ℕ) : Type 0 where
  is : r ≡ 0
  none : (a : ℕ) → a < b → Hit finder left a → ⊥

record One (finder : List ℕ) (left b r : ℕ) : Type 0 where
  digit : ℕ
  digit_lt : digit < b
  is : r ≡ 2 ^ digit
  hit : Hit finder left digit
  only : (a : ℕ) → a < b → Hit finder left a → a ≡ digit

record Many (finder : List ℕ) (left b r : ℕ) : Type 0 where
  digit : ℕ
  other : ℕ
  digit_lt : digit < b
  other-lt : other < b
  apart : digit ≡ other → ⊥
  is : r ≡ 65536
  hit : Hit finder left digit
  other-hit : Hit finder left other

abbrev Singles : List ℕ → ℕ → ℕ → ℕ → Type 0
Singles finder left b r = None finder left b r ⊎ (One finder left b r ⊎ Many finder left b r)

module _ (finder : List ℕ) (left : ℕ) where
  -- one more digit that is not met
  singles-missed : (b r s : ℕ) → r ≡ s → (Hit finder left b → ⊥) → Singles finder left b r → Singles finder left (b + 1) s
  singles-missed b r s e miss =
      ⊎_elim
      (λ (n : None finder left b r). inl (record { is = sym e ∙ n.is; none = below_more _ b n.none miss }))
      (⊎_elim
      (λ (o : One finder left b r).
      inr (inl (record {
        digit = o.digit;
        digit_lt = omega (arith, o.digit_lt);
        is = sym e ∙ o.is;
        hit = o.hit;
        only = below_more _ b o.only (λ h. absurd (miss h));
      })))
      (λ (m : Many finder left b r).
      inr (inr (record {
        digit = m.digit;
        other = m.other;
        digit_lt = omega (arith, m.digit_lt);
        other-lt = omega (arith, m.other-lt);
        apart = m.apart;
        is = sym e ∙ m.is;
        hit = m.hit;
        other-hit = m.other-hit;
      }))))

  -- one more digit that is
  singles-met : (b r s : ℕ) → single_more r (2 ^ b) ≡ s → Hit finder left b → Singles finder left b r → Singles finder left (b + 1) s
  singles-met b r s e hit =
      ⊎_elim
      (λ (n : None finder left b r).
      inr (inl (record {
        digit = b;
        digit_lt = omega arith;
        is = sym e ∙ more-first r (2 ^ b) n.is;
        hit = hit;
        only = below_more _ b (λ a l h. absurd (n.none a l h)) (λ h. refl);
      })))
      (⊎_elim
      (λ (o : One finder left b r).
      inr (inr (record {
        digit = o.digit;
        other = b;
        digit_lt = omega (arith, o.digit_lt);
        other-lt = omega arith;
        apart = λ same. omega (arith, o.digit_lt, same);
        is = sym e ∙ more-next r (2 ^ b) (λ z. omega (arith, z, o.is, pow_pos o.digit));
        hit = o.hit;
        other-hit = hit;
      })))
      (λ (m : Many finder left b r).
      inr (inr (record {
        digit = m.digit;
        other = m.other;
        digit_lt = omega (arith, m.digit_lt);
        other-lt = omega (arith, m.other-lt);
        apart = m.apart;
        is = sym e ∙ more-next r (2 ^ b) (λ z. omega (arith, z, m.is));
        hit = m.hit;
        other-hit = m.other-hit;
      }))))

  singles : (b : ℕ) → Singles finder left b (single_below finder left b)
  singles zero = inl (record { is = sym (single-start finder left); none = λ a l h. absurd (omega arith) })
  singles (suc b) =
      subst (λ (n : ℕ). Singles finder left n (single_below finder left n)) (add-one b)
      (elim (ℕ_discrete (left_in finder (2 ^ b)) left) [
        | yes hit ↦ singles-met b _ _ (single-met finder left b hit) hit (singles b)
        | no miss ↦ singles-missed b _ _ (single-missed finder left b miss) miss (singles b)
      ])

-- ---- the listed codewords as a part that is lent on

pub search-part : (finder : List ℕ) (n w : ℕ) → n ≡ listed_in finder → 2592 + listed_in finder ≤ length finder
    → searched (at (take n (drop 2592 finder))) (length (take n (drop 2592 finder))) w ≡ searched_in finder w
unfolding at word_in searched_in
search-part finder n w e room =
    let size : length (take n (drop 2592 finder)) ≡ listed_in finder =
    length-take-le n (drop 2592 finder) (omega (arith, length-drop 2592 finder)) ∙ e in
    rw size (searched-ext (at (take n (drop 2592 finder))) (word_in finder) (listed_in finder) w
    (λ m h. get_or-take n (drop 2592 finder) m 0 (omega arith) ∙ get_or-drop 2592 finder m 0))

-- ---- the word sought

pub sought-searched : (finder : List ℕ) (single w : ℕ) → single ≡ 0 → searched_in finder w ≡ sought_by finder single w
unfolding sought_by
sought-searched finder single w none = rw (eq-eqb _ _ none)

pub sought-single : (finder : List ℕ) (single w : ℕ) → (single ≡ 0 → ⊥) → bit_xor w (single % 65536) ≡ sought_by finder single w
unfolding sought_by
sought-single finder single w some = rw (ne_eqb _ _ some)

-- ---- the word found

module _ {sheet finder : List ℕ} (f : Finds sheet finder) where
  is-sound : Sound sheet
  is-sound = sound sheet [] f.accepted

  pub finds-formed : WellFormed finder
  finds-formed =
      record {
        sized = f.sized;
        digits-high = omega (arith, f.digits, is-sound.degree-high);
        listed-high = omega (arith, f.listed, pow_mono {j = 11} is-sound.count-high);
      }

  abbrev row : ℕ → ℕ
  row = row_of sheet

  abbrev k : ℕ
  k = row_count sheet

  abbrev d : ℕ
  d = degree sheet

  module _ (w : ℕ) (w-lt : w < 2 ^ d) where
    w-low : w < 2 ^ 16
    w-low = omega (arith, w-lt, pow_mono is-sound.degree-high)

    itself : (P : ℕ → Type 0) → P (bit_xor w 0) → P w
    itself P = subst P (xor_zero_r w)

    -- nothing is left exactly of a codeword
    left-zero : left_in finder w ≡ 0 → is_codeword row k w ≡ true
    left-zero e =
        elim (ℕ_discrete (numbered_in finder) 1) [
          | yes n ↦
              itself (λ v. is_codeword row k v ≡ true)
              (number-codeword row k w 0 w-low (pow_pos 16) (sym ((f.numbered n).left w w-lt) ∙ e ∙ sym (number-zero row k)))
          | no n ↦ reduced-codeword row k w (sym ((f.named n).left w w-lt) ∙ e)
        ]

    left-codeword : is_codeword row k w ≡ true → left_in finder w ≡ 0
    left-codeword e =
        elim (ℕ_discrete (numbered_in finder) 1) [
          | yes n ↦
              (f.numbered n).left w w-lt
              ∙ number-coset row k w 0 (subst (λ (v : ℕ). is_codeword row k v ≡ true) (sym (xor_zero_r w)) e) ∙ number-zero row k
          | no n ↦ (f.named n).left w w-lt ∙ codeword-reduced row k w e
        ]

    left-tells : eqb (left_in finder w) 0 ≡ is_codeword row k w
    left-tells =
        elim (ℕ_discrete (left_in finder w) 0) [
          | yes none ↦ eq-eqb _ _ none ∙ sym (left-zero none)
          | no some ↦ ne_eqb _ _ some ∙ sym (eq-false_of_not-eq-true (λ e. some (left-codeword e)))
        ]

    left-none : left_in finder w ≡ 0 → nearest_word row k d w ≡ w
    left-none e = nearest-fixed row k d is-sound.degree-high is-sound.rows-lt w (left-zero e)

    -- the entry of a class leads to the nearest word
    entry-met : numbered_in finder ≡ 1 → bit_xor w (entry_in finder (left_in finder w)) ≡ nearest_word row k d w
    unfolding nearest_word
    entry-met n = ap (bit_xor w) ((f.numbered n).entry w w-lt)

    pub entry_lt : numbered_in finder ≡ 1 → (left : ℕ) → left ≡ left_in finder w → left < 2048
    entry_lt n left is =
        omega (arith, is, (f.numbered n).left w w-lt, number-low sheet is-sound w w-lt, pow_mono {j = 11} (f.numbered n).few)

    search-nearest : searched_in finder w ≡ nearest_word row k d w
    unfolding searched_in
    search-nearest =
        ap (λ (n : ℕ). searched (word_in finder) n w) f.listed
        ∙ nearest-searched row k d is-sound.degree-high is-sound.rows-lt (word_in finder) f.words w w-lt

    -- ---- where classes are named

    module _ (n : numbered_in finder ≡ 1 → ⊥) (some : left_in finder w ≡ 0 → ⊥) where
      -- the pattern kept for what the rows leave leads to the nearest word
      kept-met : (s : ℕ) → s < 1024 → name_in finder s ≡ left_in finder w → bit_xor w (pattern_in finder s) ≡ nearest_word row k d w
      unfolding nearest_word
      kept-met s s-lt name = ap (bit_xor w) ((f.named n).kept s w s-lt w-lt some name)

      -- so does the one pattern of a single one, and where there are more the word stays
      single-nearest : (r : ℕ) → (r ≡ 0 → ⊥) → Singles finder (left_in finder w) d r → r % 65536 ≡ nearest_pattern row k d w
      single-nearest r found =
          ⊎_elim
          (λ (z : None finder (left_in finder w) d r). absurd (found z.is))
          (⊎_elim
          (λ (o : One finder (left_in finder w) d r).
          omega (arith, o.is, pow-lt o.digit_lt, pow_mono is-sound.degree-high)
          ∙ o.is ∙ sym (single-one row k d is-sound.degree-high is-sound.rows-lt w w-lt left_there
          o.digit o.digit_lt (same o.digit o.digit_lt o.hit) (λ a l e. o.only a l (back a l e))))
          (λ (m : Many finder (left_in finder w) d r).
          ap (λ (x : ℕ). x % 65536) m.is
          ∙ sym (single-many row k d is-sound.degree-high is-sound.rows-lt w w-lt left_there
          m.digit m.other m.digit_lt m.other-lt m.apart (same m.digit m.digit_lt m.hit)
          (same m.other m.other-lt m.other-hit))))
        where
          left_there : reduced row k w ≡ 0 → ⊥
          left_there e = some ((f.named n).left w w-lt ∙ e)

          same : (a : ℕ) → a < d → Hit finder (left_in finder w) a → reduced row k (2 ^ a) ≡ reduced row k w
          same a l hit = sym ((f.named n).left (2 ^ a) (pow-lt l)) ∙ hit ∙ (f.named n).left w w-lt

          back : (a : ℕ) → a < d → reduced row k (2 ^ a) ≡ reduced row k w → Hit finder (left_in finder w) a
          back a l e = (f.named n).left (2 ^ a) (pow-lt l) ∙ e ∙ sym ((f.named n).left w w-lt)

      sought-nearest : (single : ℕ) → single ≡ single_in finder (left_in finder w) → sought_by finder single w ≡ nearest_word row k d w
      unfolding nearest_word
      sought-nearest single is =
          elim (ℕ_discrete single 0) [
            | yes none ↦ sym (sought-searched finder single w none) ∙ search-nearest
            | no there ↦
                elim (dec_lt 64 (listed_in finder)) [
                  | yes many ↦
                      sym (sought-single finder single w there)
                      ∙ ap (bit_xor w) (single-nearest single there (subst (Singles finder (left_in finder w) d)
                      (ap (single_below finder (left_in finder w)) (sym f.digits) ∙ sym (single-all finder (left_in finder w) many) ∙ sym is)
                      (singles finder (left_in finder w) d)))
                  | no few ↦ absurd (there (is ∙ single-few finder (left_in finder w) (omega arith)))
                ]
          ]

      -- one more pattern, and one more search told
      kept_more : (s nearest searches : ℕ) → s < 1024 → nearest ≡ nearest_word row k d w
          → Finds sheet (set (set (set finder (544 + 2 * s) (left_in finder w)) (544 + 2 * s + 1) (bit_xor w nearest)) 3 searches)
      unfolding nearest_word left_in word_in
      kept_more s nearest searches s-lt is =
          record {
            sized = sized;
            accepted = f.accepted;
            digits = other 1 (λ h. omega arith) (λ h. omega arith) (λ h. omega arith) ∙ f.digits;
            listed = other 0 (λ h. omega arith) (λ h. omega arith) (λ h. omega arith) ∙ f.listed;
            words = λ m l. other (2592 + m) (λ h. omega arith) (λ h. omega arith) (λ h. omega arith) ∙ f.words m l;
            named = λ u. record { left = λ v v-lt. left-same v v-lt ∙ (f.named n).left v v-lt; kept = kept };
            numbered = λ e. absurd (n (sym (other 2 (λ h. omega arith) (λ h. omega arith) (λ h. omega arith)) ∙ e));
          }
        where
          pattern : ℕ
          pattern = bit_xor w nearest

          name : List ℕ
          name = set finder (544 + 2 * s) (left_in finder w)

          put : List ℕ
          put = set name (544 + 2 * s + 1) pattern

          after : List ℕ
          after = set put 3 searches

          put-sized : length put ≡ 4640
          put-sized = length-set name (544 + 2 * s + 1) pattern ∙ length-set finder (544 + 2 * s) (left_in finder w) ∙ f.sized

          sized : length after ≡ 4640
          sized = length-set put 3 searches ∙ put-sized

          other : (j : ℕ) → (j ≡ 544 + 2 * s → ⊥) → (j ≡ 544 + 2 * s + 1 → ⊥) → (j ≡ 3 → ⊥) → get_or after j 0 ≡ get_or finder j 0
          other j a b c =
              get_or-set_other put 3 j searches 0 c ∙ get_or-set_other name (544 + 2 * s + 1) j pattern 0 b
              ∙ get_or-set_other finder (544 + 2 * s) j (left_in finder w) 0 a

          left-same : (v : ℕ) → v < 2 ^ d → left_in after v ≡ left_in finder v
          left-same v v-lt =
              let v-lt-16 : v < 2 ^ 16 = omega (arith, v-lt, pow_mono is-sound.degree-high) in
              ap₂ bit_xor (other (32 + v % 256) (λ h. omega arith) (λ h. omega arith) (λ h. omega arith))
              (other (288 + v / 256) (λ h. omega arith) (λ h. omega arith) (λ h. omega arith))

          is-pattern : pattern ≡ nearest_pattern row k d w
          is-pattern = ap (bit_xor w) is ∙ xor-cancel w _

          name-here : name_in after s ≡ left_in finder w
          name-here =
              get_or-set_other put 3 (544 + 2 * s) searches 0 (λ h. omega arith)
              ∙ get_or-set_other name (544 + 2 * s + 1) (544 + 2 * s) pattern 0 (λ h. omega arith)
              ∙ get_or-set_same finder (544 + 2 * s) (left_in finder w) 0 (omega (arith, f.sized))

          pattern-here : pattern_in after s ≡ pattern
          pattern-here =
              get_or-set_other put 3 (544 + 2 * s + 1) searches 0 (λ h. omega arith)
              ∙ get_or-set_same name (544 + 2 * s + 1) pattern 0 (omega (arith, length-set finder (544 + 2 * s) (left_in finder w), f.sized))

          kept : (t v : ℕ) → t < 1024 → v < 2 ^ d → (left_in after v ≡ 0 → ⊥) → name_in after t ≡ left_in after v
              → pattern_in after t ≡ nearest_pattern row k d v
          kept t v t-lt v-lt there met =
              elim (ℕ_discrete t s) [
                | yes here ↦
                    rw here (pattern-here ∙ is-pattern
                    ∙ coset-pattern row k d is-sound.degree-high is-sound.rows-lt w v w-lt v-lt
                    (sym ((f.named n).left w w-lt) ∙ sym name-here ∙ ap (name_in after) (sym here) ∙ met ∙ left-same v v-lt
                    ∙ (f.named n).left v v-lt))
                | no apart ↦
                    other (544 + 2 * t + 1) (λ h. apart (omega arith)) (λ h. apart (omega arith)) (λ h. omega arith)
                    ∙ (f.named n).kept t v t-lt v-lt (λ e. there (left-same v v-lt ∙ e))
                    (sym (other (544 + 2 * t) (λ h. apart (omega arith)) (λ h. apart (omega arith)) (λ h. omega arith)) ∙ met
                    ∙ left-same v v-lt)
              ]

  -- ---- classes numbered

  module _ (few : d - k ≤ 11) {after : List ℕ} (r : Renumbered sheet finder after) where
    number-left : (w : ℕ) → w < 2 ^ d → left_in after w ≡ number_of row k w
    unfolding left_in
    number-left w h =
        let halves : bit_xor (w % 256 * 2 ^ 0) (w / 256 * 2 ^ 8) ≡ w =
        xor_comm (w % 256 * 2 ^ 0) (w / 256 * 2 ^ 8) ∙ xor_shifted (w / 256) 8 (w % 256 * 2 ^ 0) (omega arith) ∙ omega arith in
        ap₂ bit_xor (r.low (w % 256) (omega arith)) (r.high (w / 256) (half_lt d w h))
        ∙ sym (number-xor row k (w % 256 * 2 ^ 0) (w / 256 * 2 ^ 8)) ∙ ap (number_of row k) halves

    number-entry : (w : ℕ) → w < 2 ^ d → entry_in after (left_in after w) ≡ nearest_pattern row k d w
    unfolding entry_pattern
    number-entry w h =
        ap (entry_in after) (number-left w h) ∙ r.entry (number_of row k w) (number-low sheet is-sound w h) ∙ table-number sheet is-sound w h

    pub renumbered-finds : Finds sheet after
    unfolding word_in
    renumbered-finds =
        record {
          sized = r.sized ∙ f.sized;
          accepted = f.accepted;
          digits = r.head 1 (omega arith) ∙ f.digits;
          listed = r.head 0 (omega arith) ∙ f.listed;
          words = λ m l. r.rest (2592 + m) (omega arith) ∙ f.words m l;
          named = λ n. absurd (n r.flag);
          numbered = λ e. record { left = number-left; few = few; entry = number-entry };
        }

-- ---- what the code answers, and what that means where the finder finds a sheet's nearest words

-- r tells whether w is a codeword
pub record Member (finder : List ℕ) (w : ℕ) (r : Bool) : Type 0 where
  pub tells : (sheet : List ℕ) → Finds sheet finder → w < 2 ^ degree sheet → r ≡ is_codeword (row_of sheet) (row_count sheet) w

pub member-means : (finder : List ℕ) (w : ℕ) {r : Bool} → r ≡ codeword_by finder w → Member finder w r
unfolding codeword_by
member-means finder w e = record { tells = λ sheet f w-lt. e ∙ left-tells f w w-lt }

-- a step to a word that is the nearest
found-by : {sheet : List ℕ} {w : ℕ} {r : Step} {after : List ℕ} (x : ℕ) → r ≡ step_to w x
    → x ≡ nearest_word (row_of sheet) (row_count sheet) (degree sheet) w → Finds sheet after → Found sheet w r after
found-by {sheet = sheet} {w = w} x step leads kept =
    record {
      nearest = step-word w x step ∙ leads;
      counted = step-changed w x step ∙ ap (λ (y : ℕ). ones (bit_xor w y)) leads
          ∙ changed-ones (row_of sheet) (row_count sheet) (degree sheet) w;
      finds = kept;
    }

-- the room that was tested is that for the classes of the sheet
pub room-few : {sheet finder : List ℕ} → Finds sheet finder → 2 ^ digits_in finder ≤ 2048 * listed_in finder → degree sheet - row_count sheet ≤ 11
room-few {sheet} {finder} f room =
    elim (dec_lt (row_count sheet + 11) (degree sheet)) [
      | yes more ↦
          absurd (omega (
            arith,
            room,
            ap (λ (m : ℕ). 2 ^ m) f.digits,
            f.listed,
            pow-lt more,
            pow-add 2 (row_count sheet) 11,
          ))
      | no few ↦ omega arith
    ]

slot_lt : (left : ℕ) → slot_of left < 1024
unfolding slot_of
slot_lt left = omega arith

module _ {sheet finder : List ℕ} (f : Finds sheet finder) {w : ℕ} (w-lt : w < 2 ^ degree sheet) where
  pub found-codeword : {r : Step} → left_in finder w ≡ 0 → r ≡ step_to w (bit_xor w 0) → Found sheet w r finder
  found-codeword none step = found-by (bit_xor w 0) step (xor_zero_r w ∙ sym (left-none f w w-lt none)) f

  pub found-entry : {r : Step} → numbered_in finder ≡ 1 → (left : ℕ) → left ≡ left_in finder w → r ≡ step_to w (bit_xor w (entry_in finder left))
      → Found sheet w r finder
  found-entry n left is step =
      found-by (bit_xor w (entry_in finder left)) step (ap (λ (c : ℕ). bit_xor w (entry_in finder c)) is ∙ entry-met f w w-lt n) f

  pub found-numbered : {r : Step} {after : List ℕ} → degree sheet - row_count sheet ≤ 11 → Renumbered sheet finder after → (left : ℕ)
      → left ≡ left_in after w → r ≡ step_to w (bit_xor w (entry_in after left)) → Found sheet w r after
  found-numbered {after = after} few renumbered left is step =
      let finds = renumbered-finds f few renumbered in
      found-by (bit_xor w (entry_in after left)) step
      (ap (λ (c : ℕ). bit_xor w (entry_in after c)) is ∙ entry-met finds w w-lt renumbered.flag) finds

  module _ (n : numbered_in finder ≡ 1 → ⊥) (left : ℕ) (is : left ≡ left_in finder w) (some : left ≡ 0 → ⊥) where
    there : left_in finder w ≡ 0 → ⊥
    there e = some (is ∙ e)

    pub found-kept : {r : Step} → name_in finder (slot_of left) ≡ left → r ≡ step_to w (bit_xor w (pattern_in finder (slot_of left)))
        → Found sheet w r finder
    found-kept met step = found-by _ step (kept-met f w w-lt n there (slot_of left) (slot_lt left) (met ∙ is)) f

    pub found-sought : {r : Step} (single : ℕ) → single ≡ single_in finder left → r ≡ step_to w (sought_by finder single w) → (searches : ℕ)
        → Found sheet w r (set (set (set finder (544 + 2 * slot_of left) left) (544 + 2 * slot_of left + 1) (bit_xor w r.word)) 3 searches)
    found-sought {r = r} single single-is step searches =
        let leads = sought-nearest f w w-lt n there single (single-is ∙ ap (single_in finder) is) in
        found-by (sought_by finder single w) step leads
        (subst⁻¹
        (λ (v : ℕ). Finds sheet (set (set (set finder (544 + 2 * slot_of left) v) (544 + 2 * slot_of left + 1) (bit_xor w r.word)) 3 searches)) is
        (kept_more f w w-lt n there (slot_of left) r.word searches (slot_lt left) (step-word w _ step ∙ leads)))

-- ---- a finder set up

unfoldable pub filled_finder : List ℕ → ℕ → List ℕ → List ℕ → List ℕ
unfolding with_part listed power_left
filled_finder sheet k basis finder =
    let low : List ℕ = with_part 32 256 (listed (power_left basis k 0) 8) finder in
    let high : List ℕ = with_part 288 256 (listed (power_left basis k 8) (degree sheet - 8)) low in
    let words : List ℕ = with_part 2592 2048 (listed (row_of sheet) (min k 11)) high in
    set (set words 0 (2 ^ min k 11)) 1 (degree sheet)

record Filled (sheet : List ℕ) (k : ℕ) (basis before after : List ℕ) : Type 0 where
  sized : length after ≡ length before
  listed : listed_in after ≡ 2 ^ min k 11
  digits : digits_in after ≡ degree sheet
  low : (m : ℕ) → m < 2 ^ 8 → low_in after m ≡ combination (power_left basis k 0) 8 m
  high : (m : ℕ) → m < 2 ^ (degree sheet - 8) → high_in after m ≡ combination (power_left basis k 8) (degree sheet - 8) m
  words : (m : ℕ) → m < 2 ^ min k 11 → word_in after m ≡ combination (row_of sheet) (min k 11) m
  slots : (i : ℕ) → i < 2048 → get_or after (544 + i) 0 ≡ get_or before (544 + i) 0
  flag : numbered_in after ≡ numbered_in before

-- combinations of n rows, listed in a part of a list
record ListedIn (row : ℕ → ℕ) (n start size : ℕ) (before after : List ℕ) : Type 0 where
  sized : length after ≡ length before
  entry : (m : ℕ) → m < 2 ^ n → get_or after (start + m) 0 ≡ combination row n m
  ahead : (i : ℕ) → i < start → get_or after i 0 ≡ get_or before i 0
  behind : (i : ℕ) → start + size ≤ i → get_or after i 0 ≡ get_or before i 0

listed-in : (row : ℕ → ℕ) (n start size : ℕ) (l : List ℕ) → start + size ≤ length l → 2 ^ n ≤ size
    → ListedIn row n start size l (with_part start size (listed row n) l)
unfolding with_part
listed-in row n start size l room few =
    let part = take size (drop start l) in
    let all = part-sized start size l room in
    let kept : length (listed row n part) ≡ size = length-listed row n part ∙ all in
    let placed = placed-back start size (listed row n part) l room kept in
    record {
      sized = placed.sized;
      entry = λ m h. placed.inside m (omega (arith, kept)) ∙ listed-word row n part (omega (arith, all)) m h;
      ahead = placed.ahead;
      behind = λ i h. placed.behind i (omega (arith, kept));
    }

filled : (sheet : List ℕ) (k : ℕ) (basis finder : List ℕ) → degree sheet ≤ 16 → length finder ≡ 4640
    → Filled sheet k basis finder (filled_finder sheet k basis finder)
unfolding filled_finder word_in
filled sheet k basis finder high-degree size =
    record {
      sized = length-set (set words 0 count) 1 d ∙ length-set words 0 count ∙ sized;
      listed = get_or-set_other (set words 0 count) 1 0 d 0 (λ e. omega arith) ∙ get_or-set_same words 0 count 0 (omega (arith, sized));
      digits = get_or-set_same (set words 0 count) 1 d 0 (omega (arith, length-set words 0 count, sized));
      low = λ m h. ahead (32 + m) (omega arith) (omega arith) ∙ in-high.ahead (32 + m) (omega arith) ∙ in-low.entry m h;
      high = λ m h. ahead (288 + m) (omega arith) (omega (arith, few)) ∙ in-high.entry m h;
      words = λ m h. beside (2592 + m) (omega arith) ∙ in_words.entry m h;
      slots = λ t h.
          ahead (544 + t) (omega arith) (omega arith) ∙ in-high.behind (544 + t) (omega arith) ∙ in-low.behind (544 + t) (omega arith);
      flag = ahead 2 (omega arith) (omega arith) ∙ in-high.ahead 2 (omega arith) ∙ in-low.ahead 2 (omega arith);
    }
  where
    d : ℕ
    d = degree sheet

    count : ℕ
    count = 2 ^ min k 11

    low : List ℕ
    low = with_part 32 256 (listed (power_left basis k 0) 8) finder

    high : List ℕ
    high = with_part 288 256 (listed (power_left basis k 8) (d - 8)) low

    words : List ℕ
    words = with_part 2592 2048 (listed (row_of sheet) (min k 11)) high

    few : 2 ^ (d - 8) ≤ 256
    few = pow_mono {i = d - 8} {j = 8} (omega arith)

    in-low : ListedIn (power_left basis k 0) 8 32 256 finder low
    in-low = listed-in (power_left basis k 0) 8 32 256 finder (omega arith) (omega arith)

    in-high : ListedIn (power_left basis k 8) (d - 8) 288 256 low high
    in-high = listed-in (power_left basis k 8) (d - 8) 288 256 low (omega (arith, in-low.sized)) few

    in_words : ListedIn (row_of sheet) (min k 11) 2592 2048 high words
    in_words = listed-in (row_of sheet) (min k 11) 2592 2048 high (omega (arith, in-high.sized, in-low.sized)) (words-most k)

    sized : length words ≡ length finder
    sized = in_words.sized ∙ in-high.sized ∙ in-low.sized

    beside : (j : ℕ) → 2 ≤ j → get_or (set (set words 0 count) 1 d) j 0 ≡ get_or words j 0
    beside j h = get_or-set_other (set words 0 count) 1 j d 0 (λ e. omega arith) ∙ get_or-set_other words 0 j count 0 (λ e. omega arith)

    ahead : (j : ℕ) → 2 ≤ j → j < 2592 → get_or (set (set words 0 count) 1 d) j 0 ≡ get_or high j 0
    ahead j two h = beside j two ∙ in_words.ahead j h

-- below eight digits there is room for as many numbers again
pub count_fits : (b count : ℕ) → b < 8 → count ≡ 2 ^ b → 2 * count ≤ 256
count_fits b count h e = omega (arith, e, pow_mono {i = b} {j = 7} (omega arith))

pub preparable-sized : {sheet : List ℕ} {k : ℕ} {basis finder : List ℕ} → Preparable sheet k basis finder → length finder ≡ 4640
preparable-sized fresh = ap length fresh.zeros ∙ length-replicate {A = ℕ} 4640 0

-- what `prepare_finder` leaves
pub prepared-finds : {sheet : List ℕ} {k : ℕ} {basis before : List ℕ} → Preparable sheet k basis before → Finds sheet (filled_finder sheet k basis before)
unfolding left_in power_left
prepared-finds {sheet} {k} {basis} {before} fresh =
    record {
      sized = p.sized ∙ preparable-sized fresh;
      accepted = fresh.accepted;
      digits = p.digits;
      listed = p.listed ∙ ap (λ (m : ℕ). 2 ^ m) rows_all;
      words = λ m h. p.words m (rw rows_all h) ∙ ap (λ (i : ℕ). combination (row_of sheet) i m) rows_all;
      named = λ n. record { left = left; kept = λ t v t-lt v-lt some name. absurd (some (sym name ∙ none_kept t t-lt)) };
      numbered = λ e. absurd (omega (arith, e, none-numbered));
    }
  where
    s : Sound sheet
    s = sound sheet [] fresh.accepted

    after : List ℕ
    after = filled_finder sheet k basis before

    p : Filled sheet k basis before after
    p = filled sheet k basis before s.degree-high (preparable-sized fresh)

    rows_all : min k 11 ≡ row_count sheet
    rows_all = ap (λ (m : ℕ). min m 11) fresh.rows ∙ min-eq_left s.count-high

    none-numbered : numbered_in after ≡ 0
    none-numbered = p.flag ∙ ap (λ (l : List ℕ). get_or l 2 0) fresh.zeros ∙ get_or-replicate {A = ℕ} 4640 2 0 0 (omega arith)

    -- every slot is empty
    none_kept : (t : ℕ) → t < 1024 → name_in after t ≡ 0
    none_kept t h =
        p.slots (2 * t) (omega arith) ∙ ap (λ (l : List ℕ). get_or l (544 + 2 * t) 0) fresh.zeros
        ∙ get_or-replicate {A = ℕ} 4640 (544 + 2 * t) 0 0 (omega arith)

    power : (from b : ℕ) → power_left basis k from b ≡ reduced (row_of sheet) (row_count sheet) (2 ^ (from + b))
    power from b =
        ap₂ (λ (l : List ℕ) (n : ℕ). reduced_by (at l) n (2 ^ (from + b))) fresh.echelon rows_all
        ∙ reduced_by-stored (row_of sheet) (row_count sheet) (replicate 11 0) (2 ^ (from + b))
        (omega (arith, s.count-high, length-replicate {A = ℕ} 11 0))

    left : (w : ℕ) → w < 2 ^ degree sheet → left_in after w ≡ reduced (row_of sheet) (row_count sheet) w
    left w h =
        let low-lt : w % 256 < 2 ^ 8 = omega arith in
        let high_lt = half_lt (degree sheet) w h in
        ap₂ bit_xor
        (p.low (w % 256) low-lt ∙ reduced-powers (row_of sheet) (row_count sheet) 0 _ (power 0) 8 (w % 256) low-lt)
        (p.high (w / 256) high_lt ∙ reduced-powers (row_of sheet) (row_count sheet) 8 _ (power 8) _ (w / 256) high_lt)
        ∙ reduced-halves (row_of sheet) (row_count sheet) w

-- ---- classes numbered, as the code does it

-- what is additive goes through combinations
combination-map : (f : ℕ → ℕ) → ((x y : ℕ) → f (bit_xor x y) ≡ bit_xor (f x) (f y)) → f 0 ≡ 0 → (g : ℕ → ℕ) (n m : ℕ)
    → combination (λ b. f (g b)) n m ≡ f (combination g n m)
unfolding combination
combination-map f additive none g zero m = sym none
combination-map f additive none g (suc n) m =
    ap₂ bit_xor (combination-map f additive none g n m) (times (digit m n) (digit_lt m n)) ∙ sym (additive (combination g n m) (digit m n * g n))
  where
    times : (t : ℕ) → t < 2 → t * f (g n) ≡ f (t * g n)
    times zero l = zero-mul (f (g n)) ∙ sym (ap f (zero-mul (g n)) ∙ none)
    times (suc zero) l = one-mul (f (g n)) ∙ ap f (sym (one-mul (g n)))
    times (suc (suc t)) l = absurd (omega arith)

module _ (sheet basis finder : List ℕ) (size : length finder ≡ 4640) (fewer : Fewer sheet basis) where
  fine : Sound sheet
  fine = sound sheet [] fewer.accepted

  abbrev kk : ℕ
  kk = row_count sheet

  abbrev dd : ℕ
  dd = degree sheet

  entries : List ℕ
  entries = with_part 544 2048 (sheet_entries sheet) finder

  low_part : List ℕ
  low_part = with_part 32 256 (listed (power_number basis kk 0) 8) entries

  high_part : List ℕ
  high_part = with_part 288 256 (listed (power_number basis kk 8) (dd - 8)) low_part

  few-digits : 2 ^ (dd - 8) ≤ 256
  few-digits = pow_mono {i = dd - 8} {j = 8} (omega (arith, fine.degree-high))

  classes : ℕ
  classes = 2 ^ (dd - kk)

  classes-low : classes ≤ 2048
  unfolding classes
  classes-low = pow_mono {j = 11} fewer.few

  entry-count : length (table_of sheet) / 2 ≡ classes
  unfolding table_bytes classes
  entry-count = omega (arith, table-length sheet fine)

  part : List ℕ
  part = take 2048 (drop 544 finder)

  part-all : length part ≡ 2048
  unfolding part
  part-all = part-sized 544 2048 finder (omega (arith, size))

  kept : length (sheet_entries sheet part) ≡ 2048
  unfolding sheet_entries
  kept = length-entries_of dd (table_of sheet) (length (table_of sheet) / 2) part ∙ part-all

  placed : Placed 544 (sheet_entries sheet part) finder entries
  unfolding entries with_part part
  placed = placed-back 544 2048 (sheet_entries sheet part) finder (omega (arith, size)) kept

  in-low : ListedIn (power_number basis kk 0) 8 32 256 entries low_part
  unfolding low_part
  in-low = listed-in (power_number basis kk 0) 8 32 256 entries (omega (arith, placed.sized, size)) (omega arith)

  in-high : ListedIn (power_number basis kk 8) (dd - 8) 288 256 low_part high_part
  unfolding high_part
  in-high = listed-in (power_number basis kk 8) (dd - 8) 288 256 low_part (omega (arith, in-low.sized, placed.sized, size)) few-digits

  other : (j : ℕ) → (j ≡ 2 → ⊥) → get_or (set high_part 2 1) j 0 ≡ get_or high_part j 0
  other j e = get_or-set_other high_part 2 j 1 0 e

  -- the number of a power's class, and so of all numbers
  power : (from b : ℕ) → power_number basis kk from b ≡ number_of (row_of sheet) kk (2 ^ (from + b))
  unfolding power_number power_left
  power from b = number_is sheet fine basis fewer.echelon (2 ^ (from + b)) (reduced_by (at basis) (min kk 11) (2 ^ (from + b))) refl

  all-powers : (from n m : ℕ) → m < 2 ^ n → combination (power_number basis kk from) n m ≡ number_of (row_of sheet) kk (m * 2 ^ from)
  unfolding number_of squeezed
  all-powers from n m h =
      let left : ℕ → ℕ = λ b. reduced (row_of sheet) kk (2 ^ (from + b)) in
      combination-rows _ _ n m (λ b l. power from b)
      ∙ combination-map (squeezed (row_of sheet) kk) (λ x y. sym (combination-xor (weight_of (row_of sheet) kk) 16 x y))
      (combination-none (weight_of (row_of sheet) kk) 16) left n m
      ∙ ap (squeezed (row_of sheet) kk) (reduced-powers (row_of sheet) kk from left (λ b. refl) n m h)

  pub renumbered : Renumbered sheet finder (renumbered_finder sheet basis finder)
  unfolding renumbered_finder sheet_entries entries low_part high_part classes part
  renumbered =
      record {
        sized = length-set high_part 2 1 ∙ in-high.sized ∙ in-low.sized ∙ placed.sized;
        flag = get_or-set_same high_part 2 1 0 (omega (arith, in-high.sized, in-low.sized, placed.sized, size));
        low = λ m h. other (32 + m) (λ e. omega arith) ∙ in-high.ahead (32 + m) (omega arith) ∙ in-low.entry m h ∙ all-powers 0 8 m h;
        high = λ m h. other (288 + m) (λ e. omega arith) ∙ in-high.entry m h ∙ all-powers 8 (dd - 8) m h;
        entry = λ c h.
            other (544 + c) (λ e. omega arith) ∙ in-high.behind (544 + c) (omega arith) ∙ in-low.behind (544 + c) (omega arith)
            ∙ placed.inside c (omega (arith, kept, classes-low, h))
            ∙ entries_at dd (table_of sheet) (length (table_of sheet) / 2) part (omega (arith, part-all, entry-count, classes-low)) c (omega (arith, entry-count, h));
        head = λ i h.
            other i (λ e. omega (arith, e)) ∙ in-high.ahead i (omega arith) ∙ in-low.ahead i (omega arith) ∙ placed.ahead i (omega arith);
        rest = λ i h.
            other i (λ e. omega (arith, e)) ∙ in-high.behind i (omega arith) ∙ in-low.behind i (omega arith) ∙ placed.behind i (omega (arith, kept));
      }

-- ---- when classes are numbered

pub pays-short : (finder : List ℕ) → 2048 * listed_in finder < 2 ^ digits_in finder → false ≡ numbers_pay finder
unfolding numbers_pay
pays-short finder short =
    sym (ap (λ (t : Bool). t && leb (4 * 2 ^ digits_in finder + 1024 * listed_in finder) ((searches_in finder + 1) * listed_in finder * listed_in finder))
    (lt-leb _ _ short))

pub pays-long : (finder : List ℕ) → 2 ^ digits_in finder ≤ 2048 * listed_in finder
    → leb (4 * 2 ^ digits_in finder + 1024 * listed_in finder) ((searches_in finder + 1) * listed_in finder * listed_in finder) ≡ numbers_pay finder
unfolding numbers_pay
pays-long finder long =
    sym (ap (λ (t : Bool). t && leb (4 * 2 ^ digits_in finder + 1024 * listed_in finder) ((searches_in finder + 1) * listed_in finder * listed_in finder))
    (le-leb _ _ long))

pub pays-room : (finder : List ℕ) → numbers_pay finder ≡ true → 2 ^ digits_in finder ≤ 2048 * listed_in finder
unfolding numbers_pay
pays-room finder e = leb-true _ _ (and_both (leb (2 ^ digits_in finder) (2048 * listed_in finder)) _ e).0

-- the check of an accepted sheet gives its echelon form
pub checked-echelon : {sheet basis : List ℕ} (r : Result Sheet Refusal) → SheetInto sheet (replicate 11 0) r basis → sheet_check sheet ≡ done []
    → basis ≡ with_echelon (row_of sheet) (row_count sheet) (replicate 11 0)
checked-echelon (Ok s) checked ok = (accepted checked refl).basis-is
checked-echelon (Err f) checked ok =
    let other = turned-back checked refl in
    let z : ◌≡◌ {A = ℕ} 0 1 = cc in
    absurd (omega arith)
