-- How the code finds a sheet's nearest words, and what it keeps for that: none of this is needed to believe a contract of a service.
-- All that is kept stands in one list of 4,640 numbers of 16 bits, the finder:
--   listed_in finder      how many codewords are listed
--   digits_in finder      d, the number of digits of a word
--   numbered_in finder    1 where classes are numbered and have their entries, else they are named
--   searches_in finder    how many patterns were kept, as far as 16 bits go: each after a search of the codewords, or of the patterns of a single one
--   low_in finder m       what the rows leave of m, for m below 256; where classes are numbered the number of its class
--   high_in finder m      the same of 256 times m, for m below 256
--   left_in finder w      what the rows leave of w, by the tables: the exclusive-or of what they leave of its low and its high half; where
--                        classes are numbered the number of its class
--   name_in finder s      the class whose pattern slot s holds, named by what the rows leave of its words; 0, which names the codewords, in a slot
--                        that holds none
--   pattern_in finder s   the nearest pattern of that class's words
--   entry_in finder c     where classes are numbered, the nearest pattern of class c
--   word_in finder m      codeword m
-- What holds of a finder and of the functions over it:
--   Preparable sheet k basis finder  an accepted sheet with its k and its echelon form, and a finder of zeros
--   WellFormed finder    it has its length, and no more codewords and digits than a sheet can have
--   Named, Numbered sheet finder   the tables and patterns of a finder of either kind are the sheet's; classes are numbered where there are no
--                        more than there is room for
--   Finds sheet finder   the sheet is accepted, and all that the finder holds is the sheet's
--   Unkept sheet finder w left     classes are named, and w, of which the rows leave this, is no codeword: it is to be sought where no pattern is
--                        kept for it
--   Found sheet w r after          r is the step to the nearest word of w, and the finder finds the sheet's nearest words after
--   Fewer sheet basis    an accepted sheet with its echelon form, whose classes are no more than there is room for
--   Renumbered sheet before after  the finder with its classes numbered: the tables, an entry for each class; all but these parts stays
-- What the functions over a finder answer and leave:
--   power_left basis k from b    what the first k rows of the basis, 11 at most, leave of 2^(from + b)
--   power_number basis k from b  the number of its class
--   PowersBy gives row    all that is given for 2^(from + b), of 16 bits, is row from b
--   with_part start size f l     the list l with its `size` numbers from the place `start` on sent through f
--   with_halves row d finder     the finder with both its tables filled by such rows
--   codeword_by finder w  the test whether w is a codeword: the rows leave nothing
--   slot_of left          the slot for the words of which the rows leave this
--   single_more found p   one more pattern of a single one: p where none is found yet, and else 65,536, which is no pattern
--   single_below finder left b   the one 2^a, a below b, of which the rows leave this; 0 where there is none, 65,536 where there are more
--   single_in finder left that of all digits; 0 where no more than 64 codewords are listed
--   searched_in finder w  the nearest of the listed codewords; w itself in a tie
--   sought_by finder single w    w with the pattern of a single one put on it, w itself where there are more, the word searched for where there is
--                        none
--   entry_pattern d e     the pattern of an entry: its low d bits, and none at the mark
--   entries_of d table n l   the list l with the patterns of the first n entries of a table at its front
--   sheet_entries sheet l    the same of all entries of the sheet's table
--   renumbered_finder sheet basis finder   the finder with its classes numbered
--   numbers_pay finder    there is room for the entries of all classes, and one search more costs as much, with those made, as numbering does
use Rattle.std.specs.Prelude.{ℕ, zero, suc, ◌+◌, ◌-◌, ◌*◌, ◌/◌, ◌%◌, ◌^◌, ◌≤◌, ◌<◌, min, Bool, cond, ◌&&◌, List, [], ◌++◌, ◌≡◌, eqb, leb, length, get_or, set, take, drop, replicate}
use Rattle.std.specs.Int.Bits.{bit_xor}
use Rattle.bits.specs.Bit.{pair_at}
use Rattle.bits.specs.Window.{at}
use Rattle.inner_code.specs.Reply.{done}
use Rattle.inner_code.specs.Code.{combination, nearest_pattern, nearest_word, bits_changed}
use Rattle.inner_code.specs.Reduction.{reduced, reduced_by, with_echelon, listed, searched}
use Rattle.inner_code.specs.Sheet.{degree, row_count, row_of, sheet_check}
use Rattle.inner_code.specs.declared.nearest.Step.{Step}
use Rattle.tables.specs.Classes.{tie_mark}
use Rattle.tables.specs.Answer.{table_of}
use Rattle.tables.specs.Numbering.{number_of, free_mask, squeezed_by}

abbrev pub listed_in : List ℕ → ℕ
listed_in finder = get_or finder 0 0

abbrev pub digits_in : List ℕ → ℕ
digits_in finder = get_or finder 1 0

abbrev pub low_in : List ℕ → ℕ → ℕ
low_in finder m = get_or finder (32 + m) 0

abbrev pub high_in : List ℕ → ℕ → ℕ
high_in finder m = get_or finder (288 + m) 0

abbrev pub numbered_in : List ℕ → ℕ
numbered_in finder = get_or finder 2 0

abbrev pub searches_in : List ℕ → ℕ
searches_in finder = get_or finder 3 0

abbrev pub name_in : List ℕ → ℕ → ℕ
name_in finder s = get_or finder (544 + 2 * s) 0

abbrev pub pattern_in : List ℕ → ℕ → ℕ
pattern_in finder s = get_or finder (544 + 2 * s + 1) 0

abbrev pub entry_in : List ℕ → ℕ → ℕ
entry_in finder c = get_or finder (544 + c) 0

unfoldable pub word_in : List ℕ → ℕ → ℕ
word_in finder m = get_or finder (2592 + m) 0

unfoldable pub left_in : List ℕ → ℕ → ℕ
left_in finder w = bit_xor (low_in finder (w % 256)) (high_in finder (w / 256))

pub record Preparable (sheet : List ℕ) (k : ℕ) (basis finder : List ℕ) : Type 0 where
  pub accepted : sheet_check sheet ≡ done []
  pub rows : k ≡ row_count sheet
  pub echelon : basis ≡ with_echelon (row_of sheet) (row_count sheet) (replicate 11 0)
  pub zeros : finder ≡ replicate 4640 0

pub record WellFormed (finder : List ℕ) : Type 0 where
  pub sized : length finder ≡ 4640
  pub digits-high : digits_in finder ≤ 16
  pub listed-high : listed_in finder ≤ 2048

pub record Named (sheet finder : List ℕ) : Type 0 where
  pub left : (w : ℕ) → w < 2 ^ degree sheet → left_in finder w ≡ reduced (row_of sheet) (row_count sheet) w
  pub kept : (s w : ℕ) → s < 1024 → w < 2 ^ degree sheet → (left_in finder w ≡ 0 → ⊥) → name_in finder s ≡ left_in finder w
      → pattern_in finder s ≡ nearest_pattern (row_of sheet) (row_count sheet) (degree sheet) w

pub record Numbered (sheet finder : List ℕ) : Type 0 where
  pub left : (w : ℕ) → w < 2 ^ degree sheet → left_in finder w ≡ number_of (row_of sheet) (row_count sheet) w
  pub few : degree sheet - row_count sheet ≤ 11
  pub entry : (w : ℕ) → w < 2 ^ degree sheet → entry_in finder (left_in finder w) ≡ nearest_pattern (row_of sheet) (row_count sheet) (degree sheet) w

pub record Finds (sheet finder : List ℕ) : Type 0 where
  pub sized : length finder ≡ 4640
  pub accepted : sheet_check sheet ≡ done []
  pub digits : digits_in finder ≡ degree sheet
  pub listed : listed_in finder ≡ 2 ^ row_count sheet
  pub words : (m : ℕ) → m < 2 ^ row_count sheet → word_in finder m ≡ combination (row_of sheet) (row_count sheet) m
  pub named : (numbered_in finder ≡ 1 → ⊥) → Named sheet finder
  pub numbered : numbered_in finder ≡ 1 → Numbered sheet finder

pub record Unkept (sheet finder : List ℕ) (w left : ℕ) : Type 0 where
  pub finds : Finds sheet finder
  pub word_lt : w < 2 ^ degree sheet
  pub unnumbered : numbered_in finder ≡ 1 → ⊥
  pub left_is : left ≡ left_in finder w
  pub some : left ≡ 0 → ⊥

pub record Found (sheet : List ℕ) (w : ℕ) (r : Step) (after : List ℕ) : Type 0 where
  pub nearest : r.word ≡ nearest_word (row_of sheet) (row_count sheet) (degree sheet) w
  pub counted : r.changed ≡ bits_changed (row_of sheet) (row_count sheet) (degree sheet) w
  pub finds : Finds sheet after

unfoldable pub power_left : List ℕ → ℕ → ℕ → ℕ → ℕ
unfolding reduced_by at
power_left basis k from b = reduced_by (at basis) (min k 11) (2 ^ (from + b))

unfoldable pub power_number : List ℕ → ℕ → ℕ → ℕ → ℕ
unfolding power_left squeezed_by free_mask at
power_number basis k from b = squeezed_by (free_mask (at basis) (min k 11)) 16 (power_left basis k from b)

abbrev pub PowersBy : (ℕ → ℕ → Type 0) → (ℕ → ℕ → ℕ) → Type 0
PowersBy gives row = (from b r : ℕ) → from + b < 16 → gives (2 ^ (from + b)) r → r ≡ row from b

unfoldable pub with_part : ℕ → ℕ → (List ℕ → List ℕ) → List ℕ → List ℕ
with_part start size f l = take start l ++ (f (take size (drop start l)) ++ drop size (drop start l))

unfoldable pub with_halves : (ℕ → ℕ → ℕ) → ℕ → List ℕ → List ℕ
unfolding with_part listed
with_halves row d finder = with_part 288 256 (listed (row 8) (d - 8)) (with_part 32 256 (listed (row 0) 8) finder)

unfoldable pub codeword_by : List ℕ → ℕ → Bool
unfolding left_in
codeword_by finder w = eqb (left_in finder w) 0

unfoldable pub slot_of : ℕ → ℕ
slot_of left = bit_xor left (left / 32) % 1024

unfoldable pub single_more : ℕ → ℕ → ℕ
single_more found p = cond (eqb found 0) p 65536

unfoldable pub single_below : List ℕ → ℕ → ℕ → ℕ
unfolding left_in single_more
single_below finder left zero = 0
single_below finder left (suc b) =
    cond (eqb (left_in finder (2 ^ b)) left) (single_more (single_below finder left b) (2 ^ b)) (single_below finder left b)

unfoldable pub single_in : List ℕ → ℕ → ℕ
unfolding single_below
single_in finder left = cond (leb (listed_in finder) 64) 0 (single_below finder left (digits_in finder))

unfoldable pub searched_in : List ℕ → ℕ → ℕ
unfolding searched word_in
searched_in finder w = searched (word_in finder) (listed_in finder) w

unfoldable pub sought_by : List ℕ → ℕ → ℕ → ℕ
unfolding searched_in
sought_by finder single w = cond (eqb single 0) (searched_in finder w) (bit_xor w (single % 65536))

unfoldable pub entry_pattern : ℕ → ℕ → ℕ
unfolding tie_mark
entry_pattern d e = cond (eqb e tie_mark) 0 (e % 2 ^ d)

unfoldable pub entries_of : ℕ → List ℕ → ℕ → List ℕ → List ℕ
unfolding entry_pattern pair_at
entries_of d table zero l = l
entries_of d table (suc n) l = set (entries_of d table n l) n (entry_pattern d (pair_at table (2 * n)))

unfoldable pub sheet_entries : List ℕ → List ℕ → List ℕ
unfolding entries_of table_of degree
sheet_entries sheet l = entries_of (degree sheet) (table_of sheet) (length (table_of sheet) / 2) l

unfoldable pub renumbered_finder : List ℕ → List ℕ → List ℕ → List ℕ
unfolding with_part sheet_entries listed power_number degree row_count
renumbered_finder sheet basis finder =
    let entries : List ℕ = with_part 544 2048 (sheet_entries sheet) finder in
    let low : List ℕ = with_part 32 256 (listed (power_number basis (row_count sheet) 0) 8) entries in
    let high : List ℕ = with_part 288 256 (listed (power_number basis (row_count sheet) 8) (degree sheet - 8)) low in
    set high 2 1

pub record Renumbered (sheet before after : List ℕ) : Type 0 where
  pub sized : length after ≡ length before
  pub flag : numbered_in after ≡ 1
  pub low : (m : ℕ) → m < 2 ^ 8 → low_in after m ≡ number_of (row_of sheet) (row_count sheet) (m * 2 ^ 0)
  pub high : (m : ℕ) → m < 2 ^ (degree sheet - 8) → high_in after m ≡ number_of (row_of sheet) (row_count sheet) (m * 2 ^ 8)
  pub entry : (c : ℕ) → c < 2 ^ (degree sheet - row_count sheet) → entry_in after c ≡ entry_pattern (degree sheet) (pair_at (table_of sheet) (2 * c))
  pub head : (i : ℕ) → i < 2 → get_or after i 0 ≡ get_or before i 0
  pub rest : (i : ℕ) → 2592 ≤ i → get_or after i 0 ≡ get_or before i 0

unfoldable pub numbers_pay : List ℕ → Bool
numbers_pay finder =
    let words : ℕ = 2 ^ digits_in finder in
    let listed : ℕ = listed_in finder in
    leb words (2048 * listed) && leb (4 * words + 1024 * listed) ((searches_in finder + 1) * listed * listed)

pub record Fewer (sheet basis : List ℕ) : Type 0 where
  pub accepted : sheet_check sheet ≡ done []
  pub echelon : basis ≡ with_echelon (row_of sheet) (row_count sheet) (replicate 11 0)
  pub few : degree sheet - row_count sheet ≤ 11
