-- How the code builds a table, one digit of the patterns after another: none of this is needed to believe a contract of a service.
-- While it is built each class has a key: (2 * ones + tie) * 65536 + pattern, for a pattern of the fewest ones among those tried so far, with
-- tie 1 where another has as few. Patterns stand in the table, two bytes each, high byte first, and the rest of the keys in a list of costs.
--   key_at table costs c     the key of class c
--   lighter here other      of two keys of one class, for different patterns, the one of fewer ones; where they have the same ones, a tie
--   marked cost pattern     the entry of a class: its pattern, or the mark for a tie; marked_byte the same of one of its bytes
--   Lightest number b c key   among the patterns below 2^b that `number` takes to c, the key's has the fewest ones, and its tie says whether
--                           another has as few
--   Room count table costs  there is room for the keys of so many classes
--   Puts c key              the key of class c is put, and every other one stays
--   Paired c other digit    each of two classes has the lighter of its key and the other's, with a digit put on, and every other key stays
--   Copied count digit m    the first m of `count` keys stand again behind all of them, with a digit put on their patterns
--   Folded count apart digit m   each class c below m, and that `apart` from it, has the lighter of its key and the other's, with a digit put on
--   Marked m                the first m classes have their entries in place of the keys' patterns
use Rattle.std.specs.Prelude.{ℕ, ◌+◌, ◌*◌, ◌/◌, ◌%◌, ◌^◌, ◌≤◌, ◌<◌, min, cond, List, [], ◌⊎◌, ◌≡◌, eqb, length, get_or, replicate}
use Rattle.std.specs.Int.Bits.{bit_xor}
use Rattle.std.specs.Int.Count.{ones}
use Rattle.bits.specs.Bit.{pair_at}
use Rattle.inner_code.specs.Reply.{done}
use Rattle.inner_code.specs.Reduction.{with_echelon}
use Rattle.inner_code.specs.Sheet.{row_count, row_of, sheet_check}
use Rattle.tables.specs.Classes.{tie_mark}
use Rattle.tables.specs.Answer.{table_bytes}
use Rattle.tables.specs.Numbering.{free_below, number_of}

unfoldable pub key_at : List ℕ → List ℕ → ℕ → ℕ
unfolding pair_at
key_at table costs c = get_or costs c 0 * 65536 + pair_at table (2 * c)

unfoldable pub lighter : ℕ → ℕ → ℕ
lighter here other = cond (eqb (here / 131072) (other / 131072)) (here / 131072 * 131072 + 65536 + here % 65536) (min here other)

unfoldable pub marked_byte : ℕ → ℕ → ℕ
marked_byte cost byte = cond (eqb (cost % 2) 1) 255 byte

unfoldable pub marked : ℕ → ℕ → ℕ
unfolding tie_mark
marked cost pattern = cond (eqb (cost % 2) 1) tie_mark pattern

pub record Lightest (number : ℕ → ℕ) (b c key : ℕ) : Type 0 where
  pub pattern : ℕ
  pub tie : ℕ
  pub is : key ≡ (2 * ones pattern + tie) * 65536 + pattern
  pub bit : tie < 2
  pub low : pattern < 2 ^ b
  pub numbered : number pattern ≡ c
  pub light : (p : ℕ) → p < 2 ^ b → number p ≡ c → ones pattern ≤ ones p
  pub sole : tie ≡ 0 → (p : ℕ) → p < 2 ^ b → number p ≡ c → ones p ≡ ones pattern → p ≡ pattern
  pub shared : tie ≡ 1 → (p : ℕ) × (p < 2 ^ b) × (number p ≡ c) × (ones p ≡ ones pattern) × (p ≡ pattern → ⊥)

pub record Room (count : ℕ) (table costs : List ℕ) : Type 0 where
  pub entries : 2 * count ≤ length table
  pub weights : count ≤ length costs
  pub few : count ≤ 32768

pub record Puts (c key : ℕ) (table costs after left : List ℕ) : Type 0 where
  pub sized : length after ≡ length table
  pub costed : length left ≡ length costs
  pub here : key_at after left c ≡ key
  pub other : (j : ℕ) → (j ≡ c → ⊥) → key_at after left j ≡ key_at table costs j

pub record Paired (c other digit : ℕ) (table costs after left : List ℕ) : Type 0 where
  pub sized : length after ≡ length table
  pub costed : length left ≡ length costs
  pub first : key_at after left c ≡ lighter (key_at table costs c) (key_at table costs other + (131072 + digit))
  pub second : key_at after left other ≡ lighter (key_at table costs other) (key_at table costs c + (131072 + digit))
  pub rest : (j : ℕ) → (j ≡ c → ⊥) → (j ≡ other → ⊥) → key_at after left j ≡ key_at table costs j

pub record Copied (count digit m : ℕ) (table costs after left : List ℕ) : Type 0 where
  pub sized : length after ≡ length table
  pub costed : length left ≡ length costs
  pub kept-cost : (c : ℕ) → c < count → get_or left c 0 ≡ get_or costs c 0
  pub kept_byte : (i : ℕ) → i < 2 * count → get_or after i 0 ≡ get_or table i 0
  pub new-cost : (c : ℕ) → c < m → get_or left (count + c) 0 ≡ get_or costs c 0 + 2
  pub new-pair : (c : ℕ) → c < m → pair_at after (2 * (count + c)) ≡ bit_xor (pair_at table (2 * c)) digit

pub record Folded (count apart digit m : ℕ) (table costs after left : List ℕ) : Type 0 where
  pub sized : length after ≡ length table
  pub costed : length left ≡ length costs
  pub new : (c : ℕ) → c < count → (c < m) ⊎ (bit_xor c apart < m)
      → key_at after left c ≡ lighter (key_at table costs c) (key_at table costs (bit_xor c apart) + (131072 + digit))
  pub old : (c : ℕ) → m ≤ c → m ≤ bit_xor c apart → key_at after left c ≡ key_at table costs c

pub record Marked (m : ℕ) (table costs after : List ℕ) : Type 0 where
  pub sized : length after ≡ length table
  pub new : (c : ℕ) → c < m → pair_at after (2 * c) ≡ marked (get_or costs c 0) (pair_at table (2 * c))
  pub old : (i : ℕ) → 2 * m ≤ i → get_or after i 0 ≡ get_or table i 0

-- all that filling a table needs: an accepted sheet with its echelon form, and a table of the right length
pub record Sized (sheet basis table : List ℕ) : Type 0 where
  pub accepted : sheet_check sheet ≡ done []
  pub echelon : basis ≡ with_echelon (row_of sheet) (row_count sheet) (replicate 11 0)
  pub sized : length table ≡ table_bytes sheet

-- the table after the digits below b: so many classes are reached, and each has its lightest pattern of those below 2^b
pub record Filled (sheet : List ℕ) (b count : ℕ) (table costs : List ℕ) : Type 0 where
  pub counted : count ≡ 2 ^ free_below (row_of sheet) (row_count sheet) b
  pub each : (c : ℕ) → c < count → Lightest (number_of (row_of sheet) (row_count sheet)) b c (key_at table costs c)
