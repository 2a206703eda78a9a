-- The house code's table of nearest words and its rule: one test that the checker computes over the whole table, and one law that
-- carries it to each entry.
--   house_words       the table, as it stands in the source
--   house_words-rule  each entry is the nearest word of its place
use Rattle.std.proofs.Common.{◌≡◌, refl, ◌∙◌, Bool, false, not, List, [], ◌∷◌, ℕ, zero, suc, ◌^◌, ◌<◌, arith, eqb-true, eqb, lit<, get_or}
use borrow.Author.Tests.{not-false}
use lib.Count.{ones, ones_in}
use Rattle.bits.specs.Bit.{digit, pair_at}
use Rattle.bits.specs.Search.{least, some_below}
use Rattle.inner_code.specs.Code.{combination, is_codeword, distance, key, no_key, nearest_word}
use Rattle.inner_code.specs.Reduction.{least_key, back_key, least_back, sole, searched, ones_unless_zero, fewest_ones}
use Rattle.inner_code.specs.Sheet.{degree, row_count, row_of, row_check, rows_check, sheet_check}
use Rattle.inner_code.specs.Reply.{done, refuse_if, and_then}
use Rattle.inner_code.specs.House.{house_sheet}
use Rattle.bits.proofs.Searches.{none-below-each}
use Rattle.inner_code.proofs.NearestWord.{nearest-searched}

unfoldable pub house_words : List ℕ
house_words =
    0 ∷ 0 ∷ 0 ∷ 3 ∷ 0 ∷ 5 ∷ 6 ∷ 15 ∷ 0 ∷ 9 ∷ 10 ∷ 15 ∷ 12 ∷ 15 ∷ 15 ∷ 15 ∷ 0 ∷ 17 ∷ 18 ∷ 51 ∷ 20 ∷ 85 ∷ 150 ∷ 23 ∷ 24 ∷
    153 ∷ 90 ∷ 27 ∷ 60 ∷ 29 ∷ 30 ∷ 15 ∷ 0 ∷ 33 ∷ 34 ∷ 51 ∷ 36 ∷ 165 ∷ 102 ∷ 39 ∷ 40 ∷ 105 ∷ 170 ∷ 43 ∷ 60 ∷ 45 ∷ 46 ∷
    15 ∷ 48 ∷ 51 ∷ 51 ∷ 51 ∷ 60 ∷ 53 ∷ 54 ∷ 51 ∷ 60 ∷ 57 ∷ 58 ∷ 51 ∷ 60 ∷ 60 ∷ 60 ∷ 63 ∷ 0 ∷ 65 ∷ 66 ∷ 195 ∷ 68 ∷ 85 ∷
    102 ∷ 71 ∷ 72 ∷ 105 ∷ 90 ∷ 75 ∷ 204 ∷ 77 ∷ 78 ∷ 15 ∷ 80 ∷ 85 ∷ 90 ∷ 83 ∷ 85 ∷ 85 ∷ 86 ∷ 85 ∷ 90 ∷ 89 ∷ 90 ∷ 90 ∷
    92 ∷ 85 ∷ 90 ∷ 95 ∷ 96 ∷ 105 ∷ 102 ∷ 99 ∷ 102 ∷ 101 ∷ 102 ∷ 102 ∷ 105 ∷ 105 ∷ 106 ∷ 105 ∷ 108 ∷ 105 ∷ 102 ∷ 111 ∷
    240 ∷ 113 ∷ 114 ∷ 51 ∷ 116 ∷ 85 ∷ 102 ∷ 119 ∷ 120 ∷ 105 ∷ 90 ∷ 123 ∷ 60 ∷ 125 ∷ 126 ∷ 255 ∷ 0 ∷ 129 ∷ 130 ∷ 195 ∷
    132 ∷ 165 ∷ 150 ∷ 135 ∷ 136 ∷ 153 ∷ 170 ∷ 139 ∷ 204 ∷ 141 ∷ 142 ∷ 15 ∷ 144 ∷ 153 ∷ 150 ∷ 147 ∷ 150 ∷ 149 ∷ 150 ∷
    150 ∷ 153 ∷ 153 ∷ 154 ∷ 153 ∷ 156 ∷ 153 ∷ 150 ∷ 159 ∷ 160 ∷ 165 ∷ 170 ∷ 163 ∷ 165 ∷ 165 ∷ 166 ∷ 165 ∷ 170 ∷ 169 ∷
    170 ∷ 170 ∷ 172 ∷ 165 ∷ 170 ∷ 175 ∷ 240 ∷ 177 ∷ 178 ∷ 51 ∷ 180 ∷ 165 ∷ 150 ∷ 183 ∷ 184 ∷ 153 ∷ 170 ∷ 187 ∷ 60 ∷
    189 ∷ 190 ∷ 255 ∷ 192 ∷ 195 ∷ 195 ∷ 195 ∷ 204 ∷ 197 ∷ 198 ∷ 195 ∷ 204 ∷ 201 ∷ 202 ∷ 195 ∷ 204 ∷ 204 ∷ 204 ∷ 207 ∷
    240 ∷ 209 ∷ 210 ∷ 195 ∷ 212 ∷ 85 ∷ 150 ∷ 215 ∷ 216 ∷ 153 ∷ 90 ∷ 219 ∷ 204 ∷ 221 ∷ 222 ∷ 255 ∷ 240 ∷ 225 ∷ 226 ∷
    195 ∷ 228 ∷ 165 ∷ 102 ∷ 231 ∷ 232 ∷ 105 ∷ 170 ∷ 235 ∷ 204 ∷ 237 ∷ 238 ∷ 255 ∷ 240 ∷ 240 ∷ 240 ∷ 243 ∷ 240 ∷ 245 ∷
    246 ∷ 255 ∷ 240 ∷ 249 ∷ 250 ∷ 255 ∷ 252 ∷ 255 ∷ 255 ∷ 255 ∷ []

-- an entry that is not what the search over the sixteen codewords finds
wrong_at : ℕ → Bool
wrong_at w = not (eqb (get_or house_words w 0) (searched (combination (row_of house_sheet) 4) 16 w))

none-wrong : some_below 256 wrong_at ≡ false
unfolding some_below wrong_at house_words searched sole least_key least_back least key back_key no_key ones ones_in combination digit row_of pair_at house_sheet
none-wrong = refl

pub house-row-lt : (i : ℕ) → i < 4 → (row_of house_sheet) i < 2 ^ 8
unfolding row_of pair_at house_sheet
house-row-lt zero h = lit< tt
house-row-lt (suc zero) h = lit< tt
house-row-lt (suc (suc zero)) h = lit< tt
house-row-lt (suc (suc (suc zero))) h = lit< tt
house-row-lt (suc (suc (suc (suc i)))) h = absurd (omega arith)

pub house_words-rule : (w : ℕ) → w < 256 → get_or house_words w 0 ≡ nearest_word (row_of house_sheet) 4 8 w
unfolding wrong_at
house_words-rule w h =
    eqb-true _ _ (not-false _ (none-below-each 256 wrong_at none-wrong w h))
    ∙ nearest-searched (row_of house_sheet) 4 8 (omega arith) house-row-lt (combination (row_of house_sheet) 4) (λ m l. refl) w h

-- the house sheet is accepted, and its distance is 4
pub house-accepted : sheet_check house_sheet ≡ done []
unfolding sheet_check refuse_if and_then rows_check row_check is_codeword some_below combination digit degree row_count row_of pair_at house_sheet
house-accepted = refl

pub house-distance : distance (row_of house_sheet) 4 ≡ 4
unfolding distance fewest_ones least ones_unless_zero ones ones_in combination digit row_of pair_at house_sheet
house-distance = refl
