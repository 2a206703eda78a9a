-- The house code: d 8, k 4, rows FF, 0F, 33, 55, D = 4.
--   house_sheet   its sheet
--   house_code    its values
--   HouseTable   what its table of nearest words holds
use Rattle.std.specs.Prelude.{ℕ, ◌<◌, ◌≡◌, List, [], ◌∷◌, length, get_or}
use Rattle.inner_code.specs.Code.{nearest_word}
use Rattle.inner_code.specs.Sheet.{row_of}
use Rattle.inner_code.specs.declared.house.HouseCode.{HouseCode}

unfoldable pub house_sheet : List ℕ
house_sheet = 8 ∷ 4 ∷ 0 ∷ 0xff ∷ 0 ∷ 0x0f ∷ 0 ∷ 0x33 ∷ 0 ∷ 0x55 ∷ []

unfoldable pub house_code : HouseCode
house_code = record { d = 8; k = 4; distance = 4; rows = 0xff ∷ 0x0f ∷ 0x33 ∷ 0x55 ∷ [] }

pub record HouseTable (table : List ℕ) : Type 0 where
  pub sized : length table ≡ 256
  pub entry : (w : ℕ) → w < 256 → get_or table w 0 ≡ nearest_word (row_of house_sheet) 4 8 w
