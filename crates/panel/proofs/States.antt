-- The bytes of a state: its parts, and a state from its parts.
--   count_in, sweeps_in, block_in   the parts of a state: count, sweep number, block (specs State)
--   state_of count sweeps block   the state with these parts (specs State)
--   told state                   a state's count and sweep number, as a call answers them (specs Answer)
--   lent_block state              the bytes of a state from byte 4 on, as the code lends them on
--   with_block state block        a state when a block comes back in the place of those bytes
-- Laws are named by the part, then by where it is read: `-of` is a part of a state that is made of its parts. head-stored leads from the
-- copies of the bytes before a block to the state. Of a block that is lent on, block-lent is the part that is lent, block_back, block_same and
-- block-copied are the state when another, the same or a copied one is back.
use Rattle.std.proofs.Common.{ℕ, ◌+◌, ◌-◌, ◌/◌, ◌%◌, ◌≤◌, ◌<◌, List, [], ◌∷◌, ◌++◌, append-nil, ◌≡◌, refl, sym, ap, ap₂, ◌∙◌, div-add-mod'}
use Rattle.std.proofs.Common.{arith, length, take, drop, length-drop, take-append-drop, drop_of_length-le, length-take-le, take_all}
use Rattle.std.proofs.Common.{drop_at, drop-drop}
use borrow.Rule.Slice.PartMut.{put_mid}
use Rattle.bits.specs.Bit.{written}
use Rattle.inner_code.specs.Reply.{done}
use Rattle.panel.specs.State.{count_in, sweeps_in, block_in, state_of}
use Rattle.panel.specs.Answer.{told}

module _ (count sweeps : ℕ) (block : List ℕ) where
  pub count-of : count_in (state_of count sweeps block) ≡ count
  unfolding count_in state_of
  count-of = div-add-mod' count 256

  pub sweeps-of : sweeps_in (state_of count sweeps block) ≡ sweeps
  unfolding sweeps_in state_of
  sweeps-of = div-add-mod' sweeps 256

  pub block-of : block_in (state_of count sweeps block) ≡ block
  unfolding block_in state_of
  block-of = refl

  pub length-of : length (state_of count sweeps block) ≡ 4 + length block
  unfolding state_of
  length-of = omega arith

  pub told_of : told (state_of count sweeps block) ≡ done (count ∷ sweeps ∷ [])
  unfolding told
  told_of = ap₂ (λ (c s : ℕ). done (c ∷ s ∷ [])) count-of sweeps-of

-- the bytes of the two numbers, copied before a block
pub head-stored : (state : List ℕ) (count sweeps : ℕ) {first second : List ℕ} → 4 ≤ length state → count < 65536 → sweeps < 65536
    → first ≡ count / 256 % 256 ∷ count % 256 ∷ [] → second ≡ sweeps / 256 % 256 ∷ sweeps % 256 ∷ []
    → put_mid 2 (4 - 2) (put_mid 0 (2 - 0) state first) second ≡ state_of count sweeps (block_in state)
unfolding block_in state_of
head-stored [] count sweeps room low low' e f = absurd (omega arith)
head-stored (a ∷ []) count sweeps room low low' e f = absurd (omega arith)
head-stored (a ∷ b ∷ []) count sweeps room low low' e f = absurd (omega arith)
head-stored (a ∷ b ∷ c ∷ []) count sweeps room low low' e f = absurd (omega arith)
head-stored (a ∷ b ∷ c ∷ d ∷ block) count sweeps room low low' e f =
    let high : count / 256 % 256 ≡ count / 256 = omega arith in
    let high' : sweeps / 256 % 256 ≡ sweeps / 256 = omega arith in
    rw (e, f, high, high')

-- ---- a block that is lent on and comes back

abbrev pub lent_block : List ℕ → List ℕ
lent_block state = take (length state - 4) (drop 4 state)

abbrev pub with_block : List ℕ → List ℕ → List ℕ
with_block state block = take 4 state ++ (block ++ drop (length state - 4) (drop 4 state))

module _ (state : List ℕ) where
  pub block-lent : lent_block state ≡ block_in state
  unfolding block_in
  block-lent = take_all (length state - 4) (drop 4 state) (omega (arith, length-drop 4 state))

  -- nothing stands behind the block
  block-ends : (block : List ℕ) → with_block state block ≡ take 4 state ++ block
  block-ends block =
      let none = drop_of_length-le (drop 4 state) {i = length state - 4} (omega (arith, length-drop 4 state)) in
      ap (λ (rest : List ℕ). take 4 state ++ (block ++ rest)) none ∙ ap (λ (l : List ℕ). take 4 state ++ l) (append-nil block)

  pub block_back : 4 ≤ length state → (block : List ℕ) → block_in (with_block state block) ≡ block
  unfolding block_in
  block_back room block = ap (drop 4) (block-ends block) ∙ drop_at (take 4 state) block 4 (length-take-le 4 state room)

  pub block_same : (block : List ℕ) → block ≡ block_in state → with_block state block ≡ state
  unfolding block_in
  block_same block same = block-ends block ∙ ap (λ (l : List ℕ). take 4 state ++ l) same ∙ take-append-drop 4 state

  -- a block copied behind the count and sweep number
  pub block-copied : (count sweeps : ℕ) (old block : List ℕ) → state ≡ state_of count sweeps (block_in old)
      → with_block state (written block (lent_block state)) ≡ written (state_of count sweeps block) old
  unfolding written state_of block_in
  block-copied count sweeps old block is =
      block-ends _ ∙ ap (λ (l : List ℕ). take 4 state ++ written block l) block-lent
      ∙ ap (λ (s : List ℕ). take 4 s ++ written block (drop 4 s)) is
      ∙ ap (λ (l : List ℕ). state_of count sweeps (block ++ l)) (drop-drop (length block) 4 old)
      ∙ ap (λ (m : ℕ). state_of count sweeps (block ++ drop m old)) (sym (length-of count sweeps block))
