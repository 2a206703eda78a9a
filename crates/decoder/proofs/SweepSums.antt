-- How many bits each sweep changes: the sums as the code notes them, one after the other.
--   swept_block plan i block      the block after i sweeps (specs Decode)
--   sweep_sum plan block i        how many bits sweep i + 1 changes (specs Decode)
--   sweep_sums plan block made    the sums of the first 64 sweeps, where so many sweeps are made (specs Decode)
--   noted sums i H changed       the sums with that of sweep i + 1 in them, where it is one of the H sweeps and one that is told (specs Turns)
--   told plan block made i       the sum of sweep i + 1, where so many sweeps are made
-- Laws are named by their subject, then by the fact: `told-` and `sum-` are about one sum, `sums-` about the sums where so many sweeps are
-- made, `noted-` about one more of them that is noted.
use Rattle.std.proofs.Common.{ℕ, ◌+◌, ◌≤◌, ◌<◌, min, cond, List, ◌≡◌, sym, ap, ◌∙◌, arith, ltb, length, get_or, set, replicate, length-set}
use Rattle.std.proofs.Common.{get_or-set_same, get_or-set_other, lt-ltb, le-ltb}
use native.Mathlib.Nat.{min-eq_left, min-eq_right}
use native.Mathlib.Decide.{ℕ_discrete, dec_le}
use lib.ListN.{length-replicate, get_or-replicate}
use Rattle.bits.proofs.Flips.{flips-le}
use Rattle.bits.proofs.Values.{length-values, values-at, values-ext}
use Rattle.wiring.specs.Plan.{Plan, edge_count}
use Rattle.decoder.specs.Decode.{swept_block, sweep_sum, sweep_sums}
use Rattle.decoder.specs.Turns.{noted}

module _ (sums : List ℕ) (i H changed : ℕ) where
  pub noted-told : i < H → i < 64 → noted sums i H changed ≡ set sums i changed
  unfolding noted
  noted-told within near = rw (lt-ltb i (min H 64) (omega arith))

  pub noted-untold : min H 64 ≤ i → noted sums i H changed ≡ sums
  unfolding noted
  noted-untold past = rw (le-ltb i (min H 64) past)

module _ (plan : Plan) (block : List ℕ) where
  -- the sum of sweep i + 1, where so many sweeps are made
  abbrev told : ℕ → ℕ → ℕ
  told made i = cond (ltb i made) (sweep_sum plan block i) 0

  told-made : (made i : ℕ) → i < made → told made i ≡ sweep_sum plan block i
  told-made made i l = rw (lt-ltb i made l)

  told_none : (made i : ℕ) → made ≤ i → told made i ≡ 0
  told_none made i l = rw (le-ltb i made l)

  pub length-sums : (made : ℕ) → length (sweep_sums plan block made) ≡ 64
  unfolding sweep_sums
  length-sums made = length-values 64 (told made)

  sums_at : (made i : ℕ) → i < 64 → get_or (sweep_sums plan block made) i 0 ≡ told made i
  unfolding sweep_sums
  sums_at made = values-at 64 (told made)

  sums-ext : (made : ℕ) (l : List ℕ) → length l ≡ 64 → ((i : ℕ) → i < 64 → get_or l i 0 ≡ told made i) → l ≡ sweep_sums plan block made
  unfolding sweep_sums
  sums-ext made = values-ext 64 (told made)

  -- a sweep changes no more bits than there are
  pub sum-le : (i : ℕ) → sweep_sum plan block i ≤ edge_count plan
  unfolding sweep_sum
  sum-le i = flips-le (edge_count plan) (swept_block plan i block) (swept_block plan (i + 1) block)

  pub sums-made : (made i : ℕ) → i < 64 → i < made → get_or (sweep_sums plan block made) i 0 ≡ sweep_sum plan block i
  sums-made made i h l = sums_at made i h ∙ told-made made i l

  -- no sweep is made
  pub sums-zero : replicate 64 0 ≡ sweep_sums plan block 0
  sums-zero =
      sums-ext 0 (replicate 64 0) (length-replicate {A = ℕ} 64 0)
      (λ i h. get_or-replicate {A = ℕ} 64 i 0 0 h ∙ sym (told_none 0 i (omega arith)))

  -- one more sweep that is made is a matter of its own sum alone
  told-other : (i j : ℕ) → (j ≡ i → ⊥) → told i j ≡ told (i + 1) j
  told-other i j apart =
      elim (dec_le i j) [
        | yes past ↦ told_none i j past ∙ sym (told_none (i + 1) j (omega arith))
        | no made ↦ told-made i j (omega arith) ∙ sym (told-made (i + 1) j (omega arith))
      ]

  -- it is noted, or past the sums that are told
  sums-noted : (i : ℕ) → i < 64 → set (sweep_sums plan block i) i (sweep_sum plan block i) ≡ sweep_sums plan block (i + 1)
  sums-noted i h = sums-ext (i + 1) _ (length-set (sweep_sums plan block i) i _ ∙ length-sums i) each
    where
      each : (j : ℕ) → j < 64 → get_or (set (sweep_sums plan block i) i (sweep_sum plan block i)) j 0 ≡ told (i + 1) j
      each j l =
          elim (ℕ_discrete j i) [
            | yes e ↦
                rw e (get_or-set_same (sweep_sums plan block i) i _ 0 (omega (arith, length-sums i)) ∙ sym (told-made (i + 1) i (omega arith)))
            | no apart ↦ get_or-set_other (sweep_sums plan block i) i j _ 0 apart ∙ sums_at i j l ∙ told-other i j apart
          ]

  sums_same : (i : ℕ) → ((j : ℕ) → j < 64 → told i j ≡ told (i + 1) j) → sweep_sums plan block i ≡ sweep_sums plan block (i + 1)
  sums_same i same = sums-ext (i + 1) (sweep_sums plan block i) (length-sums i) (λ j h. sums_at i j h ∙ same j h)

  sums-past : (i : ℕ) → 64 ≤ i → sweep_sums plan block i ≡ sweep_sums plan block (i + 1)
  sums-past i h = sums_same i (λ j l. told-other i j (λ e. omega arith))

  -- ---- with a limit: sweeps made beyond it are not told

  pub noted_more : (H i : ℕ) {changed : ℕ} {sums after : List ℕ} → sums ≡ sweep_sums plan block (min i H) → changed ≡ sweep_sum plan block i
      → after ≡ noted sums i H changed → after ≡ sweep_sums plan block (min (i + 1) H)
  noted_more H i {changed} {sums} so_far counted e =
      elim (dec_le H i) [
        | yes past ↦
            let here : min i H ≡ H = min-eq_right past in
            let next : min (i + 1) H ≡ H = min-eq_right (omega arith) in
            e ∙ noted-untold sums i H changed (omega arith) ∙ so_far ∙ ap (sweep_sums plan block) (here ∙ sym next)
        | no within ↦
            let here : min i H ≡ i = min-eq_left (omega arith) in
            let next : min (i + 1) H ≡ i + 1 = min-eq_left (omega arith) in
            elim (dec_le 64 i) [
              | yes far ↦
                  e ∙ noted-untold sums i H changed (omega arith) ∙ so_far
                  ∙ ap (sweep_sums plan block) here ∙ sums-past i far ∙ ap (sweep_sums plan block) (sym next)
              | no near ↦
                  e ∙ noted-told sums i H changed (omega arith) (omega arith)
                  ∙ rw (so_far, here, counted, next) (sums-noted i (omega arith))
            ]
      ]

  -- sweeps from sweep i + 1 on that change nothing
  pub noted-still : (H i : ℕ) → ((j : ℕ) → i ≤ j → sweep_sum plan block j ≡ 0) → sweep_sums plan block (min i H) ≡ sweep_sums plan block H
  noted-still H i none = sums-ext H (sweep_sums plan block (min i H)) (length-sums (min i H)) (λ j h. sums_at (min i H) j h ∙ same j)
    where
      same : (j : ℕ) → told (min i H) j ≡ told H j
      same j =
          elim (dec_le H j) [
            | yes past ↦ told_none (min i H) j (omega arith) ∙ sym (told_none H j past)
            | no within ↦
                elim (dec_le i j) [
                  | yes still ↦ told_none (min i H) j (omega arith) ∙ sym (told-made H j (omega arith) ∙ none j still)
                  | no made ↦ told-made (min i H) j (omega arith) ∙ sym (told-made H j (omega arith))
                ]
          ]
