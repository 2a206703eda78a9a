-- The keys of classes, as the code keeps them while a table is built: patterns in the table, two bytes each, the rest in a list of costs.
--   key_at table costs c   the key of class c (specs Folding)
-- `pair-` laws are about the two bytes of a class, `lighter-` laws about two keys of one class, `copied-`, `folded-` and `marked-` laws about
-- one turn more of the code.
use Rattle.std.proofs.Common.{◌≡◌, refl, sym, ap, ap₂, ◌∙◌, Bool, cond, List, inl, inr, ⊎_elim, ℕ, ◌+◌, ◌*◌, ◌/◌, ◌%◌, ◌≤◌, ◌<◌, min, arith}
use Rattle.std.proofs.Common.{eq-eqb, ne_eqb, bit_xor, length, get_or, set, length-set, get_or-set_same, get_or-set_other}
use mathlib.Core.Path.{subst⁻¹}
use native.Mathlib.Decide.{ℕ_discrete, dec_lt}
use native.Mathlib.Nat.{min-eq_left, min-eq_right}
use lib.Bits.{xor_block}
use Rattle.bits.specs.Bit.{pair_at}
use Rattle.bits.proofs.Xor.{xor-cancel-right}
use Rattle.tables.specs.Classes.{tie_mark}
use Rattle.tables.specs.Folding.{key_at, lighter, marked_byte, marked, Puts, Paired, Copied, Folded, Marked}

-- ---- the bytes of a class

module _ (l : List ℕ) (c high low : ℕ) where
  abbrev stored : List ℕ
  stored = set (set l (2 * c) high) (2 * c + 1) low

  pub length-stored : length stored ≡ length l
  length-stored = length-set (set l (2 * c) high) (2 * c + 1) low ∙ length-set l (2 * c) high

  pub pair-stored : 2 * c + 2 ≤ length l → pair_at stored (2 * c) ≡ high * 256 + low
  unfolding pair_at
  pair-stored room =
      ap₂ (λ (x y : ℕ). x * 256 + y)
      (get_or-set_other (set l (2 * c) high) (2 * c + 1) (2 * c) low 0 (λ e. omega (arith, e)) ∙ get_or-set_same l (2 * c) high 0 (omega arith))
      (get_or-set_same (set l (2 * c) high) (2 * c + 1) low 0 (omega (arith, length-set l (2 * c) high)))

  pub pair-other : (j : ℕ) → (j ≡ c → ⊥) → pair_at stored (2 * j) ≡ pair_at l (2 * j)
  unfolding pair_at
  pair-other j differ = ap₂ (λ (x y : ℕ). x * 256 + y) (same (2 * j) (λ e. differ (omega (arith, e))) (λ e. omega (arith, e)))
      (same (2 * j + 1) (λ e. omega (arith, e)) (λ e. differ (omega (arith, e))))
    where
      same : (i : ℕ) → (i ≡ 2 * c → ⊥) → (i ≡ 2 * c + 1 → ⊥) → get_or (set (set l (2 * c) high) (2 * c + 1) low) i 0 ≡ get_or l i 0
      same i first second =
          get_or-set_other (set l (2 * c) high) (2 * c + 1) i low 0 second ∙ get_or-set_other l (2 * c) i high 0 first

pub puts-key : (table costs : List ℕ) (c key : ℕ) → 2 * c + 2 ≤ length table → c + 1 ≤ length costs → key < 16777216
    → Puts c key table costs (set (set table (2 * c) (key / 256 % 256)) (2 * c + 1) (key % 256)) (set costs c (key / 65536))
unfolding key_at
puts-key table costs c key room weights small =
    record {
      sized = length-stored table c (key / 256 % 256) (key % 256);
      costed = length-set costs c (key / 65536);
      here =
          ap₂ (λ (x y : ℕ). x * 65536 + y) (get_or-set_same costs c (key / 65536) 0 (omega arith))
          (pair-stored table c (key / 256 % 256) (key % 256) room)
          ∙ omega arith;
      other = λ j differ.
          ap₂ (λ (x y : ℕ). x * 65536 + y) (get_or-set_other costs c j (key / 65536) 0 differ)
          (pair-other table c (key / 256 % 256) (key % 256) j differ);
    }

-- ---- two keys of one class

module _ (here other : ℕ) where
  abbrev tied_key : ℕ
  tied_key = here / 131072 * 131072 + 65536 + here % 65536

  pub lighter-tie : here / 131072 ≡ other / 131072 → tied_key ≡ lighter here other
  unfolding lighter
  lighter-tie e = sym (ap (λ (u : Bool). cond u tied_key (min here other)) (eq-eqb _ _ e))

  pub lighter-other : (here / 131072 ≡ other / 131072 → ⊥) → other < here → other ≡ lighter here other
  unfolding lighter
  lighter-other e less = sym (ap (λ (u : Bool). cond u tied_key (min here other)) (ne_eqb _ _ e) ∙ min-eq_right (omega arith))

  pub lighter-here : (here / 131072 ≡ other / 131072 → ⊥) → here ≤ other → here ≡ lighter here other
  unfolding lighter
  lighter-here e less = sym (ap (λ (u : Bool). cond u tied_key (min here other)) (ne_eqb _ _ e) ∙ min-eq_left less)

  -- three bytes hold it where they hold the first key
  pub lighter-lt : here < 16777216 → lighter here other < 16777216
  lighter-lt small =
      elim (ℕ_discrete (here / 131072) (other / 131072)) [
        | yes e ↦ omega (arith, lighter-tie e)
        | no e ↦ elim (dec_lt other here) [
          | yes l ↦ omega (arith, lighter-other e l)
          | no l ↦ omega (arith, lighter-here e (omega arith))
        ]
      ]

-- a key stays beside a heavier one of its own
lighter-self : (key digit : ℕ) → key ≡ lighter key (key + (131072 + digit))
lighter-self key digit = lighter-here key (key + (131072 + digit)) (λ e. omega (arith, e)) (omega arith)

-- ---- copying

module _ (count digit m : ℕ) (table costs now left : List ℕ) (m-lt : m < count) (room : 4 * count ≤ length table)
    (weights : 2 * count ≤ length costs) (so : Copied count digit m table costs now left) where
  pub copied_more : (high low cost : ℕ) → ((i : ℕ) → get_or now i 0 < 256) → high ≡ bit_xor (get_or now (2 * m) 0) (digit / 256)
      → low ≡ bit_xor (get_or now (2 * m + 1) 0) (digit % 256) → cost ≡ get_or left m 0 + 2
      → Copied count digit (m + 1) table costs (set (set now (2 * (count + m)) high) (2 * (count + m) + 1) low) (set left (count + m) cost)
  unfolding pair_at
  copied_more high low cost bytes high_is low-is cost-is =
      record {
        sized = length-stored now (count + m) high low ∙ so.sized;
        costed = length-set left (count + m) cost ∙ so.costed;
        kept-cost = λ c l. get_or-set_other left (count + m) c cost 0 (λ e. omega (arith, e)) ∙ so.kept-cost c l;
        kept_byte = λ i l.
            get_or-set_other (set now (2 * (count + m)) high) (2 * (count + m) + 1) i low 0 (λ e. omega (arith, e))
            ∙ get_or-set_other now (2 * (count + m)) i high 0 (λ e. omega (arith, e)) ∙ so.kept_byte i l;
        new-cost = λ c l.
            elim (ℕ_discrete c m) [
              | yes e ↦
                  rw e (get_or-set_same left (count + m) cost 0 (omega (arith, so.costed)) ∙ cost-is
                  ∙ ap (λ (x : ℕ). x + 2) (so.kept-cost m m-lt))
              | no e ↦ get_or-set_other left (count + m) (count + c) cost 0 (λ q. e (omega (arith, q))) ∙ so.new-cost c (omega arith)
            ];
        new-pair = λ c l.
            elim (ℕ_discrete c m) [
              | yes e ↦ rw e put
              | no e ↦ pair-other now (count + m) high low (count + c) (λ q. e (omega (arith, q))) ∙ so.new-pair c (omega arith)
            ];
      }
    where
      put : pair_at (set (set now (2 * (count + m)) high) (2 * (count + m) + 1) low) (2 * (count + m)) ≡ bit_xor (pair_at table (2 * m)) digit
      put =
          let whole : digit / 256 * 256 + digit % 256 ≡ digit = omega arith in
          pair-stored now (count + m) high low (omega (arith, so.sized))
          ∙ ap₂ (λ (x y : ℕ). x * 256 + y) high_is low-is
          ∙ sym (xor_block 8 (get_or now (2 * m) 0) (digit / 256) (get_or now (2 * m + 1) 0) (digit % 256) (bytes (2 * m + 1)) (omega arith))
          ∙ ap₂ bit_xor
          (ap₂ (λ (x y : ℕ). x * 256 + y) (so.kept_byte (2 * m) (omega arith)) (so.kept_byte (2 * m + 1) (omega arith)))
          whole

-- ---- folding

module _ (count apart digit : ℕ) (table costs : List ℕ) where
  pub folded_start : Folded count apart digit 0 table costs table costs
  folded_start =
      record {
        sized = refl;
        costed = refl;
        new = λ c h w. ⊎_elim (λ (l : c < 0). absurd (omega arith)) (λ (l : bit_xor c apart < 0). absurd (omega arith)) w;
        old = λ c l m. refl;
      }

  module _ (m : ℕ) (now left : List ℕ) (m-lt : m < count) (so : Folded count apart digit m table costs now left) where
    back : (c : ℕ) → bit_xor (bit_xor c apart) apart ≡ c
    back c = xor-cancel-right c apart

    -- the class apart has had its turn before, or is the class itself
    pub folded-passed : bit_xor m apart ≤ m → Folded count apart digit (m + 1) table costs now left
    folded-passed le =
        record {
          sized = so.sized;
          costed = so.costed;
          new = λ c h w.
              elim (ℕ_discrete c m) [
                | yes e ↦ rw e here
                | no e ↦ elim (dec_lt c m) [
                  | yes l ↦ so.new c h (inl l)
                  | no l ↦
                      let reached : bit_xor c apart < m + 1 = ⊎_elim (λ (a : c < m + 1). omega arith) (λ (a : bit_xor c apart < m + 1). a) w in
                      elim (dec_lt (bit_xor c apart) m) [
                        | yes g ↦ so.new c h (inr g)
                        | no g ↦
                            let is : bit_xor c apart ≡ m = omega arith in
                            let that : bit_xor m apart ≡ c = ap (λ (x : ℕ). bit_xor x apart) (sym is) ∙ back c in
                            absurd (omega (arith, that, le))
                      ]
                ]
              ];
          old = λ c l g. so.old c (omega arith) (omega arith);
        }
      where
        here : key_at now left m ≡ lighter (key_at table costs m) (key_at table costs (bit_xor m apart) + (131072 + digit))
        here =
            elim (dec_lt (bit_xor m apart) m) [
              | yes l ↦ so.new m m-lt (inr l)
              | no l ↦
                  let itself : bit_xor m apart ≡ m = omega arith in
                  so.old m (omega arith) (omega arith)
                  ∙ lighter-self (key_at table costs m) digit
                  ∙ ap (λ (x : ℕ). lighter (key_at table costs m) (key_at table costs x + (131072 + digit))) (sym itself)
            ]

    -- a pair of classes that had no turn yet
    pub folded_both : (after rest : List ℕ) → m < bit_xor m apart → Paired m (bit_xor m apart) digit now left after rest
        → Folded count apart digit (m + 1) table costs after rest
    folded_both after rest less pair =
        record {
          sized = pair.sized ∙ so.sized;
          costed = pair.costed ∙ so.costed;
          new = λ c h w.
              elim (ℕ_discrete c m) [
                | yes e ↦ rw e (pair.first ∙ ap₂ (λ (x y : ℕ). lighter x (y + (131072 + digit))) mine theirs)
                | no e ↦ elim (ℕ_discrete c (bit_xor m apart)) [
                  | yes f ↦
                      rw f (pair.second
                      ∙ ap₂ (λ (x y : ℕ). lighter x (y + (131072 + digit))) theirs (mine ∙ ap (key_at table costs) (sym (back m))))
                  | no f ↦
                      pair.rest c e f
                      ∙ so.new c h (⊎_elim (λ (a : c < m + 1). inl (omega arith))
                      (λ (a : bit_xor c apart < m + 1).
                      inr (elim (ℕ_discrete (bit_xor c apart) m) [
                        | yes q ↦ absurd (f (sym (back c) ∙ ap (λ (x : ℕ). bit_xor x apart) q))
                        | no q ↦ omega arith
                      ])) w)
                ]
              ];
          old = λ c l g.
              pair.rest c (λ q. omega (arith, q)) (λ q. omega (arith, sym (ap (λ (x : ℕ). bit_xor x apart) q ∙ back m), g))
              ∙ so.old c (omega arith) (omega arith);
        }
      where
        mine : key_at now left m ≡ key_at table costs m
        mine = so.old m (omega arith) (omega arith)

        theirs : key_at now left (bit_xor m apart) ≡ key_at table costs (bit_xor m apart)
        theirs = so.old (bit_xor m apart) (omega arith) (omega (arith, back m))

pub folded-same : {count apart digit m : ℕ} {table costs : List ℕ} (now left after rest : List ℕ) → after ≡ now → rest ≡ left
    → Folded count apart digit m table costs now left → Folded count apart digit m table costs after rest
folded-same {count = count} {apart = apart} {digit = digit} {m = m} {table = table} {costs = costs} now left after rest e f so =
    subst⁻¹ (λ (l : List ℕ). Folded count apart digit m table costs l rest) e
    (subst⁻¹ (λ (l : List ℕ). Folded count apart digit m table costs now l) f so)

-- ---- marking

pub byte-marked : (cost byte : ℕ) → cost % 2 ≡ 1 → marked_byte cost byte ≡ 255
unfolding marked_byte
byte-marked cost byte e = rw (eq-eqb _ _ e)

pub byte-kept : (cost byte : ℕ) → (cost % 2 ≡ 1 → ⊥) → marked_byte cost byte ≡ byte
unfolding marked_byte
byte-kept cost byte e = rw (ne_eqb _ _ e)

-- two bytes
pair-marked : (cost a b : ℕ) → marked_byte cost a * 256 + marked_byte cost b ≡ marked cost (a * 256 + b)
unfolding marked tie_mark
pair-marked cost a b =
    elim (ℕ_discrete (cost % 2) 1) [
      | yes e ↦ ap₂ (λ (x y : ℕ). x * 256 + y) (byte-marked cost a e) (byte-marked cost b e) ∙ sym (rw (eq-eqb _ _ e))
      | no e ↦ ap₂ (λ (x y : ℕ). x * 256 + y) (byte-kept cost a e) (byte-kept cost b e) ∙ sym (rw (ne_eqb _ _ e))
    ]

pub marked_more : (m : ℕ) (table costs now : List ℕ) (high low : ℕ) → Marked m table costs now → 2 * m + 2 ≤ length table
    → high ≡ marked_byte (get_or costs m 0) (get_or now (2 * m) 0) → low ≡ marked_byte (get_or costs m 0) (get_or now (2 * m + 1) 0)
    → Marked (m + 1) table costs (set (set now (2 * m) high) (2 * m + 1) low)
unfolding pair_at
marked_more m table costs now high low so room high_is low-is =
    record {
      sized = length-stored now m high low ∙ so.sized;
      new = λ c h.
          elim (ℕ_discrete c m) [
            | yes e ↦
                rw e (pair-stored now m high low (omega (arith, so.sized))
                ∙ ap₂ (λ (x y : ℕ). x * 256 + y) high_is low-is
                ∙ pair-marked (get_or costs m 0) (get_or now (2 * m) 0) (get_or now (2 * m + 1) 0)
                ∙ ap₂ (λ (x y : ℕ). marked (get_or costs m 0) (x * 256 + y)) (so.old (2 * m) (omega arith)) (so.old (2 * m + 1) (omega arith)))
            | no e ↦ pair-other now m high low c e ∙ so.new c (omega arith)
          ];
      old = λ i h.
          get_or-set_other (set now (2 * m) high) (2 * m + 1) i low 0 (λ e. omega (arith, e))
          ∙ get_or-set_other now (2 * m) i high 0 (λ e. omega (arith, e)) ∙ so.old i (omega arith);
    }
