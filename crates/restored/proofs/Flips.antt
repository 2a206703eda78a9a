-- Flipping one bit of a block brings it at most one bit further from another.
--   Flipped sent a b most      the block b is at most so many bits further from the sent one than a (specs Flip)
-- Laws are named `flipped-` and the fact.
use Rattle.std.proofs.Common.{List, ℕ, ◌+◌, ◌≤◌, ◌<◌, arith}
use Rattle.bits.specs.Bit.{with_bit}
use Rattle.bits.proofs.Flips.{flips-one}
use Rattle.bits.proofs.Bytes.{with_bit-byte}
use Rattle.restored.specs.Flip.{Flipped}

pub flipped-none : (sent block : List ℕ) → Flipped sent block block 0
flipped-none sent block = record { few = omega arith; bytes = λ h. h }

pub flipped-one : (sent block : List ℕ) (i b : ℕ) → i < 64 → b < 2 → Flipped sent block (with_bit block i b) 1
flipped-one sent block i b h l = record { few = flips-one 64 sent block i b h l; bytes = with_bit-byte block i b l }

pub flipped-then : {sent a b c : List ℕ} {m n : ℕ} → Flipped sent a b m → Flipped sent b c n → Flipped sent a c (m + n)
flipped-then p q = record { few = omega (arith, p.few, q.few); bytes = λ h. q.bytes (p.bytes h) }

pub flipped-most : {sent a b : List ℕ} {m n : ℕ} → m ≤ n → Flipped sent a b m → Flipped sent a b n
flipped-most l p = record { few = omega (arith, p.few); bytes = p.bytes }
