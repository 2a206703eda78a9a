-- How the code notes the ends of all edges: none of this is needed to believe a contract of a service.
--   Notable N dl dr wiring lefts rights  what the notes need to know: neither degree is 0, the wiring's N entries, at most 32,768, are the
--                                edges below N, each once, and each list has room for a vertex at each
--   Noted edge dl dr m lefts rights  the lists hold the ends that the first m entries name: at entry i of `lefts` the left vertex of edge i,
--                                which is edge i / dl, and at edge i of `rights` its right vertex, which is i / dr
use Rattle.std.specs.Prelude.{ℕ, ◌*◌, ◌/◌, ◌≤◌, ◌<◌, ◌≡◌, List, length}
use Rattle.bits.specs.Window.{at}
use Rattle.wiring.specs.Checking.{Permuted}

pub record Notable (N dl dr : ℕ) (wiring lefts rights : List ℕ) : Type 0 where
  pub left-low : 1 ≤ dl
  pub right-low : 1 ≤ dr
  pub few : N ≤ 32768
  pub sized : 2 * N ≤ length wiring
  pub permuted : Permuted N wiring
  pub room : N ≤ length lefts
  pub room-right : N ≤ length rights

pub record Noted (edge : ℕ → ℕ) (dl dr m : ℕ) (lefts rights : List ℕ) : Type 0 where
  pub left_is : (i : ℕ) → i < m → at lefts i ≡ edge i / dl
  pub right_is : (i : ℕ) → i < m → at rights (edge i) ≡ i / dr
