-- How the code walks over two blocks: none of this is needed to believe a contract of a service.
--   Held a b N           the bytes of both blocks hold N bits, 32,768 at most
--   Agreeing a b N i m   the m bits from bit i on agree, and where m is 0 bit i differs; they end before N + 1
use Rattle.std.specs.Prelude.{ℕ, ◌+◌, ◌*◌, ◌≤◌, ◌<◌, true, false, List, ◌≡◌, length}
use Rattle.report.specs.Report.{differs_at}

pub record Held (a b : List ℕ) (N : ℕ) : Type 0 where
  pub few : N ≤ 32768
  pub first : N ≤ length a * 8
  pub second : N ≤ length b * 8

pub record Agreeing (a b : List ℕ) (N i m : ℕ) : Type 0 where
  pub within : i + m ≤ N + 1
  pub none : m ≡ 0 → differs_at a b i ≡ true
  pub each : (j : ℕ) → j < m → differs_at a b (i + j) ≡ false
