-- How a decoder call ended: none of this is needed to believe a contract of a service.
--   sweeps_of outcome      the sweeps after which the block settled; 4,097, one more than a call may allow, where the call was refused
use Rattle.std.specs.Prelude.{ℕ, Result, Ok, Err}
use Rattle.inner_code.specs.declared.refusal.Refusal.{Refusal}

abbrev pub sweeps_of : Result ℕ Refusal → ℕ
sweeps_of (Ok count) = count
sweeps_of (Err r) = 4097
