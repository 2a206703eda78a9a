-- `decoder::refuse` meets its contract: its sums are zeros, and so is its number of visits.
use Rattle.std.proofs.Common.{refl}
use Rattle.decoder.proofs.decoding.refuse.Goals as goal

pub returns : goal.returns
returns c = record {
  outcome_value = refl;
  sums_value = refl;
  visits_value = refl;
}
