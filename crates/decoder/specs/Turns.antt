-- How the code makes one sweep after another and tells what they come to: none of this is needed to believe a contract of a service.
--   Tried plan block H count sums visits swept  a trial of a block with limit H as the code makes it: its count, sums and visits, and the block that
--                               it leaves
--   Passed plan received lost room H  what a call knows that nothing stops before it decodes
--   noted sums i H changed      the sums with that of sweep i + 1 in them, where it is one of the H sweeps and one that is told
--   added_visits visits i H more  the visits with those of sweep i + 1, where it is one of the H sweeps
--   ended_to H count ties sums visits both  what is told where the second sweep changed nothing: the block settled at `count` where no sweep left a
--                               tie, and else never does
--   Midway plan received H count sums visits kept block  `count` sweeps are made, two at least, at no count before which the block was settled: the
--                               block, sums and visits so far, and what is kept of the news
--   Opened plan received H opening kept block  the first two sweeps as the code makes them: they end it, or they are made and a third is
--   OpenedSome plan opening kept block  the same of some received block
--   ByTrial received H trial out r after  the answer by the trial that is kept, whose block stands in front of `out`: where it does not settle, the
--                               received block is put back there
use Rattle.std.specs.Prelude.{ℕ, ◌+◌, ◌-◌, ◌≤◌, ◌<◌, min, List, [], ◌∷◌, true, false, cond, ◌≡◌, eqb, ltb, length, set}
use Rattle.bits.specs.Bit.{written}
use Rattle.inner_code.specs.Reply.{done, refuse_if}
use Rattle.wiring.specs.Plan.{Plan, edge_count}
use Rattle.wiring.specs.Wiring.{plan_check}
use Rattle.wiring.specs.Block.{block_check}
use Rattle.spans.specs.Spans.{spans_check}
use Rattle.sweeps.specs.Sweep.{turn}
use Rattle.decoder.specs.Decode.{swept_block, settled_after, settles_at, sweep_sums, visits_made}
use Rattle.words.specs.Marks.{Listening}
use Rattle.decoder.specs.Answer.{decode_reply}
use Rattle.decoder.specs.declared.decoding.Decoding.{Decoding}
use Rattle.decoder.specs.declared.settle.Opening.{Opening}
use Rattle.decoder.specs.declared.settle.Settling.{Settling}

pub record Tried (plan : Plan) (block : List ℕ) (H count : ℕ) (sums : List ℕ) (visits : ℕ) (swept : List ℕ) : Type 0 where
  pub counted : settles_at plan block H ≡ count
  pub told : sums ≡ sweep_sums plan block (min count H)
  pub visited : visits ≡ visits_made plan block (min count H)
  pub leaves : count ≤ H → swept ≡ swept_block plan count block
  pub kept : length swept ≡ length block

pub record Passed (plan : Plan) (received lost room : List ℕ) (H : ℕ) : Type 0 where
  pub plan-done : plan_check plan ≡ done []
  pub block-done : block_check (edge_count plan) received ≡ done []
  pub listed : spans_check (edge_count plan) lost ≡ done []
  pub fits : length received ≤ length room
  pub limited : H ≤ 4096

unfoldable pub noted : List ℕ → ℕ → ℕ → ℕ → List ℕ
noted sums i H changed = cond (ltb i (min H 64)) (set sums i changed) sums

unfoldable pub added_visits : ℕ → ℕ → ℕ → ℕ → ℕ
added_visits visits i H more = cond (ltb i H) (visits + more) visits

unfoldable pub ended_to : ℕ → ℕ → ℕ → List ℕ → ℕ → ℕ → Opening
ended_to H count ties sums visits both =
    cond (eqb ties 0)
    (record { limit = H; ended = true; count = count; sums = sums; visits = visits })
    (record { limit = H; ended = true; count = H + 1; sums = sums; visits = both })

pub record Midway (plan : Plan) (received : List ℕ) (H count : ℕ) (sums : List ℕ) (visits : ℕ) (kept block : List ℕ) : Type 0 where
  pub begun : block_check (edge_count plan) received ≡ done []
  pub two_made : 2 ≤ count
  pub block-is : block ≡ swept_block plan count received
  pub unsettled : (j : ℕ) → j < count → settled_after plan received j ≡ false
  pub told : sums ≡ sweep_sums plan received (min count H)
  pub visited : visits ≡ visits_made plan received (min count H)
  pub listening : Listening plan (turn count) (swept_block plan (count - 1) received) block kept

pub record Opened (plan : Plan) (received : List ℕ) (H : ℕ) (opening : Opening) (kept block : List ℕ) : Type 0 where
  pub limit_is : opening.limit ≡ H
  pub closed : opening.ended ≡ true → Tried plan received H opening.count opening.sums opening.visits block
  pub going : opening.ended ≡ false → Midway plan received H 2 opening.sums opening.visits kept block

pub record OpenedSome (plan : Plan) (opening : Opening) (kept block : List ℕ) : Type 0 where
  pub received : List ℕ
  pub limited : opening.limit ≤ 4096
  pub opened : Opened plan received opening.limit opening kept block

pub record ByTrial (received : List ℕ) (H : ℕ) (trial : Settling) (out : List ℕ) (r : Decoding) (after : List ℕ) : Type 0 where
  pub answer : decode_reply r.outcome ≡ refuse_if (ltb H trial.count) 15 0 (done (trial.count ∷ []))
  pub sums : r.sums ≡ trial.sums
  pub visits : r.visits ≡ trial.visits
  pub leaves : after ≡ cond (ltb H trial.count) (written received out) out
