-- What the code's checks give: none of this is needed to believe a contract of a service.
--   Fitted d n wiring     a side of n vertices of degree d that fits a wiring: its ranges, and as many entries as the wiring has
--   Permuted N wiring     the first N entries of a wiring are the edges below N, each once
--   Wired dl dr nl nr wiring  an accepted wiring: each side fits it, and every edge stands at one entry
--   WiredPlan plan        the same of a plan
--   bits_reply unsized stray r  the number and place for each case of the answer of a check of bits, by the numbers of its two refusals
--   plan_reply r          the number and place for each case of the answer of a plan's check
--   PlanChecked plan r    what the check of a plan gives: its answer, and of an accepted plan the parts that it was called with; its sides are those
--                         of these parts (src/parts.rt)
use Rattle.std.specs.Prelude.{ℕ, ◌*◌, ◌≤◌, ◌<◌, ◌≡◌, List, [], length, Result, Ok, Err, IfOk}
use Rattle.inner_code.specs.Reply.{Reply, done, refused}
use Rattle.inner_code.specs.Refusal.{number_of, place_of}
use Rattle.inner_code.specs.Sheet.{degree}
use Rattle.inner_code.specs.declared.refusal.Refusal.{Refusal}
use Rattle.wiring.specs.Plan.{Plan, edge_of}
use Rattle.wiring.specs.PlanParts.{plan_in}
use Rattle.wiring.specs.Wiring.{plan_check}
use Rattle.wiring.specs.declared.block.BitsError.{BitsError}
use Rattle.wiring.specs.declared.parts.CheckedPlan.{CheckedPlan}

pub record Fitted (d n : ℕ) (wiring : List ℕ) : Type 0 where
  pub d-low : 1 ≤ d
  pub d-high : d ≤ 16
  pub n-low : 1 ≤ n
  pub n-high : n ≤ 2048
  pub sized : length wiring ≡ 2 * (n * d)

pub record Permuted (N : ℕ) (wiring : List ℕ) : Type 0 where
  pub edge-lt : (i : ℕ) → i < N → edge_of wiring i < N
  pub edge-once : (i j : ℕ) → i < N → j < N → edge_of wiring i ≡ edge_of wiring j → i ≡ j

pub record Wired (dl dr nl nr : ℕ) (wiring : List ℕ) : Type 0 where
  pub left-fits : Fitted dl nl wiring
  pub right-fits : Fitted dr nr wiring
  pub permuted : Permuted (nl * dl) wiring

abbrev pub WiredPlan : Plan → Type 0
WiredPlan plan = Wired (degree plan.left_sheet) (degree plan.right_sheet) plan.nl plan.nr plan.wiring

abbrev pub bits_reply : ℕ → ℕ → Result Unit BitsError → Reply
bits_reply unsized stray (Ok passed) = done []
bits_reply unsized stray (Err BitsError.LengthWrong) = refused unsized 0
bits_reply unsized stray (Err BitsError.StrayBit) = refused stray 0

abbrev pub plan_reply : Result CheckedPlan Refusal → Reply
plan_reply (Ok p) = done []
plan_reply (Err r) = refused (number_of r) (place_of r)

pub record PlanChecked (plan : Plan) (r : Result CheckedPlan Refusal) : Type 0 where
  pub answer : plan_reply r ≡ plan_check plan
  pub parts : IfOk r (λ p. plan_in p.parts ≡ plan)
