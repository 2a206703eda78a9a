-- What the correction report answers, and what it leaves in the lent list.
--   report_answer, report_list   the report: 1 to 10, 23, 11, 12, 16, or the number of pairs; its list at exit has the runs at the front
--   report_reply r              the paper's number, place and values for each case of the report's answer in the code
use Rattle.std.specs.Prelude.{ℕ, ◌+◌, ◌*◌, List, [], ◌∷◌, length, ltb, Result, Ok, Err}
use Rattle.bits.specs.Bit.{written}
use Rattle.inner_code.specs.Reply.{Reply, done, refused, refuse_if, and_then, if_done}
use Rattle.inner_code.specs.Refusal.{number_of, place_of}
use Rattle.inner_code.specs.declared.refusal.Refusal.{Refusal}
use Rattle.wiring.specs.Plan.{Plan, edge_count}
use Rattle.wiring.specs.Wiring.{plan_check}
use Rattle.wiring.specs.Block.{block_check}
use Rattle.report.specs.Report.{differs_at, run_count, run_bytes}

-- no bit after N - 1 is set in either block, so every run has ended before N + 1
unfoldable pub report_answer : Plan → List ℕ → List ℕ → List ℕ → Reply
unfolding and_then refuse_if plan_check run_count differs_at
report_answer plan received settled list =
    and_then (plan_check plan)
    (and_then (block_check (edge_count plan) received)
    (and_then (block_check (edge_count plan) settled)
    (refuse_if (ltb (length list) (4 * run_count (differs_at received settled) (edge_count plan + 1))) 16 0
    (done (run_count (differs_at received settled) (edge_count plan + 1) ∷ [])))))

unfoldable pub report_list : Plan → List ℕ → List ℕ → List ℕ → List ℕ
unfolding if_done written report_answer run_bytes differs_at
report_list plan received settled list =
    if_done (report_answer plan received settled list) (written (run_bytes (differs_at received settled) (edge_count plan + 1)) list) list

abbrev pub report_reply : Result ℕ Refusal → Reply
report_reply (Ok m) = done (m ∷ [])
report_reply (Err r) = refused (number_of r) (place_of r)
