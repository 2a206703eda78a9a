-- What the decoder answers, and what it leaves in the lent output.
--   decode_check ..               what stops a decoder call before it decodes: 1 to 10, 23, 11, 12, 24 to 26, 13, 14
--   decode_answer, decode_output   the decoder: these, 15, or the sweep count; its output at exit has the decoding's block at the front
--   decode_sums ..                the 64 sums that it tells beside: the decoding's, and zeros where it is stopped before it decodes
--   number_if_done reply number    the number where nothing is refused, and else 0
--   decode_visits ..              how many vertices were visited, which it tells beside: the decoding's, and 0 where it is stopped before it decodes
--   decode_reply r                the paper's number, place and values for each case of the decoder's answer in the code
--   Decodes plan received lost output H r after  what a function that decodes ensures: its whole answer r, and the output at exit
use Rattle.std.specs.Prelude.{ℕ, ◌≡◌, List, [], ◌∷◌, not, length, replicate, ltb, Result, Ok, Err}
use Rattle.bits.specs.Bit.{written}
use Rattle.inner_code.specs.Reply.{Reply, done, refused, refuse_if, and_then, if_done}
use Rattle.wiring.specs.Plan.{Plan, edge_count}
use Rattle.wiring.specs.Wiring.{plan_check}
use Rattle.wiring.specs.Block.{block_bytes, block_check}
use Rattle.spans.specs.Spans.{spans_check}
use Rattle.decoder.specs.Decode.{decoding}
use Rattle.inner_code.specs.Refusal.{number_of, place_of}
use Rattle.inner_code.specs.declared.refusal.Refusal.{Refusal}
use Rattle.decoder.specs.declared.decoding.Decoding.{Decoding}

unfoldable pub decode_check : Plan → List ℕ → List ℕ → List ℕ → ℕ → Reply
unfolding and_then refuse_if plan_check block_bytes spans_check
decode_check plan received lost output H =
    and_then (plan_check plan)
    (and_then (block_check (edge_count plan) received)
    (and_then (spans_check (edge_count plan) lost)
    (refuse_if (ltb (length output) (block_bytes (edge_count plan))) 13 0 (refuse_if (ltb 4096 H) 14 0 (done [])))))

unfoldable pub decode_answer : Plan → List ℕ → List ℕ → List ℕ → ℕ → Reply
unfolding and_then refuse_if decode_check decoding
decode_answer plan received lost output H =
    and_then (decode_check plan received lost output H)
    (refuse_if (not (decoding plan received lost H).settled) 15 0 (done ((decoding plan received lost H).count ∷ [])))

unfoldable pub decode_output : Plan → List ℕ → List ℕ → List ℕ → ℕ → List ℕ
unfolding if_done written decode_check decoding
decode_output plan received lost output H =
    if_done (decode_check plan received lost output H) (written (decoding plan received lost H).block output) output

unfoldable pub decode_sums : Plan → List ℕ → List ℕ → List ℕ → ℕ → List ℕ
unfolding if_done decode_check decoding
decode_sums plan received lost output H =
    if_done (decode_check plan received lost output H) (decoding plan received lost H).sums (replicate 64 0)

unfoldable pub number_if_done : Reply → ℕ → ℕ
number_if_done (done values) number = number
number_if_done (refused x y) number = 0

unfoldable pub decode_visits : Plan → List ℕ → List ℕ → List ℕ → ℕ → ℕ
unfolding number_if_done decode_check decoding
decode_visits plan received lost output H = number_if_done (decode_check plan received lost output H) (decoding plan received lost H).visits

abbrev pub decode_reply : Result ℕ Refusal → Reply
decode_reply (Ok count) = done (count ∷ [])
decode_reply (Err r) = refused (number_of r) (place_of r)

pub record Decodes (plan : Plan) (received lost output : List ℕ) (H : ℕ) (r : Decoding) (after : List ℕ) : Type 0 where
  pub answer : decode_reply r.outcome ≡ decode_answer plan received lost output H
  pub sums : r.sums ≡ decode_sums plan received lost output H
  pub visits : r.visits ≡ decode_visits plan received lost output H
  pub leaves : after ≡ decode_output plan received lost output H
