-- What lembikat_decode answers where a call does not settle: with 15 the sums and the visits of the trial with zeros, with any other refusal
-- none. So a host's meter shows what an unsettled block took.
--   told_decode reply sums visits   what lembikat_decode answers (specs Answer)
--   decode_answer, decode_sums, decode_visits   what the decoder answers and tells beside (decoder specs Answer)
--   filled b lost block            the block with every lost bit made b (spans specs Spans)
--   settles_at plan block H         the first count from 0 to H after which the block is a codeword; H + 1 where none is (decoder specs Decode)
use Rattle.std.proofs.Common.{ℕ, ◌<◌, List, [], ◌≡◌, ap, ◌∙◌, replicate}
use Rattle.inner_code.specs.Reply.{Reply, done, refused}
use Rattle.wiring.specs.Plan.{Plan}
use Rattle.spans.specs.Spans.{filled}
use Rattle.decoder.specs.Decode.{settles_at, sweep_sums, visits_made}
use Rattle.decoder.specs.Answer.{decode_check, decode_answer, decode_sums, decode_visits}
use Rattle.decoder.proofs.Settling.{DecodingIs, decode-stopped, decode-neither}
use Rattle.c_api.specs.Answer.{told_decode}
use Rattle.c_api.specs.declared.DecodeAnswer.{DecodeAnswer}

module _ (plan : Plan) (received lost output : List ℕ) (H : ℕ) where
  abbrev answer : DecodeAnswer
  answer =
      told_decode (decode_answer plan received lost output H) (decode_sums plan received lost output H) (decode_visits plan received lost output H)

  answer-by : {reply : Reply} {sums : List ℕ} {visits : ℕ} {left : List ℕ} → DecodingIs plan received lost output H reply sums visits left
      → answer ≡ told_decode reply sums visits
  answer-by {reply} {sums} r =
      ap (λ (reply : Reply). told_decode reply (decode_sums plan received lost output H) (decode_visits plan received lost output H)) r.answer
      ∙ ap (λ (sums : List ℕ). told_decode reply sums (decode_visits plan received lost output H)) r.tells
      ∙ ap (told_decode reply sums) r.visited

  pub unsettled-answer : decode_check plan received lost output H ≡ done []
      → H < settles_at plan (filled 0 lost received) H
      → H < settles_at plan (filled 1 lost received) H
      → answer
      ≡ record {
        number = 15;
        place = 0;
        value = 0;
        sums = sweep_sums plan (filled 0 lost received) H;
        visits = visits_made plan (filled 0 lost received) H;
      }
  unfolding told_decode
  unsettled-answer pass zeros ones = answer-by (decode-neither plan received lost output H pass zeros ones)

  pub refused-answer : {number place : ℕ} → decode_check plan received lost output H ≡ refused number place
      → answer ≡ record { number = number; place = place; value = 0; sums = replicate 64 0; visits = 0 }
  unfolding told_decode
  refused-answer e = answer-by (decode-stopped plan received lost output H e)
