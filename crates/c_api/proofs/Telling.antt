-- From an enum's case to what a C host is told.
--   telling        what is told of a case is what is told of the defined reply, where the service's answer is that case; `tell` is told, told_word
--                  or told_place
--   telling-sums   the same of the decoder, whose sums and visits are told beside
use Rattle.std.proofs.Common.{ℕ, List, ◌≡◌, sym, ap, ap₂, ◌∙◌}
use Rattle.inner_code.specs.Reply.{Reply}
use Rattle.c_api.specs.Answer.{told_decode}
use Rattle.c_api.specs.declared.DecodeAnswer.{DecodeAnswer}

module _ {E : Type 0} (of : E → Reply) {answer case : E} {reply : Reply} (is : answer ≡ case) (said : of answer ≡ reply) where
  reply-is : of case ≡ reply
  reply-is = sym (ap of is) ∙ said

  pub telling : {A : Type 0} (tell : Reply → A) {a : A} → a ≡ tell (of case) → a ≡ tell reply
  telling tell here = here ∙ ap tell reply-is

  pub telling-sums : {sums defined : List ℕ} {visits made : ℕ} {a : DecodeAnswer} → sums ≡ defined → visits ≡ made
      → a ≡ told_decode (of case) sums visits → a ≡ told_decode reply defined made
  telling-sums {sums} {visits = visits} same counted here =
      here ∙ ap (λ (r : Reply). told_decode r sums visits) reply-is ∙ ap₂ (told_decode reply) same counted
