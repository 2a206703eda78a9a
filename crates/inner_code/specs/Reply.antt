-- What a service answers, as the paper names it: a Reply, which is one of
--   done values            the call is carried out, with these values
--   refused number place   the call is turned back with this number and place
--   refuse_if t n p next    refused n p where the test t holds, and else what comes next
--   and_then first next     the first of two places, checked from the top down, that refuses
--   if_done reply one other one list of bytes where the call is carried out, the other where it is turned back
use Rattle.std.specs.Prelude.{ℕ, List, Bool, true, false}

pub data Reply : Type 0 where
  done : List ℕ → Reply
  refused : ℕ → ℕ → Reply

unfoldable pub refuse_if : Bool → ℕ → ℕ → Reply → Reply
refuse_if true number place next = refused number place
refuse_if false number place next = next

unfoldable pub and_then : Reply → Reply → Reply
and_then (done values) next = next
and_then (refused number place) next = refused number place

unfoldable pub if_done : Reply → List ℕ → List ℕ → List ℕ
if_done (done values) one other = one
if_done (refused number place) one other = other
