-- A refusal of the code, as the paper names it.
--   number_of r       its number in the table of refusals
--   place_of r        the row or entry at fault, 0 where none is
--   refusal_text r    what is written of it: `refused`, its number and its place, with a blank between
--   check_reply r   the number and place for each case of a check's answer, which has no value
use Rattle.std.specs.Prelude.{ℕ, List, Result, Ok, Err, [], ◌++◌, codes}
use Rattle.std.specs.Fmt.{decimal}
use Rattle.inner_code.specs.Reply.{Reply, done, refused}
use Rattle.inner_code.specs.declared.refusal.Refusal.{Refusal}

abbrev pub number_of : Refusal → ℕ
number_of Refusal.SheetShort = 1
number_of Refusal.DegreeOutOfRange = 2
number_of Refusal.RowsOutOfRange = 3
number_of Refusal.SheetLengthWrong = 4
number_of (Refusal.RowTooLarge row) = 5
number_of (Refusal.RowDependent row) = 6
number_of Refusal.VerticesOutOfRange = 7
number_of Refusal.EdgeCountsDiffer = 23
number_of Refusal.WiringLengthWrong = 8
number_of (Refusal.EntryTooLarge entry) = 9
number_of (Refusal.EntryRepeated entry) = 10
number_of Refusal.BlockLengthWrong = 11
number_of Refusal.StrayBit = 12
number_of Refusal.SpansLengthWrong = 24
number_of Refusal.SpanOutOfBlock = 25
number_of Refusal.SpanOutOfOrder = 26
number_of Refusal.OutputShort = 13
number_of Refusal.LimitTooLarge = 14
number_of Refusal.Unsettled = 15
number_of Refusal.ListShort = 16
number_of Refusal.FlipsTooMany = 17
number_of Refusal.FlipsNotCovered = 18
number_of Refusal.BitTooLarge = 27
number_of Refusal.SweepsSpent = 28
number_of Refusal.PlanTooLarge = 19
number_of Refusal.MessageLengthWrong = 20
number_of Refusal.MessageStrayBit = 21
number_of Refusal.NoCodeword = 22

abbrev pub place_of : Refusal → ℕ
place_of (Refusal.RowTooLarge row) = row
place_of (Refusal.RowDependent row) = row
place_of (Refusal.EntryTooLarge entry) = entry
place_of (Refusal.EntryRepeated entry) = entry
place_of _ = 0

abbrev pub refusal_text : Refusal → List ℕ
refusal_text r = codes "refused " ++ (decimal (number_of r) ++ (codes " " ++ decimal (place_of r)))

abbrev pub check_reply : Result Unit Refusal → Reply
check_reply (Ok passed) = done []
check_reply (Err r) = refused (number_of r) (place_of r)
