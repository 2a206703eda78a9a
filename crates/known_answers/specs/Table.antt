-- Examples by which definitions are tried: none of this is needed to believe a contract of a service. They are the papers' marked ones, a plan
-- that settles, and the table of the house sheet.
--   Row         one example, with what it must give
--   same_list, same_reply   two lists of numbers, and two replies, are the same
--   pairs       numbers as bytes, two each, high byte first
--   house_table  the table of the house sheet: 16 classes, seven of them ties
--   distances, measured, named   the distance of each side, the measures of the margin's numbers, and the sweeps that these name
--   lone_plan    a plan of one vertex a side: d, its one row, the wiring
--   pair_plan    the pair plan: d 2, row 3, wiring 0, 1
--   triple_plan  the smallest plan that mends a bit: d 3, row 7, wiring 0, 1, 2
--   quad_plan    a plan with ties beside a bit that tells nothing: d 4, row 3, wiring 0, 1, 2, 3
--   fork_plan    one left vertex, d 4, row F, and two right ones, d 2, row 1, wiring 0, 1, 2, 3: blocks that take several sweeps
--   odd_plan     one vertex a side, d 3 and d 2, no wiring: nl·dl is not nr·dr
--   holds row   what the definitions give is what the row says
--   all_hold     every row of a list holds
--   examples    all rows but the whole table of the house sheet
--   table       all rows
use Rattle.std.specs.Prelude.{ℕ, ◌-◌, ◌*◌, ◌/◌, ◌%◌, List, [], ◌∷◌, ◌++◌, Bool, true, false, ◌&&◌, eqb, length, replicate}
use Rattle.bits.specs.Bit.{values}
use Rattle.inner_code.specs.Reply.{Reply, done, refused}
use Rattle.inner_code.specs.Answer.{nearest_answer}
use Rattle.inner_code.specs.House.{house_sheet}
use Rattle.tables.specs.Answer.{build_answer, build_output, look_up_answer}
use Rattle.wiring.specs.Plan.{Plan, plan_of}
use Rattle.wiring.specs.Square.{square_wiring, square_plan}
use Rattle.wiring.specs.declared.side.SideName.{SideName}
use Rattle.decoder.specs.Answer.{decode_answer, decode_sums, decode_visits, decode_output}
use Rattle.panel.specs.State.{state_of}
use Rattle.panel.specs.Answer.{load_answer, load_output, sweep_answer, sweep_output, set_answer, set_output}
use Rattle.radius.specs.Margin.{Measures, bound, sweeps_named}
use Rattle.radius.specs.Answer.{margin_answer}
use Rattle.messages.specs.Answer.{encode_answer, encode_output, read_answer, read_output}

pub data Row : Type 0 where
  -- a house word, its nearest word and the bits that it changes
  house : ℕ → ℕ → ℕ → Row
  -- the square plan: F flips and the margin's answer
  square : ℕ → Reply → Row
  -- the margin's numbers alone, of equal sides: n, d, D, R, F and the sweeps named, 0 where F is not covered
  margin : ℕ → ℕ → ℕ → ℕ → ℕ → ℕ → Row
  -- the same of sides that differ: nl, dl, nr, left D, right D, R, F and the sweeps
  unequal : ℕ → ℕ → ℕ → ℕ → ℕ → ℕ → ℕ → ℕ → Row
  -- the margin's numbers alone, of equal sides: n, d, D, R, F and each b of the chain, down to the first that is 0
  chain : ℕ → ℕ → ℕ → ℕ → ℕ → List ℕ → Row
  -- a plan of one byte: a received byte, its lost spans and a limit, the decoder's answer, the byte in its output, the sums of its first
  -- sweeps, the others being 0, and the visits
  decoded : Plan → ℕ → List ℕ → ℕ → Reply → ℕ → List ℕ → ℕ → Row
  -- a plan of one byte: a block and lent bytes, what loading answers, and the bytes afterwards
  loaded : Plan → ℕ → List ℕ → Reply → List ℕ → Row
  -- a plan of one byte: a state, what a sweep call on it answers, and the state afterwards
  stepped : Plan → List ℕ → Reply → List ℕ → Row
  -- a plan of one byte: a bit, a value and a state, what setting the bit answers, and the state afterwards
  bit_set : Plan → ℕ → ℕ → List ℕ → Reply → List ℕ → Row
  -- the pair plan: a message and an output, the encoder's answer, and the output afterwards
  encoded : List ℕ → List ℕ → Reply → List ℕ → Row
  -- the pair plan: a block and an output, the reader's answer, and the output afterwards
  read : List ℕ → List ℕ → Reply → List ℕ → Row
  -- a house word looked up in a table, and the answer
  looked_up : ℕ → List ℕ → Reply → Row
  -- the house sheet's table built in a lent output: the answer, and the output afterwards
  built : List ℕ → Reply → List ℕ → Row

-- two lists of numbers are the same
unfoldable pub same_list : List ℕ → List ℕ → Bool
same_list [] [] = true
same_list [] (y ∷ ys) = false
same_list (x ∷ xs) [] = false
same_list (x ∷ xs) (y ∷ ys) = eqb x y && same_list xs ys

unfoldable pub same_reply : Reply → Reply → Bool
unfolding same_list
same_reply (done a) (done b) = same_list a b
same_reply (done a) (refused n p) = false
same_reply (refused n p) (done b) = false
same_reply (refused n p) (refused m q) = eqb n m && eqb p q

-- numbers as bytes, two each, high byte first
unfoldable pub pairs : List ℕ → List ℕ
pairs [] = []
pairs (x ∷ xs) = x / 256 ∷ x % 256 ∷ pairs xs

-- the table of the house sheet: 16 classes, seven of them ties
unfoldable pub house_table : List ℕ
unfolding pairs
house_table =
    pairs
    (0x0000 ∷ 0x0001 ∷ 0x0002 ∷ 0xffff ∷ 0x0004 ∷ 0xffff ∷ 0xffff ∷ 0x0008
    ∷ 0x0010 ∷ 0xffff ∷ 0xffff ∷ 0x0020 ∷ 0xffff ∷ 0x0040 ∷ 0x0080 ∷ 0xffff ∷ [])

-- the inner distance of each side
abbrev pub distances : ℕ → ℕ → SideName → ℕ
distances Dl Dr SideName.Left = Dl
distances Dl Dr SideName.Right = Dr

-- the margin's numbers: nl, dl, nr, left D, right D, R
abbrev pub measured : ℕ → ℕ → ℕ → ℕ → ℕ → ℕ → Measures
measured nl dl nr Dl Dr R = record { edges = nl * dl; n = nr; d = dl; distance = distances Dl Dr; spread = R }

-- the sweeps that they name for F flips
abbrev pub named : ℕ → ℕ → ℕ → ℕ → ℕ → ℕ → ℕ → ℕ
named nl dl nr Dl Dr R F = sweeps_named (measured nl dl nr Dl Dr R) F

-- a plan of one vertex a side: d, its one row, the wiring
abbrev pub lone_plan : ℕ → ℕ → List ℕ → Plan
lone_plan d row wiring = let sheet : List ℕ = d ∷ 1 ∷ 0 ∷ row ∷ [] in plan_of sheet sheet 1 1 wiring

-- the pair plan: d 2, row 3, wiring 0, 1
abbrev pub pair_plan : Plan
pair_plan = lone_plan 2 3 (0 ∷ 0 ∷ 0 ∷ 1 ∷ [])

-- the smallest plan that mends a bit: d 3, row 7, wiring 0, 1, 2
abbrev pub triple_plan : Plan
triple_plan = lone_plan 3 7 (0 ∷ 0 ∷ 0 ∷ 1 ∷ 0 ∷ 2 ∷ [])

-- a plan with ties beside a bit that tells nothing: d 4, row 3, wiring 0, 1, 2, 3
abbrev pub quad_plan : Plan
quad_plan = lone_plan 4 3 (0 ∷ 0 ∷ 0 ∷ 1 ∷ 0 ∷ 2 ∷ 0 ∷ 3 ∷ [])

-- one left vertex, d 4, row F, and two right ones, d 2, row 1, wiring 0, 1, 2, 3
abbrev pub fork_plan : Plan
fork_plan = plan_of (4 ∷ 1 ∷ 0 ∷ 15 ∷ []) (2 ∷ 1 ∷ 0 ∷ 1 ∷ []) 1 2 (0 ∷ 0 ∷ 0 ∷ 1 ∷ 0 ∷ 2 ∷ 0 ∷ 3 ∷ [])

-- one vertex a side, d 3 and d 2, no wiring: its length is wrong too
abbrev pub odd_plan : Plan
odd_plan = plan_of (3 ∷ 1 ∷ 0 ∷ 7 ∷ []) (2 ∷ 1 ∷ 0 ∷ 3 ∷ []) 1 1 []

unfoldable pub holds : Row → Bool
unfolding
    nearest_answer same_reply same_list square_wiring margin_answer sweeps_named bound values decode_answer decode_sums decode_visits decode_output
    encode_answer encode_output read_answer read_output look_up_answer build_answer build_output load_answer load_output sweep_answer sweep_output set_answer set_output
holds (house word nearest changed) = same_reply (nearest_answer house_sheet word) (done (nearest ∷ changed ∷ []))
holds (square flips reply) = same_reply (margin_answer square_plan flips) reply
holds (margin n d D R flips sweeps) = eqb (named n d n D D R flips) sweeps
holds (unequal nl dl nr Dl Dr R flips sweeps) = eqb (named nl dl nr Dl Dr R flips) sweeps
holds (chain n d D R flips bs) = same_list (values (length bs) (bound (measured n d n D D R) flips)) bs
holds (decoded plan received lost limit reply left sums visits) =
    same_reply (decode_answer plan (received ∷ []) lost (0 ∷ []) limit) reply
    && (same_list (decode_output plan (received ∷ []) lost (0 ∷ []) limit) (left ∷ [])
    && (same_list (decode_sums plan (received ∷ []) lost (0 ∷ []) limit) (sums ++ replicate (64 - length sums) 0)
    && eqb (decode_visits plan (received ∷ []) lost (0 ∷ []) limit) visits))
holds (loaded plan block lent reply left) =
    same_reply (load_answer plan (block ∷ []) lent) reply && same_list (load_output plan (block ∷ []) lent) left
holds (stepped plan state reply left) = same_reply (sweep_answer plan state) reply && same_list (sweep_output plan state) left
holds (bit_set plan bit value state reply left) =
    same_reply (set_answer plan bit value state) reply && same_list (set_output plan bit value state) left
holds (encoded message output reply left) =
    same_reply (encode_answer pair_plan message output) reply && same_list (encode_output pair_plan message output) left
holds (read block output reply left) =
    same_reply (read_answer pair_plan block output) reply && same_list (read_output pair_plan block output) left
holds (looked_up word bytes reply) = same_reply (look_up_answer house_sheet word bytes) reply
holds (built output reply left) = same_reply (build_answer house_sheet output) reply && same_list (build_output house_sheet output) left

unfoldable pub all_hold : List Row → Bool
unfolding holds
all_hold [] = true
all_hold (row ∷ rows) = holds row && all_hold rows

unfoldable pub examples : List Row
unfolding pairs house_table state_of
examples =
    house 0x01 0x00 1
    ∷ house 0x07 0x0f 1
    ∷ house 0x03 0x03 0
    ∷ house 0xc0 0xc0 0
    ∷ square 1 (done (1 ∷ []))
    ∷ square 2 (done (2 ∷ []))
    ∷ square 3 (done (2 ∷ []))
    ∷ square 4 (refused 18 0)
    ∷ margin 7 3 3 24 1 1
    ∷ margin 15 8 8 112 11 3
    ∷ margin 15 8 8 112 12 0
    ∷ margin 31 16 16 480 63 4
    ∷ margin 31 16 16 480 64 0
    ∷ chain 15 8 8 112 11 (2 ∷ 1 ∷ 0 ∷ [])
    ∷ chain 31 16 16 480 63 (7 ∷ 5 ∷ 2 ∷ 0 ∷ [])
    ∷ unequal 30 8 16 7 15 128 20 3
    ∷ unequal 30 8 16 7 15 128 21 0
    ∷ decoded pair_plan 0x80 [] 0 (refused 15 0) 0x80 [] 0
    ∷ decoded pair_plan 0x80 [] 1 (refused 15 0) 0x80 [] 1
    ∷ decoded pair_plan 0x80 [] 2 (refused 15 0) 0x80 [] 2
    ∷ decoded pair_plan 0x80 [] 3 (refused 15 0) 0x80 [] 2
    ∷ decoded triple_plan 0xc0 [] 0 (refused 15 0) 0xc0 [] 0
    ∷ decoded triple_plan 0xc0 [] 1 (done (1 ∷ [])) 0xe0 (1 ∷ []) 1
    ∷ decoded triple_plan 0x80 (pairs (1 ∷ 1 ∷ [])) 1 (done (1 ∷ [])) 0x00 (1 ∷ []) 1
    ∷ decoded triple_plan 0xa0 (pairs (1 ∷ 1 ∷ [])) 1 (done (1 ∷ [])) 0xe0 (1 ∷ []) 1
    ∷ decoded triple_plan 0x80 (pairs (1 ∷ 1 ∷ 2 ∷ 1 ∷ [])) 1 (done (0 ∷ [])) 0xe0 [] 0
    ∷ decoded pair_plan 0x80 (pairs (1 ∷ 1 ∷ [])) 0 (done (0 ∷ [])) 0xc0 [] 0
    ∷ decoded quad_plan 0x90 (pairs (0 ∷ 1 ∷ [])) 2 (refused 15 0) 0x90 [] 2
    ∷ decoded fork_plan 0xa0 [] 1 (refused 15 0) 0xa0 [] 1
    ∷ decoded fork_plan 0xa0 [] 2 (done (2 ∷ [])) 0x00 (0 ∷ 2 ∷ []) 3
    ∷ decoded fork_plan 0x30 [] 3 (done (3 ∷ [])) 0x00 (0 ∷ 1 ∷ 1 ∷ []) 4
    ∷ decoded fork_plan 0x70 (pairs (0 ∷ 1 ∷ [])) 3 (refused 15 0) 0x70 (1 ∷ 2 ∷ []) 4
    ∷ decoded fork_plan 0x50 (pairs (0 ∷ 1 ∷ [])) 3 (refused 15 0) 0x50 [] 3
    ∷ decoded odd_plan 0xc0 [] 0 (refused 23 0) 0 [] 0
    ∷ decoded triple_plan 0xc0 (0 ∷ 0 ∷ 0 ∷ []) 0 (refused 24 0) 0 [] 0
    ∷ decoded triple_plan 0xc0 (pairs (1 ∷ 1 ∷ 0 ∷ 0 ∷ [])) 0 (refused 25 0) 0 [] 0
    ∷ decoded triple_plan 0xc0 (pairs (2 ∷ 2 ∷ [])) 0 (refused 25 0) 0 [] 0
    ∷ decoded triple_plan 0xc0 (pairs (0xffff ∷ 2 ∷ [])) 0 (refused 25 0) 0 [] 0
    ∷ decoded triple_plan 0xc0 (pairs (0 ∷ 2 ∷ 1 ∷ 1 ∷ 0 ∷ 0 ∷ [])) 0 (refused 26 0) 0 [] 0
    ∷ loaded triple_plan 0xc0 (replicate 5 0 ++ (7 ∷ [])) (done (2 ∷ 0 ∷ [])) (state_of 2 0 (0xc0 ∷ 7 ∷ []))
    ∷ loaded triple_plan 0xc0 (replicate 4 7) (refused 13 0) (replicate 4 7)
    ∷ stepped triple_plan (state_of 2 0 (0xc0 ∷ [])) (done (0 ∷ 1 ∷ [])) (state_of 0 1 (0xe0 ∷ []))
    ∷ stepped triple_plan (state_of 0 1 (0xe0 ∷ [])) (done (0 ∷ 1 ∷ [])) (state_of 0 1 (0xe0 ∷ []))
    ∷ stepped triple_plan (state_of 0 0xffff (0xc0 ∷ [])) (done (0 ∷ 0xffff ∷ [])) (state_of 0 0xffff (0xc0 ∷ []))
    ∷ stepped triple_plan (state_of 1 0 (0xc0 ∷ [])) (done (0xffff ∷ 1 ∷ [])) (state_of 0xffff 1 (0xe0 ∷ []))
    ∷ stepped triple_plan (state_of 2 0 []) (refused 11 0) (state_of 2 0 [])
    ∷ stepped triple_plan (state_of 0 1 []) (refused 11 0) (state_of 0 1 [])
    ∷ stepped triple_plan (state_of 0 4096 (0xe0 ∷ 0 ∷ [])) (refused 11 0) (state_of 0 4096 (0xe0 ∷ 0 ∷ []))
    ∷ stepped pair_plan (state_of 2 4095 (0x80 ∷ [])) (done (2 ∷ 4096 ∷ [])) (state_of 2 4096 (0x80 ∷ []))
    ∷ stepped pair_plan (state_of 2 4096 (0x80 ∷ [])) (refused 28 0) (state_of 2 4096 (0x80 ∷ []))
    ∷ bit_set triple_plan 0 0 (state_of 0 1 (0xe0 ∷ [])) (done (2 ∷ 0 ∷ [])) (state_of 2 0 (0x60 ∷ []))
    ∷ bit_set triple_plan 0 2 (state_of 0 1 (0xe0 ∷ [])) (done (0 ∷ 0 ∷ [])) (state_of 0 0 (0xe0 ∷ []))
    ∷ bit_set triple_plan 3 1 (state_of 0 1 (0xe0 ∷ [])) (refused 27 0) (state_of 0 1 (0xe0 ∷ []))
    ∷ encoded (0x80 ∷ []) (0 ∷ 7 ∷ []) (done []) (0xc0 ∷ 7 ∷ [])
    ∷ encoded (0 ∷ []) (5 ∷ []) (done []) (0 ∷ [])
    ∷ encoded [] (5 ∷ []) (refused 20 0) (5 ∷ [])
    ∷ encoded (0x40 ∷ []) (5 ∷ []) (refused 21 0) (5 ∷ [])
    ∷ encoded (0x80 ∷ []) [] (refused 13 0) []
    ∷ read (0xc0 ∷ []) (0 ∷ 7 ∷ []) (done []) (0x80 ∷ 7 ∷ [])
    ∷ read (0x80 ∷ []) (5 ∷ []) (refused 22 0) (5 ∷ [])
    ∷ looked_up 0x07 house_table (done (0x0f ∷ 1 ∷ []))
    ∷ looked_up 0xc0 house_table (done (0xc0 ∷ 0 ∷ []))
    ∷ looked_up 0xff house_table (done (0xff ∷ 0 ∷ []))
    ∷ looked_up 0x10 (pairs (replicate 16 0xfe11)) (done (0x01 ∷ 2 ∷ []))
    ∷ looked_up 0xff (replicate 31 0) (refused 13 0)
    ∷ looked_up 0x100 [] (refused 12 0)
    ∷ built (replicate 31 0) (refused 13 0) (replicate 31 0)
    ∷ []

unfoldable pub table : List Row
unfolding examples house_table
table = built (replicate 32 0 ++ (7 ∷ 8 ∷ [])) (done []) (house_table ++ (7 ∷ 8 ∷ [])) ∷ examples
