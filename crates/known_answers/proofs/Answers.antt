-- The lone statement over the table of known answers: every row is right. The checker computes it from the definitions, but for one step in
-- the first row: which words are the smallest of their classes is found by what the rows leave of them, as a law of crate tables allows, and
-- not by a search below each of 256 words, which takes the checker seconds.
use Rattle.std.proofs.Common.{◌≡◌, refl, ap, ap₂, Bool, true, cond, ◌&&◌, List, [], ◌∷◌, ◌++◌, ℕ, zero, suc, ◌/◌, ◌%◌, eqb, replicate}
use lib.Count.{ones, ones_in}
use Rattle.bits.specs.Bit.{digit, word, bit_at, put_digit, with_bit, pair_at, written, values, flips}
use Rattle.bits.specs.Sum.{sum, gap, flag}
use Rattle.inner_code.specs.Reply.{done, refuse_if, and_then, if_done}
use Rattle.bits.specs.Search.{least, some_below, first_failing, largest}
use Rattle.inner_code.specs.Code.{combination, is_codeword, distance, key, no_key, least_pattern, tied, nearest_pattern, nearest_word, bits_changed}
use Rattle.inner_code.specs.Answer.{nearest_answer}
use Rattle.inner_code.specs.Sheet.{degree, row_count, row_of, row_check, rows_check, sheet_check}
use Rattle.inner_code.specs.House.{house_sheet}
use Rattle.inner_code.specs.Reduction.{reduce_by, reduced}
use Rattle.tables.specs.Classes.{smallest_of, is_smallest, class_of, tie_mark, entry_of, entries_below}
use Rattle.tables.specs.Answer.{table_bytes, table_of, build_answer, build_output, pattern_in, look_up_answer}
use Rattle.tables.proofs.Numbers.{smallest-test}
use Rattle.wiring.specs.Plan.{edge_of, side_bit, other}
use Rattle.wiring.specs.Wiring.{entry_check, entries_check, count_faulty, wiring_check, plan_check, edges_between}
use Rattle.wiring.specs.Block.{block_bytes, bits_check, vertex_word, scattered, satisfied, first_unsatisfied, is_codeword_block, heard}
use Rattle.wiring.specs.Square.{entry_bytes, square_wiring}
use Rattle.spans.specs.Spans.{pair_count, start_of, length_of, end_of, end_before, span_check, pairs_check, spans_check, is_lost, flips_outside, filled_below, filled}
use Rattle.sweeps.specs.Sweep.{visited, sweep, turn, after_sweeps}
use Rattle.decoder.specs.Decode.{settles_at, sweep_sum, sweep_sums, visits_in, visits_made, trial, keeps_ones, decoding}
use Rattle.decoder.specs.Answer.{decode_check, decode_answer, decode_sums, number_if_done, decode_visits, decode_output}
use Rattle.unsatisfied.specs.Count.{unsatisfied_at, unsatisfied_count, count_change}
use Rattle.panel.specs.State.{state_bytes, count_in, sweeps_in, block_in, state_of, loaded_state, moved_count, swept_state, set_to, set_state}
use Rattle.panel.specs.Answer.{state_check, told, load_check, load_answer, load_output, sweep_check, sweep_answer, sweep_output, set_check, set_answer, set_output}
use Rattle.meetings.specs.Spread.{meeting, unevenness, spread}
use Rattle.radius.specs.Margin.{slack, step_covered, next_bound, bound, chain_end, sweeps_named}
use Rattle.radius.specs.Answer.{margin_answer}
use Rattle.messages.specs.Position.{bits_put, block_of, codeword_number, is_position, positions_before, message_bits}
use Rattle.messages.specs.Message.{carries, encoded_number, encoded_block, read_before, read_message}
use Rattle.messages.specs.Answer.{encode_answer, encode_output, read_answer, read_output}
use Rattle.known_answers.specs.Table.{built, holds, all_hold, examples, table, same_list, same_reply, pairs, house_table}

-- the entries of the classes whose smallest word is below n, where w is a smallest word if the rows leave it as it is
entries_left : (ℕ → ℕ) → ℕ → ℕ → ℕ → List ℕ
entries_left row k d zero = []
entries_left row k d (suc w) =
    entries_left row k d w ++ cond (eqb (reduced row k w) w) (entry_of row k d w / 256 ∷ entry_of row k d w % 256 ∷ []) []

entries-left : (row : ℕ → ℕ) (k d n : ℕ) → entries_below row k d n ≡ entries_left row k d n
unfolding entries_below entries_left
entries-left row k d zero = refl
entries-left row k d (suc w) =
    ap₂ (λ (l : List ℕ) (t : Bool). l ++ cond t (entry_of row k d w / 256 ∷ entry_of row k d w % 256 ∷ []) []) (entries-left row k d w)
    (smallest-test row k w)

house-table : table_of house_sheet ≡ house_table
unfolding
    table_of entries_left reduced reduce_by entry_of tie_mark tied least_pattern least key no_key is_codeword some_below combination digit pair_at ones
    ones_in degree row_count row_of house_sheet pairs house_table
house-table = entries-left (row_of house_sheet) 4 8 256

house-built : holds (built (replicate 32 0 ++ (7 ∷ 8 ∷ [])) (done []) (house_table ++ (7 ∷ 8 ∷ []))) ≡ true
unfolding
    holds same_list same_reply build_answer build_output written and_then refuse_if if_done sheet_check rows_check row_check is_codeword some_below combination
    digit pair_at degree row_count row_of house_sheet table_bytes pairs house_table
house-built = ap (λ (bytes : List ℕ). same_list (written bytes (replicate 32 0 ++ (7 ∷ 8 ∷ []))) (house_table ++ (7 ∷ 8 ∷ []))) house-table

examples-hold : all_hold examples ≡ true
unfolding
    all_hold holds examples same_list same_reply entry_bytes square_wiring nearest_answer nearest_word bits_changed nearest_pattern tied least_pattern least
    key no_key is_codeword some_below combination digit word bit_at put_digit with_bit pair_at sum gap
    flag ones ones_in distance refuse_if and_then if_done degree row_count row_of
    row_check rows_check sheet_check house_sheet first_failing edge_of side_bit entry_check entries_check count_faulty wiring_check plan_check
    edges_between block_bytes bits_check vertex_word scattered satisfied first_unsatisfied is_codeword_block visited sweep other turn
    after_sweeps settles_at sweep_sum sweep_sums heard visits_in visits_made trial pair_count start_of length_of end_of end_before span_check pairs_check spans_check
    is_lost flips_outside filled_below filled keeps_ones decoding decode_check decode_answer decode_sums number_if_done decode_visits written values flips
    decode_output meeting unevenness largest spread slack
    step_covered next_bound bound chain_end sweeps_named margin_answer bits_put block_of codeword_number is_position positions_before carries
    message_bits encoded_number encoded_block read_before read_message encode_answer encode_output read_answer read_output pairs house_table smallest_of is_smallest class_of tie_mark table_bytes build_answer build_output pattern_in look_up_answer
    unsatisfied_at unsatisfied_count count_change state_bytes count_in sweeps_in block_in state_of loaded_state moved_count swept_state set_to set_state state_check told
    load_check load_answer load_output sweep_check sweep_answer sweep_output set_check set_answer set_output
examples-hold = refl

pub known-answers : all_hold table ≡ true
unfolding all_hold table
known-answers = ap₂ ◌&&◌ house-built examples-hold
