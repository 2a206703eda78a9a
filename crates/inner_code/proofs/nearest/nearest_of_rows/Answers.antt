-- `inner_code::nearest_of_rows` meets its contract: either array has room for the codewords that are listed there.
use Rattle.std.proofs.Common.{arith, pow_mono}
use Rattle.inner_code.proofs.Listings.{words-most}
use Rattle.inner_code.proofs.nearest.nearest_of_rows.Goals as goal

pub list_and_search-requires-clause-room : goal.list_and_search-requires-clause-room
list_and_search-requires-clause-room c = pow_mono {j = 5} (omega arith)

pub list_and_search-requires-2-clause-room : goal.list_and_search-requires-2-clause-room
list_and_search-requires-2-clause-room c = words-most c.args.k
