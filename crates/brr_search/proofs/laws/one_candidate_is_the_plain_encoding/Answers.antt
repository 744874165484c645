use Rattle.std.proofs.Common.{lit≤}
use Rattle.brr_search.proofs.Choice.{found_plain}
use Rattle.brr_search.proofs.laws.one_candidate_is_the_plain_encoding.Goals as goal

pub returns : goal.returns
returns c loop_block samples looped = found_plain 1 loop_block samples looped (lit≤ tt)
