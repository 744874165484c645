use Rattle.brr_search.proofs.Allowed.{found_allowed}
use Rattle.brr_search.proofs.laws.blocks_that_are_found_have_allowed_headers.Goals as goal

pub returns : goal.returns
returns c candidates loop_block samples looped = found_allowed loop_block samples looped candidates
