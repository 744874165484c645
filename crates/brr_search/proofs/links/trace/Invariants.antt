use Rattle.std.proofs.Common.{◌≡◌, ◌++◌, reverse, vec_len}
use Rattle.brr_search.specs.Links.{blocks_along}
use Rattle.brr_search.proofs.links.trace.Given as goal

-- the blocks that are still to be followed, and then those that were, in reverse
abbrev pub invariant-rows : goal.invariant-rows
invariant-rows l = blocks_along (reverse l.rows.items) l.place ++ reverse l.blocks.items ≡ blocks_along (reverse l.fn.rows.items) 0

abbrev pub decreases-rows : goal.decreases-rows
decreases-rows l = vec_len l.rows
