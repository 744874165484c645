use Rattle.std.proofs.Common.{◌≡◌, map, take}
use Rattle.brr_search.specs.Links.{link_of}
use Rattle.brr_search.proofs.links.row_of.Given as goal

abbrev pub invariant-candidates : goal.invariant-candidates
invariant-candidates l = l.links.items ≡ map (link_of l.flags) (take l.candidate-index l.candidates)
