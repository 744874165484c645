use Rattle.std.proofs.Common.{◌≡◌, drop}
use Rattle.brr_search.specs.Candidates.{place_from}
use Rattle.brr_search.proofs.keeping.place_among.Given as goal

-- the candidates so far come before it, and none of them ends in the same two samples
abbrev pub invariant-others : goal.invariant-others
invariant-others l = place_from l.place l.candidate (drop l.place l.others) ≡ place_from 0 l.candidate l.others
