use Rattle.std.proofs.Common.{◌≡◌, ◌++◌, drop}
use Rattle.brr_search.specs.Beam.{opened}
use Rattle.brr_search.proofs.header_candidates.open_candidates.Given as goal

abbrev pub invariant-starts : goal.invariant-starts
invariant-starts l = l.candidates.items ++ opened l.header l.place (drop l.place l.starts) ≡ opened l.header 0 l.starts
