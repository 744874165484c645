use Rattle.std.proofs.Common.{◌≡◌, ◌≤◌, length}
use Rattle.brr_search.specs.Beam.{best_candidates}
use Rattle.brr_search.proofs.header_candidates.best_candidates.Given as goal

abbrev pub invariant-headers : goal.invariant-headers
invariant-headers l = record {
  candidates : l.best.items ≡ best_candidates l.most l.starts l.targets l.place;
  few : length l.best.items ≤ l.most;
}
