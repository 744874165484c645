use Rattle.std.proofs.Common.{◌≡◌, ◌≤◌, drop, length}
use Rattle.brr_search.specs.Beam.{keep_all}
use Rattle.brr_search.proofs.header_candidates.keep_all.Given as goal

abbrev pub invariant-candidates : goal.invariant-candidates
invariant-candidates l = record {
  candidates : keep_all l.most (drop l.candidate-index l.candidates) l.kept.items ≡ keep_all l.most l.candidates l.fn.kept.items;
  few : length l.fn.kept.items ≤ l.most → length l.kept.items ≤ l.most;
}
