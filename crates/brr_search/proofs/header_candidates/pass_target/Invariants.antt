use Rattle.std.proofs.Common.{◌≡◌, ◌≤◌, [], drop, length}
use Rattle.brr_search.specs.Beam.{after_target}
use Rattle.brr_search.proofs.header_candidates.pass_target.Given as goal

abbrev pub invariant-candidates : goal.invariant-candidates
invariant-candidates l = record {
  candidates : after_target l.bounds.most l.bounds.limit l.target (drop l.candidate-index l.candidates) l.next.items ≡ after_target l.bounds.most l.bounds.limit l.target l.candidates [];
  few : length l.next.items ≤ l.bounds.most;
}
