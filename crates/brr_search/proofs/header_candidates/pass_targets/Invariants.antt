use Rattle.std.proofs.Common.{◌≡◌, drop}
use Rattle.brr_search.specs.Beam.{after_targets}
use Rattle.brr_search.proofs.header_candidates.pass_targets.Given as goal

abbrev pub invariant-targets : goal.invariant-targets
invariant-targets l = after_targets l.bounds.most l.bounds.limit (drop l.target-index l.targets) l.lists.candidates.items ≡ after_targets l.bounds.most l.bounds.limit l.targets l.fn.lists.candidates.items
