use Rattle.std.proofs.Common.{◌≡◌, ◌+◌, ◌*◌, ◌≤◌, ◌^◌, drop, max}
use Rattle.brr_encode.specs.Greedy.{squares}
use Rattle.brr_encode.specs.Report.{worst}
use Rattle.brr_search.proofs.errors.report_of.Given as goal

abbrev pub invariant-samples : goal.invariant-samples
invariant-samples l = record {
  worst : max l.greatest (worst (drop l.place l.decoded) (drop l.place l.targets)) ≡ worst l.decoded l.targets;
  squares : l.sum + squares (drop l.place l.decoded) (drop l.place l.targets) ≡ squares l.decoded l.targets;
  bound : l.sum ≤ l.place * 2 ^ 32;
}
