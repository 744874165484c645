use Rattle.std.proofs.Common.{◌≡◌, ◌+◌, ◌*◌, ◌≤◌, drop}
use Rattle.brr_encode.specs.Report.{max_squares}
use Rattle.brr_search.specs.Found.{sum_of_squares}
use Rattle.brr_search.proofs.errors.sum_of_squares.Given as goal

abbrev pub invariant-reports : goal.invariant-reports
invariant-reports l = record {
  sum : l.sum + sum_of_squares (drop l.report-index l.reports) ≡ sum_of_squares l.reports;
  bound : l.sum ≤ l.report-index * max_squares;
}
