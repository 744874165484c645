use Rattle.std.proofs.Common.{◌≡◌, ◌-◌, ◌*◌, ◌/◌, ◌++◌, drop, length}
use Rattle.std.specs.List.{All}
use Rattle.brr_decode.specs.Kept.{samples_of}
use Rattle.brr_encode.specs.Report.{IsWithin, reports_from}
use Rattle.brr_search.proofs.errors.reports_of.Given as goal

-- the reports so far, and after them those of the blocks that are left, are all reports
abbrev pub invariant-each : goal.invariant-each
invariant-each l = record {
  reports : l.reports.items ++ reports_from (length l.blocks / 9 - l.index) (drop (9 * l.index) l.blocks) (drop (16 * l.index) (samples_of l.blocks)) (drop (16 * l.index) l.targets)
      ≡ reports_from (length l.blocks / 9) l.blocks (samples_of l.blocks) l.targets;
  within : All IsWithin l.reports.items;
  count : length l.reports.items ≡ l.index;
}
