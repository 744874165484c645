use Rattle.std.proofs.Common.{◌≡◌, take}
use Rattle.std.specs.List.{flat_map}
use Rattle.command_rip.specs.Rip.{entry_line}
use Rattle.command_rip.proofs.reports.report_on.Given as goal

-- the lines of the first entries
abbrev pub invariant-loop-entry : goal.invariant-loop-entry
invariant-loop-entry l = l.report.items ≡ flat_map (entry_line l.memory l.dir) (take l.entry-index l.entries)
