use Rattle.std.proofs.Common.{◌≡◌, ◌+◌, ◌*◌, ◌≤◌, ◌++◌, length, drop}
use Rattle.trace_form.specs.Line.{lines_of}
use Rattle.trace_form.specs.declared.text.TheConstants.{LINE_SIZE}
use Rattle.render_files.proofs.pieces.put_lines.Given as goal

-- the lines that were added, and those of the records still to be looked at
abbrev pub invariant-loop-record : goal.invariant-loop-record
invariant-loop-record l = record {
  room : length l.trace ≤ length l.fn.trace + LINE_SIZE * l.record-index;
  all : l.trace ++ lines_of (drop l.record-index l.records) ≡ l.fn.trace ++ lines_of l.records;
}
