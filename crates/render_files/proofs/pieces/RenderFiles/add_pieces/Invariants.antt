use Rattle.std.proofs.Common.{◌≡◌, ◌+◌, ◌≤◌, ◌++◌, length}
use Rattle.report_text.specs.Capacity.{buffer_capacity}
use Rattle.render_files.specs.RenderFiles.{to_come_of, report_of, work_of}
use Rattle.render_files.proofs.pieces.RenderFiles.add_pieces.Given as goal

-- what was to come is the piece so far and what is to come, and there is room for more
abbrev pub invariant-pieces : goal.invariant-pieces
invariant-pieces g l = record {
  wave_to_come : l.self.wave ++ (to_come_of g.C.Chip.meaning l.self).wave ≡ (to_come_of g.C.Chip.meaning l.fn.self).wave;
  trace_to_come : l.self.trace ++ (to_come_of g.C.Chip.meaning l.self).trace ≡ (to_come_of g.C.Chip.meaning l.fn.self).trace;
  wave_capacity : length l.self.wave + 512 ≤ buffer_capacity;
  trace_capacity : length l.self.trace + 64512 ≤ buffer_capacity;
  report : report_of g.C.Chip.meaning l.self ≡ report_of g.C.Chip.meaning l.fn.self;
  work : work_of l.self ≤ work_of l.fn.self;
}

abbrev pub decreases-pieces : goal.decreases-pieces
decreases-pieces g l = work_of l.self
