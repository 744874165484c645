use Rattle.std.proofs.Common.{◌≡◌, ◌+◌, ◌≤◌, ◌++◌, length}
use Rattle.report_text.specs.Capacity.{buffer_capacity}
use Rattle.cut_form.specs.CutBook.{max_played_bytes}
use Rattle.session_files.specs.CutFiles.{to_come_of, report_of, work_of}
use Rattle.session_files.proofs.cut_pieces.CutFiles.play_cuts.Given as goal

-- what was to come is the piece so far and what is to come, and there is room for more
abbrev pub invariant-pieces : goal.invariant-pieces
invariant-pieces g l = record {
  wave_to_come : l.self.wave ++ (to_come_of g.C.Chip.meaning g.C.Chip.saving l.self).wave ≡ (to_come_of g.C.Chip.meaning g.C.Chip.saving l.fn.self).wave;
  room : length l.self.wave + max_played_bytes ≤ buffer_capacity;
  report : report_of g.C.Chip.meaning g.C.Chip.saving l.self ≡ report_of g.C.Chip.meaning g.C.Chip.saving l.fn.self;
  work : work_of l.self ≤ work_of l.fn.self;
}

abbrev pub decreases-pieces : goal.decreases-pieces
decreases-pieces g l = work_of l.self
