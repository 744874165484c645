use Rattle.std.proofs.Common.{◌≡◌, ◌<◌, ◌≤◌, ◌++◌, length}
use Rattle.session_files.specs.SessionFiles.{to_come_of, report_of, work_of}
use Rattle.session_files.proofs.session_pieces.SessionFiles.follow_script.Given as goal

-- what was to come is what was made and what is to come; where something was made, less is to be done
abbrev pub invariant-lines : goal.invariant-lines
invariant-lines g l = record {
  wave_to_come : (to_come_of g.C.Chip.meaning g.C.Chip.saving l.fn.self).wave ≡ l.self.wave ++ (to_come_of g.C.Chip.meaning g.C.Chip.saving l.self).wave;
  report : report_of g.C.Chip.meaning g.C.Chip.saving l.self ≡ report_of g.C.Chip.meaning g.C.Chip.saving l.fn.self;
  work : work_of l.self ≤ work_of l.fn.self;
  less : 0 < length l.self.wave → work_of l.self < work_of l.fn.self;
}

abbrev pub decreases-lines : goal.decreases-lines
decreases-lines g l = work_of l.self
