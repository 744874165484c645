use Rattle.std.proofs.Common.{◌∙◌, ap}
use Rattle.session_files.specs.CutFiles.{report_of}
use Rattle.session_files.proofs.cut_pieces.CutFilesPieces.make_next.Goals as goal

pub returns-then-done-clause-report : goal.returns-then-done-clause-report
returns-then-done-clause-report g c =
    let known = report_of g.C.Chip.meaning g.C.Chip.saving in
    rw c.put_report.ensures (ap known c.self-2.view_is ∙ c.play_cuts-done.ensures.report ∙ ap known c.self.view_is)

pub returns-else-done-clause-report : goal.returns-else-done-clause-report
returns-else-done-clause-report g c =
    let known = report_of g.C.Chip.meaning g.C.Chip.saving in
    ap known c.self-2.view_is ∙ c.play_cuts-done.ensures.report ∙ ap known c.self.view_is
