use Rattle.std.proofs.Common.{ap, arith}
use Rattle.cut_server.specs.Server.{frames_to}
use Rattle.cut_server.specs.ServerState.{book_of}
use Rattle.cut_form.proofs.Slices.{played_part}
use Rattle.cut_server.proofs.SameTune.{frames_kept}
use Rattle.session_files.proofs.session_run.SessionRun.play_some.Goals as goal

pub returns-clause-frames : goal.returns-clause-frames
returns-clause-frames g c =
    let f = frames_to g.C.Chip.meaning g.C.Chip.saving c.self.inside.server in
    let h = frames_to g.C.Chip.meaning g.C.Chip.saving c.play.new.self in
    rw (← c.self.view_is)
    (played_part f h (book_of c.self.inside.server).position (book_of c.play.new.self).position c.min-most.result c.self.inside.left c.play.new.frames c.self.invariant.run
    (frames_kept g.C.Chip.meaning g.C.Chip.saving c.play.ensures.tune) (ap (λ b. b.position) c.play.ensures.book) (omega arith) c.play.ensures.frames)
