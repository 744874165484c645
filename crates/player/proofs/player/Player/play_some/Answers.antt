use Rattle.std.proofs.Common.{◌∙◌, ◌+◌, ◌<◌, refl, sym, ap, arith}
use Rattle.cut_server.specs.Server.{lock_step_machines}
use Rattle.cut_server.specs.ServerState.{pages_after}
use Rattle.player.specs.OwnMarks.{is_own_mark}
use Rattle.player.specs.Player.{PlayerState}
use Rattle.player.proofs.OwnMarking.{marks_piece}
use Rattle.player.proofs.player.Player.play_some.Goals as goal

pub returns-clause-marks : goal.returns-clause-marks
returns-clause-marks g c =
    let first : PlayerState g.row.C-State.Denot g.row.C-Saved.Denot = record { server = c.self.inside.server; file = c.self.inside.file; spacing = c.self.inside.spacing; end = c.self.inside.end } in
    let next : PlayerState g.row.C-State.Denot g.row.C-Saved.Denot = record { server = c.play_through.new.server; file = c.self.inside.file; spacing = c.self.inside.spacing; end = c.self.inside.end } in
    let count = c.min-most.result in
    let some : 0 < count = omega (arith, c.frames_at_once.ensures.some, c.requires.some, c.min-most.ensures) in
    rw (← c.self.view_is)
    (marks_piece g.C.Chip.meaning g.C.Chip.saving first next count _ some
    (λ k later few. ap (λ n. is_own_mark first.spacing (n + k)) (sym c.at.ensures.position) ∙ c.frames_at_once.ensures.quiet k later (omega (arith, few, c.min-most.ensures)))
    c.play_through.ensures.tune.slots (ap (pages_after (lock_step_machines g.C.Chip.meaning g.C.Chip.saving)) c.play_through.ensures.tune.start) refl
    (ap (λ book. book.position) c.play_through.ensures.book) (ap (λ book. book.live) c.play_through.ensures.book) c.take_own_mark.ensures.marks)
