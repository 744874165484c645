use Rattle.std.proofs.Common.{◌≡◌, ◌∙◌, ℕ, ◌-◌, List, drop, ap, arith}
use Rattle.num_fix.specs.declared.Frame.{Frame}
use Rattle.cut_form.specs.CutBook.{CutBook, after_play}
use Rattle.cut_form.specs.Slices.{slice_of, cut_frames}
use Rattle.cut_server.specs.Server.{frames_to}
use Rattle.cut_server.specs.ServerState.{book_of}
use Rattle.cut_form.proofs.Slices.{played_part}
use Rattle.cut_server.proofs.SameTune.{frames_kept}
use Rattle.render_files.proofs.Waves.{moved}
use Rattle.session_files.proofs.Cutting.{counted_same, report_played}
use Rattle.session_files.proofs.cut_pieces.CutFiles.play.Goals as goal

pub returns-clause-wave_to_come : goal.returns-clause-wave_to_come
returns-clause-wave_to_come g c =
    let inside = c.self.inside in
    let f = frames_to g.C.Chip.meaning g.C.Chip.saving inside.server in
    let h = frames_to g.C.Chip.meaning g.C.Chip.saving c.play.new.self in
    let at = (book_of inside.server).position in
    let next = (book_of c.play.new.self).position in
    let most = c.min-most.result in
    let rest = drop inside.begun inside.cuts in
    let same : h ≡ f = frames_kept g.C.Chip.meaning g.C.Chip.saving c.play.ensures.tune in
    rw (← c.self.view_is)
    (moved inside.wave c.put_played.new.wave c.play.new.frames (slice_of f at inside.left) (slice_of h next (inside.left - most)) (cut_frames f rest) (cut_frames h rest) c.put_played.ensures
    (played_part f h at next most inside.left c.play.new.frames c.self.invariant.run same (ap (λ (b : CutBook). b.position) c.play.ensures.book) (omega arith) c.play.ensures.frames)
    (ap (λ (k : ℕ → List Frame). cut_frames k rest) same))

pub returns-clause-report : goal.returns-clause-report
returns-clause-report g c =
    let inside = c.self.inside in
    let most = c.min-most.result in
    let book = c.play.ensures.book ∙ counted_same (after_play (book_of inside.server) most) (omega (arith, c.self.invariant.bounds.made)) in
    rw (← c.self.view_is)
    (report_played g.C.Chip.meaning g.C.Chip.saving inside.cuts (drop inside.begun inside.cuts) most inside.left c.play.ensures.tune (omega arith) book)
