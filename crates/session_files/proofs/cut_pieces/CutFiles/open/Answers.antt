use Rattle.std.proofs.Common.{refl}
use Rattle.cut_form.specs.Slices.{slice_of}
use Rattle.cut_server.specs.ServerState.{book_of}
use Rattle.cut_server.specs.Server.{frames_to}
use Rattle.cut_form.proofs.Slices.{slice_none}
use Rattle.session_files.proofs.Whole.{whole_wave}
use Rattle.session_files.proofs.Cutting.{length-cut_frames}
use Rattle.session_files.proofs.cut_pieces.CutFiles.open.Goals as goal

pub returns-clause-wave : goal.returns-clause-wave
returns-clause-wave g c =
    let f = frames_to g.C.Chip.meaning g.C.Chip.saving c.args.server in
    let at = (book_of c.args.server).position in
    whole_wave (slice_of f at 0) _ _ _ (slice_none f at 0 c.requires.run refl) refl (length-cut_frames f c.requires.run c.args.cuts)
