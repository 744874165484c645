use Rattle.std.proofs.Common.{◌≡◌, refl, ap, arith, length}
use Rattle.cut_form.specs.CutBook.{CutBook, after_play}
use Rattle.cut_form.specs.Session.{opened_session, replies, played_cuts}
use Rattle.cut_form.specs.Slices.{cut_frames}
use Rattle.cut_server.specs.ServerState.{book_of, slots_of}
use Rattle.cut_server.specs.Server.{pages_at, frames_to}
use Rattle.cut_text.specs.Playing.{played_frames}
use Rattle.session_files.specs.Replies.{report_on}
use Rattle.cut_form.proofs.Slices.{slice_none}
use Rattle.session_files.proofs.Playing.{length-session}
use Rattle.session_files.proofs.Whole.{whole_wave}
use Rattle.session_files.proofs.session_pieces.SessionFiles.open.Goals as goal

pub returns-clause-wave : goal.returns-clause-wave
returns-clause-wave g c =
    let server = c.args.server in
    let script = c.args.script in
    let slots = slots_of server in
    let f = frames_to g.C.Chip.meaning g.C.Chip.saving server in
    let pages = pages_at g.C.Chip.meaning g.C.Chip.saving server in
    let known = replies slots pages (opened_session pages) script in
    let whole = length-session f c.requires.run slots pages (opened_session pages) script in
    let count : played_frames 0 0 script ≡ length (cut_frames f (played_cuts known)) = omega (arith, whole) in
    rw c.new-run.ensures
    (whole_wave _ _ (cut_frames f (played_cuts known)) (played_frames 0 0 script) (slice_none f (book_of server).position 0 c.requires.run refl)
    (ap (λ (b : CutBook). cut_frames f (played_cuts (replies slots pages (record { book = after_play b 0; frames = 0 }) script))) c.requires.opened) count)

pub returns-clause-report : goal.returns-clause-report
returns-clause-report g c =
    let server = c.args.server in
    let pages = pages_at g.C.Chip.meaning g.C.Chip.saving server in
    rw (c.new-run.ensures, c.in_ok-report.ensures.items)
    (ap (λ (b : CutBook). report_on (replies (slots_of server) pages (record { book = after_play b 0; frames = 0 }) c.args.script)) c.requires.opened)
