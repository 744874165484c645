use Rattle.std.proofs.Common.{◌∙◌, sym, ap, ℕ, List}
use Rattle.num_fix.specs.declared.Frame.{Frame}
use Rattle.wav_form.specs.Wave.{stereo_wave}
use Rattle.cut_form.specs.CutBook.{opened_book, cut_book}
use Rattle.cut_form.specs.Slices.{cut_frames}
use Rattle.session_files.specs.CutFiles.{cuts_report}
use Rattle.command_cuts.proofs.command.open_cuts.Goals as goal

pub open-requires-clause-book : goal.open-requires-clause-book
open-requires-clause-book c = c.in_ok-server.ensures.book ∙ ap opened_book (sym c.in_ok-server.ensures.pages)

pub returns-clause-wave : goal.returns-clause-wave
returns-clause-wave c = c.in_ok-files.ensures.wave ∙ ap (λ (f : ℕ → List Frame). stereo_wave (cut_frames f c.args.cuts)) c.in_ok-server.ensures.frames

pub returns-clause-report : goal.returns-clause-report
returns-clause-report c = c.in_ok-files.ensures.report ∙ ap (λ (p : ℕ → List (List ℕ)). cuts_report c.args.cuts (cut_book p c.args.cuts)) c.in_ok-server.ensures.pages
