use Rattle.std.proofs.Common.{◌∙◌, sym, ap}
use Rattle.cut_form.specs.CutBook.{opened_book}
use Rattle.command_serve.proofs.Tunes.{wave_of_tune, report_of_tune}
use Rattle.command_serve.proofs.command.open_session.Goals as goal

pub open-requires-clause-opened : goal.open-requires-clause-opened
open-requires-clause-opened c = c.in_ok-server.ensures.book ∙ ap opened_book (sym c.in_ok-server.ensures.pages)

pub returns-clause-wave : goal.returns-clause-wave
returns-clause-wave c =
    c.in_ok-files.ensures.wave ∙ wave_of_tune _ _ _ _ _ _ c.args.script c.in_ok-server.ensures.frames c.in_ok-server.ensures.pages c.in_ok-server.ensures.slots

pub returns-clause-report : goal.returns-clause-report
returns-clause-report c =
    c.in_ok-files.ensures.report ∙ report_of_tune _ _ _ _ c.args.script c.in_ok-server.ensures.pages c.in_ok-server.ensures.slots
