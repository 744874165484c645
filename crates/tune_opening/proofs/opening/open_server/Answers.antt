use Rattle.std.proofs.Common.{◌≡◌, ◌∙◌, ap, rules}
use Rattle.dsp_core.specs.DspChip.{dsp_chip, dsp_saving}
use Rattle.cut_form.specs.CutBook.{opened_book}
use Rattle.cut_server.specs.Server.{opening}
use Rattle.tune_opening.specs.Tune.{opened_tune}
use Rattle.tune_opening.proofs.Served.{frames_served, run_served, pages_served, chip_served}
use Rattle.tune_opening.proofs.opening.open_server.Goals as goal

pub returns-clause-frames : goal.returns-clause-frames
returns-clause-frames c =
    let is : opening dsp_chip dsp_saving c.in_ok-server.server ≡ opened_tune c.args.file.now c.args.table c.args.muted 0 = search rules in
    frames_served c.args.file.now c.args.table c.args.muted _ is

pub returns-clause-run : goal.returns-clause-run
returns-clause-run c =
    let is : opening dsp_chip dsp_saving c.in_ok-server.server ≡ opened_tune c.args.file.now c.args.table c.args.muted 0 = search rules in
    run_served c.args.file.now c.args.table c.args.muted _ is

pub returns-clause-pages : goal.returns-clause-pages
returns-clause-pages c =
    let is : opening dsp_chip dsp_saving c.in_ok-server.server ≡ opened_tune c.args.file.now c.args.table c.args.muted 0 = search rules in
    pages_served c.args.file.now c.args.table c.args.muted _ is

pub returns-clause-chip : goal.returns-clause-chip
returns-clause-chip c =
    let is : opening dsp_chip dsp_saving c.in_ok-server.server ≡ opened_tune c.args.file.now c.args.table c.args.muted 0 = search rules in
    chip_served c.args.file.now c.args.table c.args.muted _ is

pub returns-clause-book : goal.returns-clause-book
returns-clause-book c =
    let is : opening dsp_chip dsp_saving c.in_ok-server.server ≡ opened_tune c.args.file.now c.args.table c.args.muted 0 = search rules in
    c.in_ok-server.ensures.book ∙ ap opened_book (pages_served c.args.file.now c.args.table c.args.muted _ is)
