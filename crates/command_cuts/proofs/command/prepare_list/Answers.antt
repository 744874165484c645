use Rattle.std.proofs.Common.{Err, ap, ◌∙◌}
use Rattle.std.proofs.lemmas.Result.{err_from_is_err_and}
use Rattle.command_runner.specs.NamedInputs.{Held}
use Rattle.command_runner.specs.Plan.{stream_makes}
use Rattle.command_runner.specs.declared.refusals.Refusal.{Refusal}
use Rattle.dsp_core.specs.DspChip.{dsp_chip, dsp_saving}
use Rattle.exit_status.specs.declared.cause.Cause.{Cause}
use Rattle.command_cuts.specs.Lists.{cuts_in}
use Rattle.input_files.proofs.Readings.{reads_plan, reads_declined}
use Rattle.session_files.specs.CutFiles.{to_come_of, report_of}
use Rattle.command_cuts.specs.Cuts.{list_answer}
use Rattle.command_cuts.proofs.command.prepare_list.Goals as goal

pub returns : goal.returns
returns g c =
    reads_plan (stream_makes (to_come_of dsp_chip dsp_saving) (report_of dsp_chip dsp_saving)) cuts_in (list_answer c.args.names.wave.now c.args.muted c.args.file.now c.args.table)
    (g.H.Host.state c.args.host.now) (g.H.Host.state c.read_list.new.host) c.in_ok-cuts.cuts c.plan.result c.in_ok-cuts.ensures c.plan.ensures

pub returns-in_err-cuts : goal.returns-in_err-cuts
returns-in_err-cuts g c =
    let p = err_from_is_err_and c.from_residual.result c.from_residual.ensures.1 in
    rw (p.1 ∙ ap (λ (why : Refusal Cause). Err why) p.2)
    (reads_declined (stream_makes (to_come_of dsp_chip dsp_saving) (report_of dsp_chip dsp_saving)) cuts_in (λ (held : Held). list_answer c.args.names.wave.now c.args.muted c.args.file.now c.args.table)
    (g.H.Host.state c.args.host.now) (g.H.Host.state c.read_list.new.host) _ c.in_err-cuts.ensures)
