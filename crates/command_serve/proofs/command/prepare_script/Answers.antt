use Rattle.std.proofs.Common.{Err, ap, ◌∙◌}
use Rattle.std.proofs.lemmas.Result.{err_from_is_err_and}
use Rattle.command_runner.specs.NamedInputs.{Held}
use Rattle.command_runner.specs.Plan.{stream_makes}
use Rattle.command_runner.specs.declared.refusals.Refusal.{Refusal}
use Rattle.dsp_core.specs.DspChip.{dsp_chip, dsp_saving}
use Rattle.exit_status.specs.declared.cause.Cause.{Cause}
use Rattle.command_serve.specs.Scripts.{script_in}
use Rattle.input_files.proofs.Readings.{reads_plan, reads_declined}
use Rattle.session_files.specs.SessionFiles.{to_come_of, report_of}
use Rattle.command_serve.specs.Serve.{script_answer}
use Rattle.command_serve.proofs.command.prepare_script.Goals as goal

pub returns : goal.returns
returns g c =
    reads_plan (stream_makes (to_come_of dsp_chip dsp_saving) (report_of dsp_chip dsp_saving)) script_in (script_answer c.args.names.wave.now c.args.options c.args.file.now c.args.table)
    (g.H.Host.state c.args.host.now) (g.H.Host.state c.read_lines.new.host) c.in_ok-lines.lines c.plan.result c.in_ok-lines.ensures c.plan.ensures

pub returns-in_err-lines : goal.returns-in_err-lines
returns-in_err-lines g c =
    let p = err_from_is_err_and c.from_residual.result c.from_residual.ensures.1 in
    rw (p.1 ∙ ap (λ (why : Refusal Cause). Err why) p.2)
    (reads_declined (stream_makes (to_come_of dsp_chip dsp_saving) (report_of dsp_chip dsp_saving)) script_in (λ (held : Held). script_answer c.args.names.wave.now c.args.options c.args.file.now c.args.table)
    (g.H.Host.state c.args.host.now) (g.H.Host.state c.read_lines.new.host) _ c.in_err-lines.ensures)
