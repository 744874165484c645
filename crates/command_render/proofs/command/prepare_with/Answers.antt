use Rattle.std.proofs.Common.{Err, ap, ◌∙◌}
use Rattle.std.proofs.lemmas.Result.{err_from_is_err_and}
use Rattle.command_runner.specs.NamedInputs.{Held}
use Rattle.command_runner.specs.Plan.{stream_makes}
use Rattle.command_runner.specs.declared.refusals.Refusal.{Refusal}
use Rattle.dsp_core.specs.DspChip.{dsp_chip}
use Rattle.exit_status.specs.declared.cause.Cause.{Cause}
use Rattle.input_files.specs.Inputs.{table_in}
use Rattle.input_files.proofs.Readings.{reads_plan, reads_declined}
use Rattle.render_files.specs.RenderFiles.{to_come_of, report_of}
use Rattle.command_render.specs.Options.{options_of}
use Rattle.command_render.specs.Render.{rendering_answer}
use Rattle.command_render.proofs.command.prepare_with.Goals as goal

pub returns : goal.returns
returns g c =
    reads_plan (stream_makes (to_come_of dsp_chip) (report_of dsp_chip)) table_in (rendering_answer c.args.wave.now (options_of c.args.options) c.args.file.now)
    (g.H.Host.state c.args.host.now) (g.H.Host.state c.read_table.new.host) c.in_ok-table.table c.plan.result c.in_ok-table.ensures c.plan.ensures

pub returns-in_err-table : goal.returns-in_err-table
returns-in_err-table g c =
    let p = err_from_is_err_and c.from_residual.result c.from_residual.ensures.1 in
    rw (p.1 ∙ ap (λ (why : Refusal Cause). Err why) p.2)
    (reads_declined (stream_makes (to_come_of dsp_chip) (report_of dsp_chip)) table_in (λ (held : Held). rendering_answer c.args.wave.now (options_of c.args.options) c.args.file.now)
    (g.H.Host.state c.args.host.now) (g.H.Host.state c.read_table.new.host) _ c.in_err-table.ensures)
