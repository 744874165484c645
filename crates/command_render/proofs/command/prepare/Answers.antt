use Rattle.std.proofs.Common.{Option, List, ℕ, Err, refl, ap, ◌∙◌}
use Rattle.std.proofs.lemmas.Result.{err_from_is_err_and}
use Rattle.command_runner.specs.NamedInputs.{Held, first}
use Rattle.command_runner.specs.Plan.{stream_makes}
use Rattle.command_runner.specs.declared.refusals.Refusal.{Refusal}
use Rattle.dsp_core.specs.DspChip.{dsp_chip}
use Rattle.exit_status.specs.declared.cause.Cause.{Cause}
use Rattle.input_files.specs.Inputs.{file_in}
use Rattle.input_files.proofs.Readings.{reads_then, reads_declined_before}
use Rattle.render_files.specs.RenderFiles.{to_come_of, report_of}
use Rattle.command_render.specs.Options.{options_of}
use Rattle.command_render.specs.Render.{file_answer}
use Rattle.command_render.proofs.command.prepare.Goals as goal

pub returns : goal.returns
returns g c =
    reads_then (stream_makes (to_come_of dsp_chip) (report_of dsp_chip)) file_in
    (λ (held : Held) (file : List ℕ). file_answer c.args.wave.now (options_of c.args.options) (first held) file)
    (g.H.Host.state c.args.host.now) (g.H.Host.state c.read_file.new.host) (g.H.Host.state c.prepare_with.new.host) c.in_ok-file.file c.prepare_with.result
    (λ (held : Option (List ℕ)). refl) c.in_ok-file.ensures c.prepare_with.ensures

pub returns-in_err-file : goal.returns-in_err-file
returns-in_err-file g c =
    let p = err_from_is_err_and c.from_residual.result c.from_residual.ensures.1 in
    rw (p.1 ∙ ap (λ (why : Refusal Cause). Err why) p.2)
    (reads_declined_before (stream_makes (to_come_of dsp_chip) (report_of dsp_chip)) file_in
    (λ (held : Held) (file : List ℕ). file_answer c.args.wave.now (options_of c.args.options) (first held) file)
    (g.H.Host.state c.args.host.now) (g.H.Host.state c.read_file.new.host) _ (λ (held : Option (List ℕ)). refl) c.in_err-file.ensures)
