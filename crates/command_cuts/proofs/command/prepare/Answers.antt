use Rattle.std.proofs.Common.{Option, List, ℕ, Err, refl, ap, ◌∙◌}
use Rattle.std.proofs.lemmas.Result.{err_from_is_err_and}
use Rattle.command_runner.specs.NamedInputs.{Held, first, second}
use Rattle.command_runner.specs.Plan.{stream_makes}
use Rattle.command_runner.specs.declared.refusals.Refusal.{Refusal}
use Rattle.dsp_core.specs.DspChip.{dsp_chip, dsp_saving}
use Rattle.exit_status.specs.declared.cause.Cause.{Cause}
use Rattle.input_files.specs.Inputs.{file_in}
use Rattle.input_files.proofs.Readings.{reads_then, reads_declined_before}
use Rattle.session_files.specs.CutFiles.{to_come_of, report_of}
use Rattle.command_cuts.specs.Cuts.{file_answer}
use Rattle.command_cuts.proofs.command.prepare.Goals as goal

pub returns : goal.returns
returns g c =
    reads_then (stream_makes (to_come_of dsp_chip dsp_saving) (report_of dsp_chip dsp_saving)) file_in
    (λ (held : Held) (file : List ℕ). file_answer c.args.names.wave.now c.args.muted (first held) (second held) file)
    (g.H.Host.state c.args.host.now) (g.H.Host.state c.read_file.new.host) (g.H.Host.state c.prepare_table.new.host) c.in_ok-file.file c.prepare_table.result
    (λ (held : Option (List ℕ)). refl) c.in_ok-file.ensures c.prepare_table.ensures

pub returns-in_err-file : goal.returns-in_err-file
returns-in_err-file g c =
    let p = err_from_is_err_and c.from_residual.result c.from_residual.ensures.1 in
    rw (p.1 ∙ ap (λ (why : Refusal Cause). Err why) p.2)
    (reads_declined_before (stream_makes (to_come_of dsp_chip dsp_saving) (report_of dsp_chip dsp_saving)) file_in
    (λ (held : Held) (file : List ℕ). file_answer c.args.names.wave.now c.args.muted (first held) (second held) file)
    (g.H.Host.state c.args.host.now) (g.H.Host.state c.read_file.new.host) _ (λ (held : Option (List ℕ)). refl) c.in_err-file.ensures)
