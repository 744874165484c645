use Rattle.std.proofs.Common.{List, ℕ, Err, ap, ◌∙◌, subst}
use Rattle.std.proofs.lemmas.Result.{err_from_is_err_and}
use Rattle.command_runner.specs.Conduct.{Plans}
use Rattle.command_runner.specs.NamedInputs.{Held}
use Rattle.command_runner.specs.Plan.{plan_makes}
use Rattle.command_runner.specs.declared.refusals.Refusal.{Refusal}
use Rattle.exit_status.specs.declared.cause.Cause.{Cause}
use Rattle.exit_status.specs.declared.cause.Cause.TheVariants.{InputTooLong}
use Rattle.input_files.specs.Reading.{wave_limit, bytes_in}
use Rattle.input_files.proofs.Readings.{reads_plan, reads_declined}
use Rattle.command_encode.specs.Encode.{wave_answer}
use Rattle.command_encode.proofs.command.prepare.Goals as goal

pub returns : goal.returns
returns g c =
    reads_plan plan_makes (bytes_in wave_limit InputTooLong) (wave_answer c.args.output.now c.args.options)
    (g.H.Host.state c.args.host.now) (g.H.Host.state c.read_input.new.host) c.in_ok-bytes.bytes c.plan.result c.in_ok-bytes.ensures.reads
    (subst (λ (l : List ℕ). Plans plan_makes (wave_answer c.args.output.now c.args.options l) c.plan.result) c.as_slice.ensures c.plan.ensures)

pub returns-in_err-bytes : goal.returns-in_err-bytes
returns-in_err-bytes g c =
    let p = err_from_is_err_and c.from_residual.result c.from_residual.ensures.1 in
    rw (p.1 ∙ ap (λ (why : Refusal Cause). Err why) p.2)
    (reads_declined plan_makes (bytes_in wave_limit InputTooLong) (λ (held : Held). wave_answer c.args.output.now c.args.options)
    (g.H.Host.state c.args.host.now) (g.H.Host.state c.read_input.new.host) _ c.in_err-bytes.ensures.reads)
