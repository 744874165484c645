use Rattle.std.proofs.Common.{List, ℕ, Err, ap, ◌∙◌, subst}
use Rattle.std.proofs.lemmas.Result.{err_from_is_err_and}
use Rattle.command_runner.specs.declared.refusals.Refusal.{Refusal}
use Rattle.exit_status.specs.declared.cause.Cause.{Cause}
use Rattle.exit_status.specs.declared.cause.Cause.TheVariants.{InputTooLong}
use Rattle.input_files.specs.Reading.{Accepts, input_limit, bytes_in}
use Rattle.input_files.proofs.Readings.{reads_accepts, reads_refused}
use Rattle.command_cuts.specs.Lists.{cuts_of}
use Rattle.command_cuts.proofs.list.read_list.Goals as goal

pub returns : goal.returns
returns g c =
    reads_accepts (bytes_in input_limit InputTooLong) cuts_of (g.H.Host.state c.args.host.now) (g.H.Host.state c.read_input.new.host)
    c.in_ok-bytes.bytes c.accept_list.result c.in_ok-bytes.ensures.reads (subst (λ (l : List ℕ). Accepts (cuts_of l) c.accept_list.result) c.as_slice.ensures c.accept_list.ensures)

pub returns-in_err-bytes : goal.returns-in_err-bytes
returns-in_err-bytes g c =
    let p = err_from_is_err_and c.from_residual.result c.from_residual.ensures.1 in
    rw (p.1 ∙ ap (λ (why : Refusal Cause). Err why) p.2)
    (reads_refused (bytes_in input_limit InputTooLong) cuts_of (g.H.Host.state c.args.host.now) (g.H.Host.state c.read_input.new.host) _ c.in_err-bytes.ensures.reads)
