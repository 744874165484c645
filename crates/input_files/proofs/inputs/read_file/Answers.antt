use Rattle.std.proofs.Common.{◌+◌, List, ℕ, subst}
use Rattle.exit_status.specs.declared.cause.Cause.TheVariants.{SpcLength}
use Rattle.input_files.specs.Reading.{Accepts, input_limit, bytes_in}
use Rattle.input_files.specs.Inputs.{file_of}
use Rattle.input_files.proofs.Readings.{reads_accepts}
use Rattle.input_files.proofs.inputs.read_file.Goals as goal

pub returns : goal.returns
returns g c =
    reads_accepts (bytes_in input_limit (SpcLength (input_limit + 1))) file_of (g.H.Host.state c.args.host.now) (g.H.Host.state c.read_input.new.host)
    c.in_ok-bytes.bytes c.accept_file.result c.in_ok-bytes.ensures.reads (subst (λ (l : List ℕ). Accepts (file_of l) c.accept_file.result) c.as_slice.ensures c.accept_file.ensures)
