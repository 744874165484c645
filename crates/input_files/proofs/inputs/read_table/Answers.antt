use Rattle.std.proofs.Common.{List, ℕ, subst}
use Rattle.exit_status.specs.declared.cause.Cause.TheVariants.{InputTooLong}
use Rattle.input_files.specs.Reading.{Accepts, input_limit, bytes_in}
use Rattle.input_files.specs.Inputs.{table_of}
use Rattle.input_files.proofs.Readings.{reads_accepts}
use Rattle.input_files.proofs.inputs.read_table.Goals as goal

pub returns : goal.returns
returns g c =
    reads_accepts (bytes_in input_limit InputTooLong) table_of (g.H.Host.state c.args.host.now) (g.H.Host.state c.read_input.new.host)
    c.in_ok-bytes.bytes c.accept_table.result c.in_ok-bytes.ensures.reads (subst (λ (l : List ℕ). Accepts (table_of l) c.accept_table.result) c.as_slice.ensures c.accept_table.ensures)
