use Rattle.command_runner.proofs.Phases.{all_created}
use Rattle.command_runner.proofs.laws.none_has_bytes_before_all_are_created.Goals as goal

pub returns : goal.returns
returns c = all_created
