use Rattle.command_runner.proofs.Phases.{all_whole}
use Rattle.command_runner.proofs.laws.none_is_ended_before_all_are_whole.Goals as goal

pub returns : goal.returns
returns c = all_whole
