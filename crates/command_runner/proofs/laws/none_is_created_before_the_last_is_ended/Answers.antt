use Rattle.command_runner.proofs.Phases.{all_ended_before}
use Rattle.command_runner.proofs.laws.none_is_created_before_the_last_is_ended.Goals as goal

pub returns : goal.returns
returns c = all_ended_before
