use Rattle.command_runner.proofs.OutputsMade.{one_ended}
use Rattle.command_runner.proofs.streaming.end.Goals as goal

pub returns-in-Some : goal.returns-in-Some
returns-in-Some g c = rw c.in-Some.is c.end_in_turn.ensures

pub returns-in-None : goal.returns-in-None
returns-in-None g c = rw c.in-None.is (one_ended c.args.targets.wave.0 _ _ c.finish.result c.finish.ensures.made)
