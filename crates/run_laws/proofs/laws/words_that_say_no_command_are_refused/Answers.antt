use Rattle.run_laws.proofs.OfRuns.{usage_is_misread}
use Rattle.run_laws.proofs.laws.words_that_say_no_command_are_refused.Goals as goal

pub returns : goal.returns
returns c = λ command old new status run. usage_is_misread command old new status run
