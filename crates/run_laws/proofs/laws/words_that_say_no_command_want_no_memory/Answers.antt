use Rattle.run_laws.proofs.OfRuns.{no_memory_is_no_usage}
use Rattle.run_laws.proofs.laws.words_that_say_no_command_want_no_memory.Goals as goal

pub returns : goal.returns
returns c = λ command old new status run same misread. no_memory_is_no_usage command old new status run same misread
